-- A lifetime inside another one, made for a call and ended behind it.
use mathlib.Core.List.{[], ◌∷◌}
use Prim.Native.Nat.{ℕ}
use seplogic.Ra.Ura.{Ura}
use base.Fraction.{full_share}
use base.FractionLaws.{common}
use base.Fml.{Lft, Share, flft, fdead}
use base.Logic.{SProp, ent, sep, ex, wand, wand_i, apply∗}
use contract.BorrowLft.{meet_⊑_left}
use types.Kit.{‵, raw, ◌⊛◌, ◌$◌, ◌∵◌, !, qed, move, use1, use2, split, updating, show}
use types.Kit.{now as at_once, done}
use types.Logic.{Logic}
use types.Tokens.{lft_new, lft_end, lft-common}

module _ {M : Type 1} {𝓤 : Ura M} (𝓛 : Logic 𝓤) (ρ : Lft) (q : Share) where
  open 𝓛 use {H, A}

  abbrev pub Ends : ℕ → Share → SProp 𝓤
  Ends a s = wand 𝓤 (A.lft (a ∷ ρ) s) (H.⇛ (sep 𝓤 (A.dead (a ∷ ρ)) (A.lft ρ q)))

  abbrev pub Begun : ℕ × Share → SProp 𝓤
  Begun p = sep 𝓤 (A.lft (p.0 ∷ ρ) p.1) (Ends p.0 p.1)

  -- a new lifetime inside ρ, with its token, and the way to end it
  pub begins : ent 𝓤 (A.lft ρ q) (H.⇛ (ex 𝓤 Begun))
  begins =
      qed 𝓛 (‵ (flft ρ q) ∷ []) ∵ updating ! $ lft_new ! tt (λ a.
      let s : Share = (common full_share q).0 in
      let Back' : SProp 𝓤 = wand 𝓤 (A.lft (a ∷ ρ) s)
      (sep 𝓤 (A.lft (a ∷ []) full_share) (A.lft ρ q)) in
      use2 𝓛 (‵ (flft (a ∷ ρ) s) ⊛ raw Back') (lft-common 𝓛 (a ∷ []) ρ full_share q) $ split ! $
      move ! (1 ∷ []) $
      use1 𝓛 (raw (Ends a s)) (wand_i 𝓤 Back' (A.lft (a ∷ ρ) s) _
      (qed 𝓛 (raw Back' ∷ ‵ (flft (a ∷ ρ) s) ∷ []) ∵ updating ! $ move ! (1 ∷ 0 ∷ []) $
      use2 𝓛 (‵ (flft (a ∷ []) full_share) ⊛ ‵ (flft ρ q))
      (apply∗ 𝓤 (A.lft (a ∷ ρ) s) (sep 𝓤 (A.lft (a ∷ []) full_share) (A.lft ρ q))) $ split ! $
      lft_end ! tt $
      use1 𝓛 (‵ (fdead (a ∷ ρ))) (𝓛.lfts.dead-incl (a ∷ ρ) (a ∷ []) (meet_⊑_left (a ∷ []) ρ)) $
      at_once ! $ done !)) $
      at_once ! $ show ! Begun (a, s) $ move ! (1 ∷ 0 ∷ []) $ done !)
