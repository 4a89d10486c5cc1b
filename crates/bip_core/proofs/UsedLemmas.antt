-- Used numbers: a grant that joins a history uses what it moves, and a grant that moves a component
-- with a number is the only one of its history that does.
use Rattle.std.proofs.Common.{◌≡◌, ℕ, ◌<◌, ◌≤◌, List, [], ◌∷◌, ◌++◌, sym, ap, ◌∙◌, subst, inl, inr}
use Rattle.std.proofs.Common.{arith, slice_get}
use Rattle.std.proofs.lemmas.Option.{same_Some}
use Rattle.bip_model.specs.Grants.{IsHistory, used_by}
use Rattle.bip_model.specs.Numbering.{put}
use Rattle.bip_model.specs.Wants.{IsFresh, moved_in, raised}
use Rattle.bip_model.specs.declared.grants.Grant.{Grant}
use Rattle.bip_model.specs.declared.wants.Want.{Want}
use Rattle.bip_model.proofs.HistoryLemmas.{IsHistory-append, moves_once}
use Rattle.bip_core.specs.Lists.{In}
use Rattle.bip_core.proofs.ListLemmas.{All-each, in-slice_get}
use Rattle.bip_core.proofs.PutLemmas.{all_put}

-- a fresh grant joins a history
pub history-push : (used : ℕ → ℕ) (gs : List Grant) (g : Grant) → IsHistory used gs
    → IsFresh (used_by used gs) g.wants → IsHistory used (gs ++ g ∷ [])
history-push used gs g history fresh = (IsHistory-append used gs (g ∷ [])).1 (history, (fresh, tt))

-- no used number falls
used-grows : (used : ℕ → ℕ) (gs : List Grant) (c : ℕ) → used c ≤ used_by used gs c
used-grows used [] c = omega arith
used-grows used (g ∷ gs) c = omega (arith, used-grows (raised used g.wants) gs c)

-- what a grant moved is used
pub moved-used : (used : ℕ → ℕ) (gs : List Grant) (g : Grant) (c : ℕ) → In g gs
    → moved_in g.wants c ≤ used_by used gs c
moved-used used [] g c at = absurd at
moved-used used (f ∷ gs) g c at = elim at [
  | inl first ↦
      let same = ap (λ (x : Grant). moved_in x.wants c) first in
      omega (arith, same, used-grows (raised used f.wants) gs c)
  | inr later ↦ moved-used (raised used f.wants) gs g c later
]

-- what a grant of a history wants has a number above what was used at first
wanted_above : (used : ℕ → ℕ) (gs : List Grant) (g : Grant) (w : Want) → IsHistory used gs
    → In g gs → In w g.wants → used w.comp.0 < w.number
wanted_above used [] g w history at wants = absurd at
wanted_above used (f ∷ gs) g w history at wants = elim at [
  | inl first ↦
      let among : In w f.wants = subst (λ (x : Grant). In w x.wants) first wants in
      All-each (λ (v : Want). used v.comp.0 < v.number) f.wants history.0 w among
  | inr later ↦
      omega (arith, wanted_above (raised used f.wants) gs g w history.1 later wants)
]

-- two grants of a history that move what one of them wants with its number are the same
pub granted_once : (used : ℕ → ℕ) (gs : List Grant) (g f : Grant) (w : Want) → IsHistory used gs
    → In g gs → In f gs → In w g.wants → moved_in g.wants w.comp.0 ≡ w.number
    → moved_in f.wants w.comp.0 ≡ w.number → g ≡ f
granted_once used gs g f w history in_g in_f wants moves_g moves_f =
    let (i, at_i) = in-slice_get g gs in_g in
    let (j, at_j) = in-slice_get f gs in_f in
    let above = wanted_above used gs g w history in_g wants in
    let moves : 0 < moved_in g.wants w.comp.0 = omega (arith, above, moves_g) in
    let places = moves_once used gs history i j w.comp.0 g f at_i at_j moves in
    let same : i ≡ j = places (moves_g ∙ sym moves_f) in
    same_Some g f (sym at_i ∙ (ap (slice_get gs) same ∙ at_j))

-- a class learns what wants move
module _ (known : ℕ → ℕ → ℕ) (k : ℕ) (wants : List Want) where
  abbrev pub learning : ℕ → ℕ → ℕ
  learning = put known k (raised (known k) wants)

  -- none of its known numbers falls
  pub learns_more : (j c : ℕ) → known j c ≤ learning j c
  learns_more = all_put (λ j now. (c : ℕ) → known j c ≤ now c) known k (raised (known k) wants)
      (λ c. omega arith)
      (λ j other c. omega arith)

  -- and none is above what bounds both
  pub learns_within : (bound : ℕ → ℕ) → ((j c : ℕ) → known j c ≤ bound c)
      → ((c : ℕ) → moved_in wants c ≤ bound c) → (j c : ℕ) → learning j c ≤ bound c
  learns_within bound old new =
      all_put (λ j now. (c : ℕ) → now c ≤ bound c) known k (raised (known k) wants)
      (λ c. omega (arith, old k c, new c)) (λ j other. old j)
