-- By offers an interaction has one list of wants.
use Rattle.std.proofs.Common.{◌≡◌, ℕ, List, refl, sym, ap, ◌∙◌, subst}
use Rattle.std.specs.Prelude.{Contains}
use Rattle.std.proofs.lemmas.List.Elements.{All-contains}
use Rattle.bip_model.specs.Laws.{OneWantsEach}
use Rattle.bip_model.specs.Parties.{AreWantsBy, IsWanted}
use Rattle.bip_model.specs.Wants.{components_of}
use Rattle.bip_model.specs.declared.messages.Offer.{Offer}
use Rattle.bip_model.specs.declared.parts.System.{System}
use Rattle.bip_model.specs.declared.reasons.Why.{Why}
use Rattle.bip_model.specs.declared.wants.Role.{Role}
use Rattle.bip_model.specs.declared.wants.Role.TheVariants.{Moved, Seen}
use Rattle.bip_model.specs.declared.wants.Want.{Want}
use Rattle.bip_model.proofs.NumberingLemmas.{rises_from_increasing, same_list}

-- a want by its parts
abbrev want_of : ℕ → ℕ → Role → Want
want_of c number role = record { comp = record { 0 = c }; number = number; role = role }

same_want : (c d n k : ℕ) (r t : Role) → c ≡ d → n ≡ k → r ≡ t → want_of c n r ≡ want_of d k t
same_want c d n k r t comps numbers roles = rw (comps, numbers, roles) refl

-- what is wanted of a component with a role is that want
wanted_is : (m : System) (o : ℕ → Offer) (a : ℕ) (reasons : List Why) (ys : List Want) (w : Want)
    → AreWantsBy m o a reasons ys → w.number ≡ (o w.comp.0).number → IsWanted w.role ys w.comp.0
    → Contains ys w
wanted_is m o a reasons ys w theirs number (j, u, within, is, at) =
    let numbered : u.number ≡ (o u.comp.0).number =
    All-contains (λ (v : Want). v.number ≡ (o v.comp.0).number) ys u theirs.numbers
    (j, within, is) in
    let same : u ≡ w = same_want u.comp.0 w.comp.0 u.number w.number u.role w.role at.0
    (numbered ∙ (ap (λ (c : ℕ). (o c).number) at.0 ∙ sym number)) at.1 in
    subst (λ (v : Want). Contains ys v) same (j, within, is)

both_want : (m : System) (o : ℕ → Offer) (a : ℕ) (reasons : List Why) (xs ys : List Want)
    → AreWantsBy m o a reasons xs → AreWantsBy m o a reasons ys → (w : Want) → Contains xs w
    → Contains ys w
both_want m o a reasons xs ys one other w at =
    let number = All-contains (λ (v : Want). v.number ≡ (o v.comp.0).number) xs w one.numbers at in
    by_role w.role refl number
  where
    by_role : (r : Role) → w.role ≡ r → w.number ≡ (o w.comp.0).number → Contains ys w
    by_role Moved is number =
        let wanted : IsWanted Moved xs w.comp.0 = (at.0, w, at.1, at.2, (refl, is)) in
        let theirs : IsWanted Moved ys w.comp.0 =
        (other.parties.moved w.comp.0).1 ((one.parties.moved w.comp.0).0 wanted) in
        wanted_is m o a reasons ys w other number
        (subst (λ (r : Role). IsWanted r ys w.comp.0) (sym is) theirs)
    by_role Seen is number =
        let wanted : IsWanted Seen xs w.comp.0 = (at.0, w, at.1, at.2, (refl, is)) in
        let theirs : IsWanted Seen ys w.comp.0 =
        (other.named w.comp.0).1 ((one.named w.comp.0).0 wanted) in
        wanted_is m o a reasons ys w other number
        (subst (λ (r : Role). IsWanted r ys w.comp.0) (sym is) theirs)

pub one_wants_each : OneWantsEach
one_wants_each m o a reasons xs ys one other =
    same_list (λ (w : Want). w.comp.0) xs ys (rises_from_increasing (components_of xs) one.rising)
    (rises_from_increasing (components_of ys) other.rising)
    (both_want m o a reasons xs ys one other) (both_want m o a reasons ys xs other one)
