-- A component has a row only where there is a reason, and an interaction looks only where there is
-- a cause.
use Rattle.std.proofs.Common.{◌≡◌, ◌≢◌, ◌↔◌, ℕ, ◌<◌, false, eqb, List, [], ◌∷◌, length, get_or}
use Rattle.std.proofs.Common.{Option, None, Some, find, ap, sym, ◌∙◌, subst, arith, inl, inr}
use Rattle.std.proofs.Common.{eqb-true}
use Rattle.std.specs.Prelude.{Contains, IfNone, IfSome}
use Rattle.std.proofs.lemmas.Bool.{cases_Bool, eqb-false, false≢true}
use Rattle.std.proofs.lemmas.List.Elements.{All-contains, Contains-get_or}
use Rattle.bip_model.specs.Numbering.{IsLowest}
use Rattle.bip_model.specs.Priorities.{IsListAbove, inter}
use Rattle.bip_model.specs.Steps.{IsLookedAt, moves}
use Rattle.bip_model.specs.declared.numbering.ClassId.{ClassId}
use Rattle.bip_model.specs.declared.numbering.InterId.{InterId}
use Rattle.bip_model.specs.declared.parts.System.{System}
use Rattle.bip_model.proofs.FoundLemmas.{first_is_lowest}
use Rattle.bip_model.proofs.ListLemmas.{Contains-cases, Contains-none, below_later, found_at}
use Rattle.bip_model.proofs.ListLemmas.{not_found}
use Rattle.bip_partition.specs.Plans.{ClassTouches, IsListTouching, IsTabled, Planned, Touches}
use Rattle.bip_partition.specs.Plans.{beside, looked_at, of_two_classes}
use Rattle.bip_review.specs.Reasons.{IsSeen, IsShared, Joins, MovesFromAbove}

-- a component with a row has one of the three reasons: what stands beside itself has another reason
-- before
pub no_row : (p : Planned) (c : ℕ) → (¬ IsSeen p.model c) → (¬ IsShared p c)
    → ((a : ℕ) → ¬ Joins p c a) → (n : ℕ) → n ≡ c → ¬ IsTabled p n
no_row p c unseen alone apart n is (looked_at {a} looked) =
    unseen (a, subst (λ k. IsLookedAt p.model a k) is looked)
no_row p c unseen alone apart n is (of_two_classes {k} {l} differ one other) =
    alone (record {
      one = k;
      other = l;
      differ = differ;
      one_touches = subst (λ i. ClassTouches p k i) is one;
      other_touches =
          subst (λ i. ClassTouches p l i) is other;
    })
no_row p c unseen alone apart n is (beside {a} {d = d} own near rest) =
    elim (cases_Bool (eqb d c)) [
      | inl same ↦ no_row p c unseen alone apart d (eqb-true d c same) rest
      | inr differ ↦ apart a (
        d,
        record {
          touched = subst (λ i. Touches p.model a i) is own;
          other = eqb-false d c differ;
          beside = near;
          tabled = rest;
        },
      )
    ]

-- the only one of a list
only : {X : Type 0} (x z : X) → Contains (x ∷ []) z → x ≡ z
only x z at = elim (Contains-cases x [] z at) [
  | inl same ↦ same
  | inr none ↦ absurd (Contains-none z none)
]

-- a list that has two different numbers has more than one
two_in : (list : List ClassId) (k l : ℕ) → k ≢ l → Contains list (record { 0 = k })
    → Contains list (record { 0 = l }) → 1 < length list
two_in [] k l differ first second = absurd (Contains-none _ first)
two_in (x ∷ []) k l differ first second = absurd (differ
    (ap (λ (z : ClassId). z.0) (sym (only x (record { 0 = k }) first)
    ∙ only x (record { 0 = l }) second)))
two_in (x ∷ y ∷ ys) k l differ first second = omega arith

-- two classes touch a component where the list of those that do has more than one
pub shared_where : (p : Planned) (c : ℕ) (list : List ClassId) → IsListTouching p c list
    → (1 < length list) ↔ IsShared p c
shared_where p c list is = (
  λ many.
      let none : ClassId = record { 0 = 0 } in
      let rise = below_later (λ (k : ClassId). k.0) list is.rising 0 1 none (omega arith) many in
      let touches : (i : ℕ) → i < length list → ClassTouches p (get_or list i none).0 c =
      λ i below. (is.exact (get_or list i none).0).0 (Contains-get_or list i none below) in
      record {
        one = (get_or list 0 none).0;
        other = (get_or list 1 none).0;
        differ = λ same. omega (arith, rise, same);
        one_touches =
            touches 0 (omega arith);
        other_touches = touches 1 many;
      },
  λ shared. two_in list shared.one shared.other shared.differ
      ((is.exact shared.one).1 shared.one_touches) ((is.exact shared.other).1 shared.other_touches),
)

-- the first of those above that moves a component is the lowest
pub cause_found : (m : System) (a c : ℕ) (list : List InterId) (b : InterId)
    → IsListAbove m.priorities a list → find (λ (o : InterId). moves m o.0 c) list ≡ Some b
    → IsLowest (MovesFromAbove m a c) b.0
cause_found m a c list b is found =
    let at = found_at (λ (o : InterId). moves m o.0 c) list b found in
    record {
      here = record { above = (is.exact b.0).0 at.0; moved = at.1 };
      lower = λ k below moved.
          let still = first_is_lowest (λ (o : InterId). o.0)
          (λ (o : InterId). moves m o.0 c) list b is.rising found (inter k)
          ((is.exact k).1 moved.above) below in
          false≢true (sym still ∙ moved.moved);
    }

-- where none is found, none of those above moves it
pub cause_lacks : (m : System) (a c : ℕ) (list : List InterId) → IsListAbove m.priorities a list
    → find (λ (o : InterId). moves m o.0 c) list ≡ None → (b : ℕ) → ¬ MovesFromAbove m a c b
cause_lacks m a c list is none b moved =
    let still : moves m b c ≡ false = All-contains (λ (o : InterId). moves m o.0 c ≡ false) list
    (inter b) (not_found (λ (o : InterId). moves m o.0 c) list none)
    ((is.exact b).1 moved.above) in
    false≢true (sym still ∙ moved.moved)

-- the same of what is found, or isn't
pub cause_of : (m : System) (a c : ℕ) (list : List InterId) (o : Option InterId)
    → IsListAbove m.priorities a list → o ≡ find (λ (b : InterId). moves m b.0 c) list
    → IfSome o (λ b. IsLowest (MovesFromAbove m a c) b.0)
    × IfNone o ((b : ℕ) → ¬ MovesFromAbove m a c b)
cause_of m a c list None is found = (tt, cause_lacks m a c list is (sym found))
cause_of m a c list (Some b) is found = (cause_found m a c list b is (sym found), tt)

-- what holds anyway holds where there is no answer
pub if_none : {X : Type 0} (o : Option X) (P : Type 0) → P → IfNone o P
if_none None P holds = holds
if_none (Some x) P holds = tt
