-- An interaction stands in one class.
use Rattle.std.proofs.Common.{◌≡◌, ℕ, zero, suc, ◌+◌, ◌<◌, ◌≤◌, true, false, cond, eqb, List, []}
use Rattle.std.proofs.Common.{◌∷◌, length, get_or, Some, refl, ap, ◌∙◌, arith, inl, inr, eqb-true}
use Rattle.std.proofs.Common.{eq-eqb}
use Rattle.std.specs.Prelude.{Contains, position, sum_by, unwrap_or}
use Rattle.std.proofs.lemmas.Bool.{cases_Bool, cases_lt}
use Rattle.std.proofs.lemmas.Bool.Decides.{nat_tests}
use Rattle.std.proofs.lemmas.List.{get_or_past}
use Rattle.std.proofs.lemmas.List.Folds.{Any-from_list_any, list_any-from_Any}
use Rattle.std.proofs.lemmas.List.Quantifiers.{position-Some}
use Rattle.std.proofs.lemmas.Option.{slice_get-get_or}
use Rattle.std.proofs.lemmas.List.Sums.{get_or-le-sum_by, sum_by-cons}
use Rattle.bip_model.specs.Partitions.{class_in, is_member, times_in}
use Rattle.bip_model.specs.Priorities.{inter}
use Rattle.bip_model.specs.declared.numbering.InterId.{InterId}
use Rattle.bip_model.proofs.ListLemmas.{Contains-none, position_cons}
use Rattle.bip_partition.specs.Laws.{IsPlanned, StandsInItsClass}
use Rattle.bip_partition.specs.Plans.{Planned, StandsAt}

times-cons : (b : InterId) (bs : List InterId) (a : ℕ)
    → times_in (b ∷ bs) a ≡ cond (eqb b.0 a) 1 0 + times_in bs a
times-cons b bs a = sum_by-cons (λ (x : InterId). cond (eqb x.0 a) 1 0) b bs

-- what isn't in a list stands there never, and what is stands there
times_none : (a : ℕ) (list : List InterId) → is_member a list ≡ false → times_in list a ≡ 0
times_none a [] none = refl
times_none a (b ∷ bs) none = grind (arith, nat_tests, times-cons b bs a, times_none a bs)

times_some : (a : ℕ) (list : List InterId) → is_member a list ≡ true → 1 ≤ times_in list a
times_some a [] some = absurd (cc)
times_some a (b ∷ bs) some = elim (cases_Bool (eqb b.0 a)) [
  | inl here ↦ let sum = times-cons b bs a in grind (arith, nat_tests)
  | inr other ↦ let sum = times-cons b bs a in let rest = times_some a bs (rw other at some) in
      grind (arith, nat_tests)
]

-- how often an interaction stands in classes
abbrev times_among : ℕ → List (List InterId) → ℕ
times_among a cs = sum_by (λ c. times_in c a) cs

-- the first class that has it
first_class : (a : ℕ) (cs : List (List InterId)) → 1 ≤ times_among a cs → (k : ℕ)
    × (position (is_member a) cs ≡ Some k)
first_class a [] some = absurd (omega arith)
first_class a (c ∷ cs) some = elim (cases_Bool (is_member a c)) [
  | inl here ↦ (0, rw (position_cons (is_member a) c cs) (rw here refl))
  | inr other ↦
      let rest = first_class a cs (omega (
        arith,
        some,
        sum_by-cons (λ (d : List InterId). times_in d a) c cs,
        times_none a c other,
      )) in
      (rest.0 + 1, rw (position_cons (is_member a) c cs) (rw (other, rest.1) refl))
]

-- no two have it
one_class : (a : ℕ) (cs : List (List InterId)) → times_among a cs ≤ 1 → (i j : ℕ) → i < length cs
    → j < length cs → is_member a (get_or cs i []) ≡ true → is_member a (get_or cs j []) ≡ true
    → i ≡ j
one_class a [] few i j within within' first second = absurd (omega arith)
one_class a (c ∷ cs) few zero zero within within' first second = refl
one_class a (c ∷ cs) few zero (suc j) within within' first second =
    absurd (omega (
      arith,
      few,
      sum_by-cons (λ (d : List InterId). times_in d a) c cs,
      times_some a c first,
      times_some a (get_or cs j []) second,
      get_or-le-sum_by
          (λ (d : List InterId). times_in d a) cs j [] (omega arith),
    ))
one_class a (c ∷ cs) few (suc i) zero within within' first second =
    absurd (omega (
      arith,
      few,
      sum_by-cons (λ (d : List InterId). times_in d a) c cs,
      times_some a c second,
      times_some a (get_or cs i []) first,
      get_or-le-sum_by
          (λ (d : List InterId). times_in d a) cs i [] (omega arith),
    ))
one_class a (c ∷ cs) few (suc i) (suc j) within within' first second =
    ap suc (one_class a cs (omega (
      arith,
      few,
      sum_by-cons (λ (d : List InterId). times_in d a) c cs,
    )) i j (omega arith)
    (omega arith) first second)

member_there : (a : ℕ) (list : List InterId) → is_member a list ≡ true → Contains list (inter a)
member_there a list is =
    let at = Any-from_list_any (λ (b : InterId). eqb b.0 a) list is in
    let same : at.1 ≡ inter a = ap inter (eqb-true at.1.0 a at.4) in
    rw (← same) (at.0, at.2, at.3)

there_member : (a : ℕ) (list : List InterId) → Contains list (inter a) → is_member a list ≡ true
there_member a list at = list_any-from_Any (λ (b : InterId). eqb b.0 a) list
    (at.0, inter a, at.1, at.2, eq-eqb a a refl)

-- a class that has an interaction is one of the classes
class_within : (a k : ℕ) (cs : List (List InterId)) → Contains (get_or cs k []) (inter a)
    → k < length cs
class_within a k cs at = elim (cases_lt k (length cs)) [
  | inl within ↦ within
  | inr past ↦ absurd (Contains-none (inter a) (rw (get_or_past cs k [] past) at at))
]

pub stands_in_its_class : StandsInItsClass
stands_in_its_class p planned a within =
    let cs = p.classes.members in
    let once : times_among a cs ≡ 1 = planned.parted.once a (rw planned.of_model within) in
    let first = first_class a cs (omega (arith, once)) in
    let here = position-Some (is_member a) cs first.0 [] first.1 in
    let is : class_in p.classes a ≡ first.0 = rw first.1 refl in (
      rw is (member_there a (get_or cs first.0 []) here.1),
      λ k at. one_class a cs (omega (arith, once)) k (class_in p.classes a) (class_within a k cs at)
          (rw is here.0) (there_member a (get_or cs k []) at) (rw is here.1),
    )

-- where a list has an interaction
some_place : (a : ℕ) (list : List InterId) → is_member a list ≡ true → (k : ℕ)
    × (position (λ (b : InterId). eqb b.0 a) list ≡ Some k)
some_place a [] is = absurd (cc)
some_place a (b ∷ bs) is = elim (cases_Bool (eqb b.0 a)) [
  | inl here ↦ (0, rw (position_cons (λ (x : InterId). eqb x.0 a) b bs) (rw here refl))
  | inr other ↦
      let rest = some_place a bs (rw other at is) in
      (rest.0 + 1, rw (position_cons (λ (x : InterId). eqb x.0 a) b bs) (rw (other, rest.1) refl))
]

pub stands_at : (p : Planned) (a : ℕ) → IsPlanned p → a < length p.model.interactions
    → StandsAt p a (unwrap_or (position (λ (b : InterId). eqb b.0 a)
    (get_or p.classes.members (class_in p.classes a) [])) 0)
stands_at p a planned within =
    let list = get_or p.classes.members (class_in p.classes a) [] in
    let place = some_place a list (there_member a list
    (stands_in_its_class p planned a within).0) in
    let here = position-Some (λ (b : InterId). eqb b.0 a) list place.0 (inter a) place.1 in
    let same : get_or list place.0 (inter a) ≡ inter a =
    ap inter (eqb-true (get_or list place.0 (inter a)).0 a here.1) in
    rw place.1 (slice_get-get_or list place.0 (inter a) here.0 ∙ ap Some same)

-- the class of an interaction is one of them
pub class_known : (p : Planned) (a : ℕ) → IsPlanned p → a < length p.model.interactions
    → class_in p.classes a < length p.classes.members
class_known p a planned within = class_within a (class_in p.classes a) p.classes.members
    (stands_in_its_class p planned a within).0
