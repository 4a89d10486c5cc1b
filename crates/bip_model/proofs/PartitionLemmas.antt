-- Names that are apart, interactions that stand once, and partitions as they are kept.
use Rattle.std.proofs.Common.{◌≡◌, ℕ, zero, suc, ◌+◌, ◌<◌, ◌≤◌, false, cond, eqb, ◌||◌, List, []}
use Rattle.std.proofs.Common.{◌∷◌, length, map, get_or, take, refl, sym, ap, ◌∙◌, inl, inr, arith}
use Rattle.std.proofs.Common.{All, sum_by, ◌⊎◌}
use Rattle.std.specs.List.{AllByRecursion, IsDistinct, list_any}
use Rattle.std.specs.List.Sorted.{IsNonDecreasingBy, IsPermutation, IsStrictlyIncreasing}
use Rattle.std.proofs.lemmas.Bool.{cases_eq, cases_lt, false_from_ne_true, false≢true}
use Rattle.std.proofs.lemmas.List.Folds.{fold-map, list_any_at}
use Rattle.std.proofs.Math.Path.{fun_ext}
use Rattle.std.proofs.lemmas.Bool.Decides.{nat_tests}
use Rattle.std.proofs.lemmas.Cmp.{nat_list_eq_equiv}
use Rattle.std.proofs.lemmas.List.{length-map}
use Rattle.std.proofs.lemmas.List.Elements.{All-map}
use Rattle.std.proofs.lemmas.List.Sorted.{All-permutation, length_permutation, sum_by-IsPermutation}
use Rattle.std.proofs.lemmas.List.Sums.{get_or-le-sum_by, sum_by-cons}
use Rattle.bip_model.specs.Laws.{IsInOrder, PartsOrMisplaces, times_parted}
use Rattle.bip_model.specs.Naming.{AreApart, is_known, same_text}
use Rattle.bip_model.specs.Partitions.{AreDifferent, IsClasses, IsPartition, in_order, numbers_in}
use Rattle.bip_model.specs.Partitions.{times_in}
use Rattle.bip_model.specs.declared.numbering.InterId.{InterId}
use Rattle.bip_model.specs.declared.partitions.Partition.{Partition}
use Rattle.bip_model.proofs.NumberingLemmas.{by_number-IsPermutation, by_number-rises}
use Rattle.bip_model.proofs.NumberingLemmas.{increasing_from_rises, sorted-is}

-- names are told by their classes
pub list_any-named : {C : Type 0} (name : C → List ℕ) (other : List ℕ) (classes : List C)
    → is_known other (map name classes) ≡ list_any (λ c. same_text other (name c)) classes
list_any-named name other [] = refl
list_any-named name other (c ∷ cs) = ap (λ b. same_text other (name c) || b)
    (list_any-named name other cs)

-- one that stands apart behind others is none of them
pub unknown_before : {C : Type 0} (name : C → List ℕ) (classes : List C) (i : ℕ) (d : C)
    → AreApart (map name classes) → i < length classes
    → is_known (name (get_or classes i d)) (map name (take i classes)) ≡ false
unknown_before name [] i d apart within = absurd (omega arith)
unknown_before name (c ∷ cs) zero d apart within = refl
unknown_before name (c ∷ cs) (suc i) d apart within =
    let differs : same_text (name c) (name (get_or cs i d)) ≡ false = false_from_ne_true _ (λ same.
    false≢true (sym apart.0 ∙ (list_any-named name (name c) cs
    ∙ list_any_at (λ k. same_text (name c) (name k)) cs i d (omega arith) same))) in
    rw (nat_list_eq_equiv.symm (name (get_or cs i d)) (name c) ∙ differs)
    (unknown_before name cs i d apart.1 (omega arith))

abbrev pub number_of : InterId → ℕ
number_of a = a.0

times-cons : (b : InterId) (bs : List InterId) (a : ℕ)
    → times_in (b ∷ bs) a ≡ cond (eqb b.0 a) 1 0 + times_in bs a
times-cons b bs a = sum_by-cons (λ (x : InterId). cond (eqb x.0 a) 1 0) b bs

-- a number that stands nowhere differs from all
other_numbers : (a : ℕ) (bs : List InterId) → times_in bs a ≡ 0
    → AllByRecursion (λ n. eqb a n ≡ false) (numbers_in bs)
other_numbers a [] none = tt
other_numbers a (b ∷ bs) none =
    let sum = times-cons b bs a in
    (grind (arith, nat_tests), other_numbers a bs (grind (arith, nat_tests)))

-- interactions that stand once differ in number
pub numbers_differ : (class : List InterId) → AreDifferent class → IsDistinct eqb (numbers_in class)
unfolding IsDistinct
numbers_differ [] once = tt
numbers_differ (b ∷ bs) once = (
  other_numbers b.0 bs (grind (arith, nat_tests, times-cons b bs b.0, once b.0)),
  numbers_differ bs (λ a. omega (arith, times-cons b bs a, once a)),
)

-- a number above all stands nowhere
none_past : (a count : ℕ) (bs : List InterId) → count ≤ a → All (λ (b : InterId). b.0 < count) bs
    → times_in bs a ≡ 0
none_past a count [] past known = refl
none_past a count (b ∷ bs) past known =
    grind (
      arith,
      nat_tests,
      times-cons b bs a,
      known 0 b (omega arith),
      none_past a count bs past (λ k d within. known (suc k) d (omega arith)),
    )

-- of classes that part interactions, each has different ones
pub differ_in_classes : {C : Type 0} (name : C → List ℕ) (members : C → List InterId) (count : ℕ)
    (classes : List C)
    → IsPartition name members count classes → All (λ c. AreDifferent (members c)) classes
differ_in_classes name members count classes valid k d within a = elim (cases_lt a count) [
  | inl below ↦ omega (
    arith,
    get_or-le-sum_by (λ c. times_in (members c) a) classes k d within,
    valid.once a below,
  )
  | inr past ↦ omega (
    arith,
    none_past a count (members
        (get_or classes k d)) past (valid.known k d within),
  )
]

-- what a sort leaves of a class
pub sorted_class : (class sorted : List InterId) → AreDifferent class → IsPermutation class sorted
    → IsNonDecreasingBy number_of sorted → in_order class ≡ sorted
sorted_class class sorted differ moved up = sorted-is number_of class sorted moved up
    (numbers_differ class differ)

pub is_in_order : (class : List InterId) → AreDifferent class → IsInOrder class (in_order class)
is_in_order class differ = record {
  these = by_number-IsPermutation number_of class;
  rising = increasing_from_rises (numbers_in (in_order class))
      (by_number-rises number_of class (numbers_differ class differ));
}

-- lists that are a partition are kept as classes
pub classes_of_partition : {C : Type 0} (name : C → List ℕ) (members : C → List InterId) (count : ℕ)
    (classes : List C) (kept : Partition)
    → IsPartition name members count classes → kept.count ≡ count → kept.names ≡ map name classes
    → kept.members ≡ map (λ c. in_order (members c)) classes → IsClasses kept
classes_of_partition {C} name members count classes kept valid is_count is_names is_members =
    record {
      few = rw (is_names, length-map) valid.few;
      apart = rw is_names valid.apart;
      paired = rw (is_names, is_members) (simp length-map refl);
      filled = of_each (λ class. 0 < length class)
          (λ k d within. rw (length_permutation _ _ (moved (get_or classes k d)))
          (valid.filled k d within));
      rising = of_each (λ class. IsStrictlyIncreasing (numbers_in class))
          (λ k d within. (is_in_order (members (get_or classes k d))
          (differ_in_classes name members count classes valid k d within)).rising);
      known = rw is_count (of_each (All (λ a. a.0 < count))
          (λ k d within. All-permutation (λ (a : InterId). a.0 < count) _ _
          (moved (get_or classes k d))
          (valid.known k d within)));
      once = λ a within. rw is_members (fold-map (λ n class. n + times_in class a)
          (λ c. in_order (members c)) 0 classes ∙ (ap (λ f. sum_by f classes) (fun_ext (same a))
          ∙ valid.once a (rw is_count at within)));
    }
  where
    moved : (c : C) → IsPermutation (members c) (in_order (members c))
    moved c = by_number-IsPermutation number_of (members c)

    of_each : (P : List InterId → Type 0) → All (λ c. P (in_order (members c))) classes
        → All P kept.members
    of_each P all = rw is_members (All-map P (λ c. in_order (members c)) classes all)

    same : (a : ℕ) (c : C) → times_in (in_order (members c)) a ≡ times_in (members c) a
    same a c = sum_by-IsPermutation (λ (b : InterId). cond (eqb b.0 a) 1 0) (members c)
        (in_order (members c)) (moved c)

-- each below a count makes one, or one of them doesn't
once_or_not : (f : ℕ → ℕ) (count : ℕ) → ((a : ℕ) → a < count → f a ≡ 1)
    ⊎ ((a : ℕ) × (a < count) × ((f a ≡ 0) ⊎ (1 < f a)))
once_or_not f zero = inl (λ a within. absurd (omega arith))
once_or_not f (suc n) = elim (once_or_not f n) [
  | inr (a, within, times) ↦ inr (a, omega arith, times)
  | inl each ↦ elim (cases_eq (f n) 1) [
    | inl one ↦ inl (λ a within. elim (cases_eq a n)
        [ inl last ↦ rw last one | inr other ↦ each a (omega arith) ])
    | inr other ↦ inr (
      n,
      omega arith,
      elim (cases_lt 1 (f n)) [
        | inl more ↦ inr more
        | inr most ↦
            inl (omega arith)
      ],
    )
  ]
]

pub parts_or_misplaces : PartsOrMisplaces
parts_or_misplaces count classes few apart filled known =
    elim (once_or_not (times_parted (λ c. c.1) classes) count) [
      | inl once ↦ inl (record {
        few = few;
        apart = apart;
        filled = filled;
        known = known;
        once = once;
      })
      | inr (a, within, times) ↦ inr (a, record { known = within; times = times })
    ]
