-- What is linked to a set of components: steps, and where no interaction leads on.
use Rattle.std.proofs.Common.{◌≡◌, ℕ, ◌<◌, Bool, true, false, eqb, ◌||◌, not, List, None, Some, inl}
use Rattle.std.proofs.Common.{inr, sym, ◌∙◌}
use Rattle.std.specs.Prelude.{All, Any}
use Rattle.std.specs.List.{list_any}
use Rattle.std.proofs.lemmas.Bool.{cases_Bool, not-true, not-false, or_cases, or_right, eqb-true}
use Rattle.std.proofs.lemmas.List.Elements.{All-contains}
use Rattle.std.proofs.lemmas.List.Folds.{Any-from_list_any, list_any-from_Any}
use Rattle.bip_model.specs.Sets.{has}
use Rattle.bip_partition.specs.Tables.{AreTouched, HaveBits, IsLinked, comp, inside, outside_beside}
use Rattle.bip_partition.specs.Tables.{shared}
use Rattle.bip_model.specs.declared.numbering.CompId.{CompId}
use Rattle.bip_model.proofs.ListLemmas.{found_at, not_found}

-- whether a component is in a set
abbrev pub is_inside : ℕ → CompId → Bool
is_inside set c = has set c.0

-- whether it is outside
abbrev pub is_outside : ℕ → CompId → Bool
is_outside set c = not (has set c.0)

-- the first ones are in a set, and all in it are linked to them
pub record IsWithin (touches : List (List CompId)) (start set : ℕ) : Type 0 where
  pub started : (c : ℕ) → has start c ≡ true → has set c ≡ true
  pub linked : (c : ℕ) → has set c ≡ true → IsLinked touches start c

-- a component outside of a set that an interaction touches beside one inside
pub record IsBeside (touches : List (List CompId)) (set : ℕ) (c : CompId) : Type 0 where
  pub other : ℕ
  pub within : has set other ≡ true
  pub touched : AreTouched touches c.0 other
  pub out : has set c.0 ≡ false

pub IsBeside-found : (touches : List (List CompId)) (set : ℕ) (c : CompId)
    → Any (λ touched. outside_beside set touched ≡ Some c) touches → IsBeside touches set c
IsBeside-found touches set c (k, touched, below, at, is) =
    elim (cases_Bool (list_any (is_inside set) touched)) [
      | inr none ↦ let h = rw none at is in absurd (cc)
      | inl some ↦
          let (j, d, below', at', within) = Any-from_list_any (is_inside set) touched some in
          let first = found_at (is_outside set) touched c (rw some at is) in
          record {
            other = d.0;
            within = within;
            touched = record {
              touched = touched;
              interaction = (k, below, at);
              first = first.0;
              second = (j, below', at');
            };
            out = not-true (has set c.0) first.1;
          }
    ]

-- where each interaction leads nowhere, what it touches beside one inside is inside
pub closed : (touches : List (List CompId)) (set : ℕ)
    → All (λ touched. outside_beside set touched ≡ None) touches → (c d : ℕ)
    → AreTouched touches c d → has set d ≡ true → has set c ≡ true
closed touches set none c d both within =
    let (j, below, at) = both.second in
    let some : list_any (is_inside set) both.touched ≡ true =
    list_any-from_Any (is_inside set) both.touched (j, comp d, below, at, within) in
    let still : outside_beside set both.touched ≡ None =
    All-contains (λ touched. outside_beside set touched ≡ None) touches both.touched none
    both.interaction in
    let all = not_found (is_outside set) both.touched (rw some at still) in
    not-false (has set c) (All-contains (λ e. is_outside set e ≡ false) both.touched
    (comp c) all both.first)

pub all_within : (touches : List (List CompId)) (start set : ℕ) → IsWithin touches start set
    → All (λ touched. outside_beside set touched ≡ None) touches → (c : ℕ)
    → IsLinked touches start c → has set c ≡ true
all_within touches start set within none c (inside first) = within.started c first
all_within touches start set within none c (shared {d} both rest) =
    closed touches set none c d both (all_within touches start set within none d rest)

pub IsBeside-below : (touches : List (List CompId)) (set : ℕ) (c : CompId) → All HaveBits touches
    → IsBeside touches set c → c.0 < 64
IsBeside-below touches set c known next =
    let both = next.touched in
    All-contains (λ (d : CompId). d.0 < 64) both.touched c
    (All-contains HaveBits touches both.touched known both.interaction) both.first

-- one more component
pub IsWithin-more : (touches : List (List CompId)) (start set more : ℕ) (c : CompId)
    → IsWithin touches start set → IsBeside touches set c
    → ((b : ℕ) → has more b ≡ (eqb b c.0 || has set b)) → IsWithin touches start more
IsWithin-more touches start set more c before next is = record {
  started = λ b first. is b ∙ or_right (eqb b c.0) (has set b) (before.started b first);
  linked = λ b in'. elim (or_cases (eqb b c.0) (has set b) (sym (is b) ∙ in')) [
    | inl same ↦ rw (eqb-true b c.0 same) (shared next.touched
        (before.linked next.other next.within))
    | inr old ↦ before.linked b old
  ];
}
