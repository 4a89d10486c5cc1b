-- What stands above what: steps, and where no pair leads on.
use Rattle.std.proofs.Common.{◌≡◌, ℕ, ◌<◌, true, false, eqb, ◌||◌, List, refl, inl}
use Rattle.std.proofs.Common.{inr, sym, subst, ◌∙◌, ◌↔◌, ◌⊎◌, ◌++◌, ◌∷◌, [], ap, get_or, replicate}
use Rattle.std.proofs.Common.{set}
use Rattle.std.specs.Prelude.{All, Contains}
use Rattle.std.proofs.lemmas.Bool.{or_cases, or_left, or_right}
use Rattle.std.proofs.lemmas.Bool.{cases_eq, eq-eqb, eqb-true, false≢true}
use Rattle.std.proofs.lemmas.Nat.Bits.{bit_at-zero}
use Rattle.std.proofs.lemmas.List.{get_or-replicate, get_or-set_other, get_or-set_same}
use Rattle.std.proofs.lemmas.List.{length-replicate, length-set}
use Rattle.std.proofs.lemmas.List.Elements.{All-contains, Contains-append_cases}
use Rattle.std.proofs.lemmas.List.Elements.{Contains-append_left, Contains-push}
use Rattle.bip_model.specs.Sets.{has}
use Rattle.bip_model.specs.Priorities.{AreDeclaredAbove, HasAbove, IsPairOf, declared, pair}
use Rattle.bip_model.specs.Priorities.{through}
use Rattle.bip_model.specs.declared.parts.Pair.{Pair}
use Rattle.bip_model.proofs.ListLemmas.{Contains-cases, Contains-none}

pub HasAbove-trans : {pairs : List Pair} {a b c : ℕ} → HasAbove pairs a b → HasAbove pairs b c
    → HasAbove pairs a c
HasAbove-trans (declared at) second = through at second
HasAbove-trans (through at rest) second = through at (HasAbove-trans rest second)

-- what stands above something is there
pub HasAbove-high : (count : ℕ) (pairs : List Pair) (a b : ℕ) → All (IsPairOf count) pairs
    → HasAbove pairs a b → b < count
HasAbove-high count pairs a b known (declared at) =
    (All-contains (IsPairOf count) pairs _ known at).high
HasAbove-high count pairs a b known (through at rest) = HasAbove-high count pairs _ b known rest

-- all in a set stand above an interaction
abbrev pub IsWithin : List Pair → ℕ → ℕ → Type 0
IsWithin pairs a set = (b : ℕ) → has set b ≡ true → HasAbove pairs a b

-- from a set all above which an interaction stands it was gone on: whatever pairs lead to from the
-- interaction, or from those that are gone on from, is in it
pub record IsGoneOn (pairs : List Pair) (a set gone_on : ℕ) : Type 0 where
  pub within : IsWithin pairs a set
  pub first : (b : ℕ) → Contains pairs (pair a b) → has set b ≡ true
  pub further : (b c : ℕ) → has gone_on b ≡ true → Contains pairs (pair b c) → has set c ≡ true

-- at first the set is what pairs lead to from the interaction
pub gone_on_first : (pairs : List Pair) (a set : ℕ)
    → ((b : ℕ) → (has set b ≡ true) ↔ Contains pairs (pair a b)) → IsGoneOn pairs a set 0
gone_on_first pairs a set declares = record {
  within = λ b in'. declared ((declares b).0 in');
  first = λ b at. (declares b).1 at;
  further = λ b c none at. absurd (false≢true (sym (has_none b) ∙ none));
}
  where
    has_none : (b : ℕ) → has 0 b ≡ false
    has_none b = rw (bit_at-zero b) refl

-- it is gone on from one more
pub gone_on_more : (pairs : List Pair) (a set gone_on next led more_set more_gone : ℕ)
    → IsGoneOn pairs a set gone_on → has set next ≡ true
    → ((b : ℕ) → (has led b ≡ true) ↔ Contains pairs (pair next b))
    → ((b : ℕ) → has more_set b ≡ (has set b || has led b))
    → ((b : ℕ) → has more_gone b ≡ (eqb b next || has gone_on b))
    → IsGoneOn pairs a more_set more_gone
gone_on_more pairs a set gone_on next led more_set more_gone before in' leads sets gone = record {
  within = λ b at. elim (or_cases (has set b) (has led b) (sym (sets b) ∙ at)) [
    | inl old ↦ before.within b old
    | inr new ↦ HasAbove-trans (before.within next in') (declared ((leads b).0 new))
  ];
  first = λ b at. sets b ∙ or_left (has set b) (has led b) (before.first b at);
  further = λ b c at pairs_at. elim (or_cases (eqb b next) (has gone_on b) (sym (gone b) ∙ at)) [
    | inl same ↦
        let here : b ≡ next = eqb-true b next same in
        sets c ∙ or_right (has set c) (has led c) ((leads c).1
        (subst (λ (x : ℕ). Contains pairs (pair x c)) here pairs_at))
    | inr old ↦ sets c ∙ or_left (has set c) (has led c) (before.further b c old pairs_at)
  ];
}

-- where it is gone on from all in the set, all above are in it
pub all_gone_on : (pairs : List Pair) (a set gone_on : ℕ) → IsGoneOn pairs a set gone_on
    → ((x : ℕ) → has set x ≡ true → has gone_on x ≡ true) → (y : ℕ) → HasAbove pairs a y
    → has set y ≡ true
all_gone_on pairs a set gone_on is all y (declared at) = is.first y at
all_gone_on pairs a set gone_on is all y (through {b} at rest) = from b y (is.first b at) rest
  where
    from : (x z : ℕ) → has set x ≡ true → HasAbove pairs x z → has set z ≡ true
    from x z in' (declared there) = is.further x z (all x in') there
    from x z in' (through {b} there more) = from b z (is.further x b (all x in') there) more

-- no pair leads anywhere
pub declares_none : AreDeclaredAbove [] (replicate 128 0)
declares_none = record {
  each = length-replicate {A = ℕ} 128 0;
  set = λ a b within. (
    λ in'. absurd (false≢true
        (sym (rw (get_or-replicate {A = ℕ} 128 a 0 0 within, bit_at-zero b) refl) ∙ in')),
    λ at. absurd (Contains-none (pair a b) at),
  );
}

-- a pair is one more, or stood there
pair_cases : (pairs : List Pair) (p : Pair) (a b : ℕ) → Contains (pairs ++ p ∷ []) (pair a b)
    → Contains pairs (pair a b) ⊎ ((p.low.0 ≡ a) × (p.high.0 ≡ b))
pair_cases pairs p a b at =
    elim (Contains-append_cases pairs (p ∷ []) (pair a b) at) [
      | inl old ↦ inl old
      | inr new ↦ elim (Contains-cases p [] (pair a b) new) [
        | inl same ↦ inr (ap (λ (q : Pair). q.low.0) same, ap (λ (q : Pair). q.high.0) same)
        | inr none ↦ absurd (Contains-none (pair a b) none)
      ]
    ]

-- one more pair
pub declares_more : (pairs : List Pair) (p : Pair) (sets : List ℕ) (more : ℕ)
    → AreDeclaredAbove pairs sets → p.low.0 < 128
    → ((b : ℕ) → has more b ≡ (eqb b p.high.0 || has (get_or sets p.low.0 0) b))
    → AreDeclaredAbove (pairs ++ p ∷ []) (set sets p.low.0 more)
declares_more pairs p sets more before low has_more = record {
  each = length-set sets p.low.0 more ∙ before.each;
  set = λ a b within. elim (cases_eq a p.low.0) [
    | inl same ↦ rw (same, get_or-set_same sets p.low.0 more 0 (rw before.each low))
        (from_low b, to_low b)
    | inr other ↦ rw (get_or-set_other sets p.low.0 a more 0 other) (
      λ in'. Contains-append_left pairs (p ∷ []) (pair a b) ((before.set a b within).0 in'),
      λ at. elim (pair_cases pairs p a b at) [
        | inl old ↦ (before.set a b within).1 old
        | inr new ↦ absurd (other (sym new.0))
      ],
    )
  ];
}
  where
    from_low : (b : ℕ) → has more b ≡ true → Contains (pairs ++ p ∷ []) (pair p.low.0 b)
    from_low b in' =
        elim (or_cases (eqb b p.high.0) (has (get_or sets p.low.0 0) b) (sym (has_more b) ∙ in')) [
          | inl new ↦ rw (eqb-true b p.high.0 new) (Contains-push pairs p)
          | inr old ↦ Contains-append_left pairs (p ∷ []) (pair p.low.0 b)
              ((before.set p.low.0 b low).0 old)
        ]

    to_low : (b : ℕ) → Contains (pairs ++ p ∷ []) (pair p.low.0 b) → has more b ≡ true
    to_low b at =
        elim (pair_cases pairs p p.low.0 b at) [
          | inl old ↦ has_more b ∙ or_right (eqb b p.high.0) (has (get_or sets p.low.0 0) b)
              ((before.set p.low.0 b low).1 old)
          | inr new ↦ has_more b ∙ or_left (eqb b p.high.0) (has (get_or sets p.low.0 0) b)
              (eq-eqb b p.high.0 (sym new.1))
        ]
