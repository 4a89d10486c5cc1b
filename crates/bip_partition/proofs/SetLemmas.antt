-- Sets of components: what two have together, what they share, and the set of a list.
use Rattle.std.proofs.Common.{◌≡◌, ◌⊎◌, ℕ, ◌+◌, ◌<◌, ◌^◌, eqb, ◌||◌, List, length, take, get_or}
use Rattle.std.proofs.Common.{min, refl, sym, ◌∙◌, inl, inr, arith}
use Rattle.std.specs.Prelude.{IsTrue, bit_and, bit_or}
use Rattle.std.specs.Int.{bit_at, trailing_zeros}
use Rattle.std.specs.List.{list_any}
use Rattle.std.proofs.Math.Bool.{or_comm}
use Rattle.std.proofs.lemmas.Bool.{cases_lt, eqb-true}
use Rattle.std.proofs.lemmas.Bool.Decides.{eqb_tells}
use Rattle.std.proofs.lemmas.List.Folds.{list_any_more}
use Rattle.std.proofs.lemmas.Nat.{and_le_l}
use Rattle.std.proofs.lemmas.Nat.Bits.{bit_at-lt, bit_at-trailing_zeros, bit_at-zero, bit_at_and}
use Rattle.std.proofs.lemmas.Nat.Bits.{bit_at_or}
use Rattle.bip_model.specs.Sets.{has}
use mir.Syntax.{w64}

zero_or_one : (n : ℕ) → n < 2 → (n ≡ 0) ⊎ (n ≡ 1)
zero_or_one n less = elim (cases_lt n 1) [
  | inl low ↦ inl (omega arith)
  | inr high ↦ inr (omega arith)
]

pub has_or : (a b c : ℕ) → has (bit_or a b) c ≡ (has a c || has b c)
has_or a b c = elim (zero_or_one (bit_at a c) (bit_at-lt a c)) [
  | inl x ↦ elim (zero_or_one (bit_at b c) (bit_at-lt b c)) [
    | inl y ↦ rw (bit_at_or a b c, x, y) refl
    | inr y ↦ rw (bit_at_or a b c, x, y) refl
  ]
  | inr x ↦ elim (zero_or_one (bit_at b c) (bit_at-lt b c)) [
    | inl y ↦ rw (bit_at_or a b c, x, y) refl
    | inr y ↦ rw (bit_at_or a b c, x, y) refl
  ]
]

-- a number that both have
abbrev pub Share : ℕ → ℕ → Type 0
Share a b = (c : ℕ) × IsTrue (has a c) × IsTrue (has b c)

both : (a b c : ℕ) → bit_at (bit_and a b) c ≡ 1 → Share a b
both a b c is =
    let low : min (bit_at a c) (bit_at b c) ≡ 1 = sym (bit_at_and a b c) ∙ is in
    let one : bit_at a c ≡ 1 = omega (arith, low, bit_at-lt a c) in
    let two : bit_at b c ≡ 1 = omega (arith, low, bit_at-lt b c) in
    (c, rw one refl, rw two refl)

pub share : (a b : ℕ) → a < 2 ^ 64 → 0 < bit_and a b → Share a b
share a b fits some =
    let less : bit_and a b < 2 ^ 64 = omega (arith, fits, and_le_l a b) in
    let at = bit_at-trailing_zeros w64 (bit_and a b) some less in
    both a b (trailing_zeros w64 (bit_and a b)) at.1

pub shared_some : (a b : ℕ) → Share a b → 0 < bit_and a b
shared_some a b (c, one, two) =
    let at : bit_at (bit_and a b) c ≡ min (bit_at a c) (bit_at b c) = bit_at_and a b c in
    elim (cases_lt 0 (bit_and a b)) [
      | inl some ↦ some
      | inr none ↦
          let zero : bit_and a b ≡ 0 = omega arith in
          let off : bit_at (bit_and a b) c ≡ 0 = rw zero (bit_at-zero c) in
          absurd (omega (arith, at, off, eqb-true (bit_at a c) 1 one, eqb-true (bit_at b c) 1 two))
    ]

turned : (a b : ℕ) → eqb a b ≡ eqb b a
turned a b = elim (eqb_tells a b) [
  | inl same ↦ rw same.1 refl
  | inr other ↦ elim (eqb_tells b a) [
    | inl same ↦ absurd (other.1 (sym same.1))
    | inr off ↦ other.0 ∙ sym off.0
  ]
]

-- the set of the first ones of a list, and one more
pub one_more_in : {X : Type 0} (number : X → ℕ) (xs : List X) (i : ℕ) (x : X) (set more : ℕ)
    → i < length xs → ((c : ℕ) → has set c ≡ list_any (λ y. eqb (number y) c) (take i xs))
    → ((c : ℕ) → has more c ≡ (eqb c (number (get_or xs i x)) || has set c)) → (c : ℕ)
    → has more c ≡ list_any (λ y. eqb (number y) c) (take (i + 1) xs)
one_more_in number xs i x set more within before next c =
    rw (
      list_any_more (λ y. eqb (number y) c) xs i x within,
      next c,
      before c,
      turned c (number (get_or xs i x)),
    )
    (or_comm (eqb (number (get_or xs i x)) c) (list_any (λ y. eqb (number y) c) (take i xs)))
