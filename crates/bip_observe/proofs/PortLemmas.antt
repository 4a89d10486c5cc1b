-- Ports as bits: none is on from a number on.
use Rattle.std.proofs.Common.{◌≡◌, ◌∙◌, ℕ, ◌+◌, ◌/◌, ◌%◌, ◌^◌, ◌<◌, ◌≤◌, arith}
use Rattle.std.proofs.Common.{inl, inr, refl, sym, true, ◌-◌, ◌*◌}
use Rattle.std.specs.Int.{bit_at}
use Rattle.std.proofs.lemmas.Bool.{cases_lt, false≢true}
use Rattle.std.proofs.lemmas.Nat.{div-add-mod', pow_pos}
use Rattle.std.proofs.lemmas.Nat.Bits.{bit_at-lt, bit_at-zero, bit_at_above, bit_at_cat_high}
use Rattle.std.proofs.lemmas.Nat.Bits.{same_from_bits}
use Rattle.bip_model.specs.Sets.{has}

-- a port that isn't on
off : (x p : ℕ) → bit_at x p ≡ 0 → has x p ≡ true → ⊥
off x p none on = false≢true (rw none at on)

-- no port has a number of 16 or more
pub ports_few : (x count : ℕ) → x < 2 ^ 16 → 16 ≤ count → (p : ℕ) → has x p ≡ true → p < count
ports_few x count small many p on =
    elim (cases_lt p count) [
      | inl within ↦ within
      | inr past ↦ absurd (off x p (bit_at_above x 16 p small (omega arith)) on)
    ]

-- nothing is on from a number on where nothing is left behind that many ports
pub ports_within : (x count : ℕ) → x / 2 ^ count ≡ 0 → (p : ℕ) → has x p ≡ true → p < count
ports_within x count none p on =
    let low : x < 2 ^ count = omega (
      arith,
      rw none at (div-add-mod' x (2 ^ count)),
      pow_pos count,
    ) in
    elim (cases_lt p count) [
      | inl within ↦ within
      | inr past ↦ absurd (off x p (bit_at_above x count p low past) on)
    ]

pub ports_none : (x count : ℕ) → ((p : ℕ) → has x p ≡ true → p < count) → x / 2 ^ count ≡ 0
ports_none x count within = same_from_bits (x / 2 ^ count) 0 (λ i. behind i ∙ sym (bit_at-zero i))
  where
    none : (p : ℕ) → count ≤ p → bit_at x p ≡ 0
    none p past =
        elim (cases_lt (bit_at x p) 1) [
          | inl low ↦ omega arith
          | inr high ↦
              let one : bit_at x p ≡ 1 = omega (arith, bit_at-lt x p) in
              let on : has x p ≡ true = rw one refl in
              absurd (omega (arith, within p on))
        ]

    behind : (i : ℕ) → bit_at (x / 2 ^ count) i ≡ 0
    behind i =
        let small : x % 2 ^ count < 2 ^ count = omega (arith, pow_pos count) in
        let whole : x / 2 ^ count * 2 ^ count + x % 2 ^ count ≡ x = div-add-mod' x (2 ^ count) in
        let cut : count + i - count ≡ i = omega arith in
        let same = bit_at_cat_high (x / 2 ^ count) count (x % 2 ^ count) (count + i) small
        (omega arith) in
        sym (rw (whole, cut) at same) ∙ none (count + i) (omega arith)
