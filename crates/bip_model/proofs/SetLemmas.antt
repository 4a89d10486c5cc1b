-- One bit more or less of a number.
use Rattle.std.proofs.Common.{◌≡◌, ◌≢◌, ℕ, ◌*◌, ◌%◌, ◌^◌, ◌<◌, true, false, eqb, ◌||◌, inl, inr}
use Rattle.std.proofs.Common.{sym, ap, ◌∙◌, refl, arith, max, min, ◌-◌}
use Rattle.std.specs.Prelude.{bit_and, bit_or}
use Rattle.std.specs.Int.{Width, bit_at, bit_not}
use Rattle.std.proofs.lemmas.Bool.{eqb-true, false≢true}
use Rattle.std.proofs.lemmas.Bool.Decides.{eqb_tells}
use Rattle.std.proofs.lemmas.Bool.{cases_lt}
use Rattle.std.proofs.lemmas.Nat.{and_le_l, le_or_l}
use Rattle.std.proofs.lemmas.Nat.Bits.{bit_at_above, bit_at_clear_same, bit_at_clear_other}
use Rattle.std.proofs.lemmas.Nat.Bits.{bit_at-lt, bit_at-zero, bit_at_and, bit_at_not, bit_at_or}
use Rattle.std.proofs.lemmas.Nat.Bits.{bit_at_set_same, bit_at_set_other}
use Rattle.std.proofs.Math.Nat.{eq-or-lt_of_le}
use Rattle.bip_model.specs.Numbering.{put}
use Rattle.bip_model.specs.Sets.{has}
use mir.Val.{bits}

-- a set with one more number
abbrev pub with : Width → ℕ → ℕ → ℕ
with w set k = bit_or set (1 * 2 ^ k % 2 ^ bits w)

pub has_with : (w : Width) (set k : ℕ) → k < bits w → (b : ℕ)
    → has (with w set k) b ≡ (eqb b k || has set b)
has_with w set k within b =
    elim (eqb_tells b k) [
      | inl same ↦ rw (same.0, same.1, bit_at_set_same w set k within) refl
      | inr other ↦ rw (other.0, bit_at_set_other w set k within b other.1) refl
    ]

pub grows_with : (w : Width) (set k : ℕ) → k < bits w → has set k ≡ false → set < with w set k
grows_with w set k within out =
    elim (eq-or-lt_of_le (le_or_l set (1 * 2 ^ k % 2 ^ bits w))) [
      | inl same ↦
          let one : has (with w set k) k ≡ true = rw (bit_at_set_same w set k within) refl in
          absurd (false≢true (sym out ∙ (ap (λ n. has n k) same ∙ one)))
      | inr more ↦ more
    ]

-- a set without a number
abbrev pub without_bit : Width → ℕ → ℕ → ℕ
without_bit w set k = bit_and set (bit_not w (1 * 2 ^ k % 2 ^ bits w))

other_bit : (w : Width) (set k : ℕ) → set < 2 ^ bits w → k < bits w → (b : ℕ) → b ≢ k
    → bit_at (without_bit w set k) b ≡ bit_at set b
other_bit w set k fits within b other =
    elim (cases_lt b (bits w)) [
      | inl inside ↦ bit_at_clear_other w set k within b inside other
      | inr above ↦
          let less : without_bit w set k < 2 ^ bits w =
          omega (arith, fits, and_le_l set (bit_not w (1 * 2 ^ k % 2 ^ bits w))) in
          bit_at_above (without_bit w set k) (bits w) b less above
          ∙ sym (bit_at_above set (bits w) b fits above)
    ]

pub put_without : (w : Width) (set k : ℕ) → set < 2 ^ bits w → k < bits w → (b : ℕ)
    → has (without_bit w set k) b ≡ put (has set) k false b
put_without w set k fits within b =
    elim (eqb_tells b k) [
      | inl same ↦ rw (same.0, same.1, bit_at_clear_same w set k within) refl
      | inr other ↦ rw (other.0, other_bit w set k fits within b other.1) refl
    ]

pub less_without : (w : Width) (set k : ℕ) → k < bits w → has set k ≡ true
    → without_bit w set k < set
less_without w set k within there =
    elim (eq-or-lt_of_le (and_le_l set (bit_not w (1 * 2 ^ k % 2 ^ bits w)))) [
      | inl same ↦
          let none : has (without_bit w set k) k ≡ false =
          rw (bit_at_clear_same w set k within) refl in
          absurd (false≢true (sym none ∙ (ap (λ n. has n k) same ∙ there)))
      | inr less ↦ less
    ]

-- two sets in one
pub has_joined : (set other b : ℕ) → has (bit_or set other) b ≡ (has set b || has other b)
has_joined set other b =
    rw (bit_at_or set other b) (either (bit_at set b) (bit_at other b) (bit_at-lt set b)
    (bit_at-lt other b))
  where
    either : (x y : ℕ) → x < 2 → y < 2 → eqb (max x y) 1 ≡ (eqb x 1 || eqb y 1)
    either x y one two =
        elim (cases_lt x 1) [
          | inl none ↦ let off : x ≡ 0 = omega arith in elim (cases_lt y 1) [
            | inl also ↦ let both : y ≡ 0 = omega arith in rw (off, both) refl
            | inr on ↦ let one : y ≡ 1 = omega arith in rw (off, one) refl
          ]
          | inr some ↦ let on : x ≡ 1 = omega arith in elim (cases_lt y 1) [
            | inl none ↦ let off : y ≡ 0 = omega arith in rw (on, off) refl
            | inr also ↦ let both : y ≡ 1 = omega arith in rw (on, both) refl
          ]
        ]

-- a set without another one
pub has_outside : (w : Width) (set other b : ℕ) → set < 2 ^ bits w → other < 2 ^ bits w
    → has (bit_and set (bit_not w other)) b ≡ true → (has set b ≡ true) × (has other b ≡ false)
has_outside w set other b fits also is =
    elim (cases_lt b (bits w)) [
      | inl inside ↦
          let both : min (bit_at set b) (1 - bit_at other b) ≡ 1 =
          ap (λ n. min (bit_at set b) n) (sym (bit_at_not w other b also inside))
          ∙ sym (bit_at_and set (bit_not w other) b) ∙ eqb-true _ _ is in
          let one : bit_at set b ≡ 1 = omega (arith, bit_at-lt set b) in
          let none : bit_at other b ≡ 0 = omega (arith, bit_at-lt other b) in
          (rw one refl, rw none refl)
      | inr above ↦
          let both : min (bit_at set b) (bit_at (bit_not w other) b) ≡ 1 =
          sym (bit_at_and set (bit_not w other) b) ∙ eqb-true _ _ is in
          let off : bit_at set b ≡ 0 = bit_at_above set (bits w) b fits above in
          absurd (omega arith)
    ]

-- where nothing of a set is outside of another one
pub none_outside : (w : Width) (set other b : ℕ) → set < 2 ^ bits w → other < 2 ^ bits w
    → bit_and set (bit_not w other) ≡ 0 → has set b ≡ true → has other b ≡ true
none_outside w set other b fits also none in' =
    elim (cases_lt b (bits w)) [
      | inl inside ↦
          let both : min (bit_at set b) (1 - bit_at other b) ≡ 0 =
          ap (λ n. min (bit_at set b) n) (sym (bit_at_not w other b also inside))
          ∙ sym (bit_at_and set (bit_not w other) b)
          ∙ (ap (λ n. bit_at n b) none ∙ bit_at-zero b) in
          let one : bit_at set b ≡ 1 = eqb-true _ _ in' in
          let some : bit_at other b ≡ 1 = omega (arith, bit_at-lt other b) in
          rw some refl
      | inr above ↦
          let off : bit_at set b ≡ 0 = bit_at_above set (bits w) b fits above in
          let one : bit_at set b ≡ 1 = eqb-true _ _ in' in
          absurd (omega arith)
    ]
