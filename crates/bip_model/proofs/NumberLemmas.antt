-- The number that digits spell, one digit after another.
use Rattle.std.proofs.Common.{sym, ◌≡◌, ℕ, ◌+◌, ◌-◌, ◌*◌, ◌^◌, ◌<◌, ◌≤◌, true, leb, List, [], ◌∷◌}
use Rattle.std.proofs.Common.{length, get_or, take, ◌∙◌, arith}
use Rattle.std.specs.Char.{digit_value, is_ascii_digit}
use Rattle.std.specs.List.{list_all}
use Rattle.std.specs.Str.Parse.{AllDigits, digits_value}
use Rattle.std.proofs.Math.Nat.{pow-le-pow_right}
use Rattle.std.proofs.lemmas.Bool.{and_parts, false≢true, leb-true, true_from_ne_false}
use Rattle.std.proofs.lemmas.List.Folds.{list_all_at}
use Rattle.std.proofs.lemmas.Str.{digit_value_digit}
use Rattle.std.proofs.lemmas.Int.Digits.{digits_value-lt, digits_value_more}
use Rattle.std.proofs.lemmas.Str.Parse.{digits_value-take-le}

-- a digit is a byte up to 57, and its value is what it is above 48
digit_is : (b : ℕ) → is_ascii_digit b ≡ true → (b ≤ 57) × (digit_value b + 48 ≡ b)
digit_is b digit =
    let parts = and_parts (leb 48 b) (leb b 57) digit in
    (leb-true b 57 parts.1, digit_value_digit b (leb-true 48 b parts.0, leb-true b 57 parts.1))

digit_at : (ds : List ℕ) (i : ℕ) → list_all is_ascii_digit ds ≡ true → i < length ds
    → is_ascii_digit (get_or ds i 0) ≡ true
digit_at ds i all within = true_from_ne_false _
    (λ none. false≢true (sym (list_all_at is_ascii_digit ds i 0 within none) ∙ all))

all_digits : (ds : List ℕ) → list_all is_ascii_digit ds ≡ true → AllDigits 10 ds
all_digits [] all = tt
all_digits (d ∷ ds) all =
    let parts = and_parts (is_ascii_digit d) (list_all is_ascii_digit ds) all in
    let digit = digit_is d parts.0 in
    (omega arith, all_digits ds parts.1)

-- one digit more
pub value_more : (ds : List ℕ) (i : ℕ) → list_all is_ascii_digit ds ≡ true → i < length ds
    → digits_value 10 (take (i + 1) ds) ≡ digits_value 10 (take i ds) * 10 + (get_or ds i 0 - 48)
value_more ds i all within = omega (
  arith,
  digits_value_more 10 ds i within,
  (digit_is (get_or ds i 0) (digit_at ds i all within)).1,
)

-- twenty digits spell no more than this
pub value_below : (ds : List ℕ) (i : ℕ) → list_all is_ascii_digit ds ≡ true → length ds ≤ 20
    → digits_value 10 (take i ds) < 10 ^ 20
value_below ds i all short =
    let power : 10 ^ length ds ≤ 10 ^ 20 = pow-le-pow_right (omega arith) short in
    omega (
      arith,
      digits_value-take-le 10 ds i (omega arith),
      digits_value-lt 10 ds (all_digits ds all),
      power,
    )
