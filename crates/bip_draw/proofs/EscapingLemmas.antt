-- Escaped texts: they begin and end nothing, and printable ones are kept. Names end no label.
use Rattle.std.proofs.Common.{◌≡◌, ℕ, List, [], ◌∷◌, ◌++◌, refl, arith, sym, Bool, true, ◌&&◌, ◌||◌}
use Rattle.std.proofs.Common.{◌≤◌, ◌⊎◌, ◌==◌, eqb-true, false, inl, inr, nat_le}
use Rattle.std.specs.Char.{is_ascii_alphanumeric}
use Rattle.std.proofs.lemmas.Bool.Decides.{nat_tests}
use Rattle.std.proofs.lemmas.Grind.{common_steps}
use Rattle.std.proofs.lemmas.List.Folds.{list_all-append}
use Rattle.std.specs.List.{flat_map, list_all}
use Rattle.bip_model.specs.Naming.{is_name_byte}
use Rattle.bip_draw.specs.Escaping.{escaped, escaped_byte}
use Rattle.bip_draw.specs.Laws.{EscapedTextsAreKept, NamesAreInert, TextsAreInert}
use Rattle.bip_draw.specs.Laws.{is_label_byte, is_plain_byte, is_printable}

plain_each : (b : ℕ) → list_all is_plain_byte (escaped_byte b) ≡ true
plain_each b = grind (arith, nat_tests, common_steps)

pub texts_are_inert : TextsAreInert
unfolding escaped
texts_are_inert [] = refl
texts_are_inert (b ∷ text) = let first = plain_each b in let rest = texts_are_inert text in
    rw (list_all-append is_plain_byte (escaped_byte b) (flat_map escaped_byte text), first) rest

and-both : (a b : Bool) → (a && b) ≡ true → (a ≡ true) × (b ≡ true)
and-both a b both = (grind (arith, both), grind (arith, both))

-- what a printable byte is drawn as tells where it ends, and which byte it is
one_byte : (b c : ℕ) (s t : List ℕ) → is_printable b ≡ true → is_printable c ≡ true
    → escaped_byte b ++ s ≡ escaped_byte c ++ t → (b ≡ c) × (s ≡ t)
one_byte b c s t first second same = grind (arith, nat_tests)

drawn_as_something : (c : ℕ) (t : List ℕ) → [] ≡ escaped_byte c ++ t → ⊥
drawn_as_something c t same = grind (arith, nat_tests, common_steps)

same_texts : (a b : List ℕ) → list_all is_printable a ≡ true → list_all is_printable b ≡ true
    → flat_map escaped_byte a ≡ flat_map escaped_byte b → a ≡ b
same_texts [] [] first second same = refl
same_texts [] (c ∷ t) first second same = absurd (drawn_as_something c
    (flat_map escaped_byte t) same)
same_texts (b ∷ s) [] first second same = absurd (drawn_as_something b (flat_map escaped_byte s)
    (sym same))
same_texts (b ∷ s) (c ∷ t) first second same =
    let is = and-both (is_printable b) (list_all is_printable s) first in
    let too = and-both (is_printable c) (list_all is_printable t) second in
    let one = one_byte b c (flat_map escaped_byte s) (flat_map escaped_byte t) is.0 too.0 same in
    let rest = same_texts s t is.1 too.1 one.1 in
    cc

pub escaped_texts_are_kept : EscapedTextsAreKept
unfolding escaped
escaped_texts_are_kept = same_texts

-- the bytes of names are in four ranges, of which none has a quote or a backslash
or_cases : (a b : Bool) → (a || b) ≡ true → (a ≡ true) ⊎ (b ≡ true)
or_cases true b is = inl refl
or_cases false b is = inr is

abbrev is_in_range : ℕ → ℕ → ℕ → Bool
is_in_range low high b = nat_le low b && nat_le b high

in_range : (low high b : ℕ) → is_in_range low high b ≡ true → (low ≤ b) × (b ≤ high)
in_range low high b is =
    let both = and-both (nat_le low b) (nat_le b high) is in
    (grind (arith, nat_tests, both.0), grind (arith, nat_tests, both.1))

label_below : (b : ℕ) → 35 ≤ b → b ≤ 91 → is_label_byte b ≡ true
label_below b low high = grind (arith, nat_tests)

label_above : (b : ℕ) → 93 ≤ b → b ≤ 126 → is_label_byte b ≡ true
label_above b low high = grind (arith, nat_tests)

label_byte : (b : ℕ) → is_name_byte b ≡ true → is_label_byte b ≡ true
label_byte b is = elim (or_cases (is_ascii_alphanumeric b) (b == 95) is) [
  | inl other ↦ elim (or_cases (is_in_range 48 57 b || is_in_range 65 90 b) (is_in_range 97 122 b)
      other) [
        | inl either ↦ elim (or_cases (is_in_range 48 57 b) (is_in_range 65 90 b) either) [
          | inl digit ↦
              let at = in_range 48 57 b digit in
              label_below b (omega (arith, at.0)) (omega (arith, at.1))
          | inr upper ↦
              let at = in_range 65 90 b upper in
              label_below b (omega (arith, at.0)) (omega (arith, at.1))
        ]
        | inr lower ↦
            let at = in_range 97 122 b lower in
            label_above b (omega (arith, at.0)) (omega (arith, at.1))
      ]
  | inr mark ↦ rw (eqb-true b 95 mark) refl
]

label_bytes : (text : List ℕ) → list_all is_name_byte text ≡ true
    → list_all is_label_byte text ≡ true
label_bytes [] all = refl
label_bytes (b ∷ text) all =
    let both = and-both (is_name_byte b) (list_all is_name_byte text) all in
    rw (label_byte b both.0, label_bytes text both.1) refl

pub names_are_inert : NamesAreInert
names_are_inert name is = label_bytes name (and-both _ _ is.0).1
