-- What is written, read again: lines, words, numbers and names.
use Rattle.std.proofs.Common.{◌≡◌, ℕ, zero, suc, position, ◌^◌, ◌<◌, ◌≤◌, Bool, true, false, not}
use Rattle.std.proofs.Common.{◌||◌, eqb, eqb-true, List, [], ◌∷◌, ◌++◌, length, take, Some, refl}
use Rattle.std.proofs.Common.{ap, arith}
use Rattle.std.specs.Prelude.{All}
use Rattle.std.specs.Char.{is_ascii_digit, is_ascii_graphic}
use Rattle.std.specs.Fmt.{decimal}
use Rattle.std.specs.List.{flat_map, list_all, position_or_len}
use Rattle.std.specs.Str.Parse.{AllDigits}
use Rattle.std.proofs.Math.Seq.{take-append_seam, drop-append-add}
use Rattle.std.proofs.lemmas.Cmp.{nat_list_eq_equiv}
use Rattle.std.proofs.lemmas.Fmt.{decimal_is_IsNumeral, length-decimal-le}
use Rattle.std.proofs.lemmas.List.{append-nil, length-append}
use Rattle.std.proofs.lemmas.List.Elements.{All-head, All-tail}
use Rattle.std.proofs.lemmas.List.Folds.{list_all-append}
use Rattle.std.proofs.lemmas.List.Splits.{slice_split_at, slice_split_none}
use Rattle.std.proofs.lemmas.List.Sums.{AllPass-from_list_all}
use Rattle.std.proofs.lemmas.Str.Parse.{digit_from_value}
use Rattle.bip_model.specs.Naming.{AreApart, IsName, is_known, is_name, is_name_byte, name_in}
use Rattle.bip_model.specs.Naming.{same_text}
use Rattle.bip_model.specs.Texts.{is_blank, is_longer, is_plain, lines, number_of, pair_of, spaced}
use Rattle.bip_model.specs.Texts.{value_said, words}

-- each byte of a text can be seen
abbrev pub is_inked : List ℕ → Bool
is_inked text = list_all is_ascii_graphic text

-- a text that can stand as a word of a line
abbrev pub IsWord : List ℕ → Type 0
IsWord word = (is_longer word ≡ true) × (is_inked word ≡ true)

-- where a test passes each byte, so does a weaker one
all_weaker : (p q : ℕ → Bool) → ((b : ℕ) → p b ≡ true → q b ≡ true) → (bs : List ℕ)
    → list_all p bs ≡ true → list_all q bs ≡ true
all_weaker p q follows [] all = refl
all_weaker p q follows (b ∷ bs) all = grind (arith, follows b, all_weaker p q follows bs)

-- a plain line with its line feed is the first line
pub lines_front : (line rest : List ℕ) → is_plain line ≡ true
    → lines (line ++ 10 ∷ rest) ≡ line ∷ lines rest
lines_front [] rest plain = refl
lines_front (b ∷ bs) rest plain = grind (arith, lines_front bs rest)

-- a text whose bytes can be seen is plain
inked-plain : (word : List ℕ) → is_inked word ≡ true → is_plain word ≡ true
inked-plain word seen = all_weaker is_ascii_graphic (λ b. is_ascii_graphic b || is_blank b)
    (λ b s. grind arith) word seen

-- words behind spaces make a plain line
pub plain_spaced : (word : List ℕ) (ws : List (List ℕ)) → is_inked word ≡ true → All IsWord ws
    → is_plain (word ++ flat_map spaced ws) ≡ true
plain_spaced word [] seen all = rw (append-nil word) (inked-plain word seen)
plain_spaced word (v ∷ vs) seen all =
    let first : IsWord v = All-head IsWord v vs all in
    rw (
      list_all-append (λ b. is_ascii_graphic b || is_blank b) word (flat_map spaced (v ∷ vs)),
      inked-plain word seen,
    )
    (plain_spaced v vs first.1 (All-tail IsWord v vs all))

-- a text whose bytes can be seen has no blank
inked-not_blank : (word : List ℕ) → is_inked word ≡ true → All (λ b. is_blank b ≡ false) word
inked-not_blank word seen k d within = let is =
    AllPass-from_list_all is_ascii_graphic word seen k d within in grind arith

-- words behind spaces are the words of their line
pub words_spaced : (word : List ℕ) (ws : List (List ℕ)) → IsWord word → All IsWord ws
    → words (word ++ flat_map spaced ws) ≡ word ∷ ws
words_spaced word [] is all =
    rw (append-nil word, slice_split_none is_blank word (inked-not_blank word is.1), is.0) refl
words_spaced word (v ∷ vs) is all =
    let first : IsWord v = All-head IsWord v vs all in
    rw (
      slice_split_at is_blank word 32 (v ++ flat_map spaced vs) (inked-not_blank word is.1) refl,
      is.0,
    )
    (ap (λ (rest : List (List ℕ)). word ∷ rest)
    (words_spaced v vs first (All-tail IsWord v vs all)))

-- the first place of a byte behind bytes that aren't it
place_behind : (p : ℕ → Bool) (front : List ℕ) (y : ℕ) (rest : List ℕ)
    → list_all (λ b. not (p b)) front ≡ true → p y ≡ true
    → position_or_len p (front ++ y ∷ rest) ≡ length front
place_behind p [] y rest none here = grind arith
place_behind p (b ∷ bs) y rest none here = grind (arith, place_behind p bs y rest)

-- a byte that can't stand in a name is none that can
no_mark : (mark b : ℕ) → is_name_byte mark ≡ false → is_name_byte b ≡ true → not (eqb b mark) ≡ true
no_mark mark b other named = grind (arith, eqb-true b mark)

-- a name with something behind a mark that stands in no name parts there
pub pair_of-name : (mark : ℕ) (name rest : List ℕ) → is_name_byte mark ≡ false → IsName name
    → pair_of mark (name ++ mark ∷ rest) ≡ Some (name, rest)
pair_of-name mark name rest other named =
    let none = all_weaker is_name_byte (λ b. not (eqb b mark)) (λ b n. no_mark mark b other n) name
    (grind arith) in
    let at = place_behind (λ b. eqb b mark) name mark rest none (grind arith) in
    let long = length-append name (mark ∷ rest) in
    grind (arith, take-append_seam name (mark ∷ rest), drop-append-add name (mark ∷ rest) 1)

-- a name passes the test of names
pub is_name-from : (name : List ℕ) → IsName name → is_name name ≡ true
is_name-from name is = grind arith

-- a text with a byte is longer than none
longer : (text : List ℕ) → 0 < length text → is_longer text ≡ true
longer text some = grind arith

-- a name can stand as a word
pub name-word : (name : List ℕ) → IsName name → IsWord name
name-word name is = (
  grind arith,
  all_weaker is_name_byte is_ascii_graphic (λ b n. grind
      arith) name (grind arith),
)

-- digits pass the test of digits
digits-all : (ds : List ℕ) → AllDigits 10 ds → list_all is_ascii_digit ds ≡ true
digits-all [] all = refl
digits-all (d ∷ ds) all = grind (arith, digit_from_value d, digits-all ds)

-- a number that is written is read
pub number_of-decimal : (n : ℕ) → 1 ≤ n → n < 2 ^ 64 → number_of (decimal n) ≡ Some n
number_of-decimal n low high =
    let is = decimal_is_IsNumeral n high in
    let digits = digits-all (decimal n) is.0.1 in
    let short = length-decimal-le 20 n (omega arith) (omega arith) high in
    grind arith

-- a value that is written is read
pub value_said-decimal : (n : ℕ) → n < 2 ^ 32 → value_said (decimal n) ≡ Some n
value_said-decimal n high =
    let is = decimal_is_IsNumeral n (omega arith) in
    let digits = digits-all (decimal n) is.0.1 in
    let short = length-decimal-le 10 n (omega arith) (omega arith) (omega arith) in
    grind arith

-- a number is spelled with digits, at least one
pub digits-decimal : (n : ℕ) → n < 2 ^ 64 → (0 < length (decimal n))
    × (list_all is_ascii_digit (decimal n) ≡ true)
digits-decimal n high = let is = decimal_is_IsNumeral n high in
    (grind arith, digits-all (decimal n) is.0.1)

-- a number can stand as a word
pub decimal-word : (n : ℕ) → n < 2 ^ 64 → IsWord (decimal n)
decimal-word n high =
    let is = decimal_is_IsNumeral n high in (
      longer (decimal n) (grind arith),
      all_weaker is_ascii_digit is_ascii_graphic (λ b d. grind
          arith) (decimal n) (digits-all (decimal n) is.0.1),
    )

-- a name with a name behind a mark that can be seen can stand as a word
pub names-word : (mark : ℕ) (name own : List ℕ) → is_ascii_graphic mark ≡ true → IsName name
    → IsName own → IsWord (name ++ mark ∷ own)
names-word mark name own seen is named = (
  longer (name ++ mark ∷ own) (simp length-append (omega arith)),
  rw (list_all-append is_ascii_graphic name (mark ∷ own), (name-word name is).1)
      (rw seen (name-word own named).1),
)

-- a name with a number behind a colon can stand as a word
pub pair-word : (name : List ℕ) (n : ℕ) → IsName name → n < 2 ^ 64 → IsWord (name ++ 58 ∷ decimal n)
pair-word name n is high =
    let digits = all_weaker is_ascii_digit is_ascii_graphic (λ b d. grind arith) (decimal n)
    (digits-all (decimal n) (decimal_is_IsNumeral n high).0.1) in (
      longer (name ++ 58 ∷ decimal n) (simp length-append (omega arith)),
      rw (list_all-append is_ascii_graphic name (58 ∷ decimal n), (name-word name is).1) digits,
    )

-- a name that isn't among names is none of them
unknown_at : (name : List ℕ) (names : List (List ℕ)) (c : ℕ) → is_known name names ≡ false
    → c < length names → same_text name (name_in names c) ≡ false
unknown_at name (n ∷ ns) (suc c) unknown within = grind (arith, unknown_at name ns c)
unknown_at name names c unknown within = grind arith

-- the first of names that are apart that is the same as one of them is that one
place_of : (names : List (List ℕ)) (c : ℕ) → AreApart names → c < length names
    → position_or_len (same_text (name_in names c)) names ≡ c
place_of (n ∷ ns) zero apart within = rw (nat_list_eq_equiv.refl n) refl
place_of (n ∷ ns) (suc c) apart within = grind
    (arith, nat_list_eq_equiv.symm (name_in ns c) n, unknown_at n ns c, place_of ns c)
place_of names c apart within = absurd (omega arith)

-- a name is found at its number
pub position-name : (names : List (List ℕ)) (c : ℕ) → AreApart names → c < length names
    → position (same_text (name_in names c)) names ≡ Some c
position-name names c apart within = let at = place_of names c apart within in grind arith

-- a name stands nowhere before its place among names that are apart
pub unknown_before_it : (names : List (List ℕ)) (c : ℕ) → AreApart names → c < length names
    → is_known (name_in names c) (take c names) ≡ false
unknown_before_it [] c apart within = absurd (omega arith)
unknown_before_it (n ∷ ns) zero apart within = refl
unknown_before_it (n ∷ ns) (suc c) apart within =
    grind (
      arith,
      nat_list_eq_equiv.symm (name_in ns c) n,
      unknown_at n ns c,
      unknown_before_it ns c,
    )
