-- What names, variables and values are when they are read again: themselves, and no mark.
use Rattle.std.proofs.Common.{◌≡◌, ℕ, ◌^◌, ◌<◌, Bool, true, false, List, [], ◌∷◌, ◌++◌, length}
use Rattle.std.proofs.Common.{None, Some, refl, ◌∙◌, arith, eqb-true}
use Rattle.std.specs.Prelude.{codes}
use Rattle.std.specs.Fmt.{decimal}
use Rattle.std.specs.List.{list_all}
use Rattle.std.specs.Char.{is_ascii_digit}
use Rattle.std.proofs.lemmas.List.Folds.{list_all-append}
use Rattle.bip_model.specs.Naming.{IsName, is_name_byte, is_name_start, same_text}
use Rattle.bip_model.specs.Texts.{value_said}
use Rattle.bip_model.specs.declared.scopes.VariableName.{VariableName}
use Rattle.bip_model.proofs.WrittenLemmas.{IsWord, digits-decimal, is_name-from, name-word}
use Rattle.bip_model.proofs.WrittenLemmas.{names-word, pair_of-name}
use Rattle.bip_model.specs.Clauses.{relation_of, variable_form}
use Rattle.bip_model.specs.Words.{and_of, do_of, name_of, participant_of, semicolon_of, when_of}
use Rattle.bip_reader.specs.Writing.{pair_word}
use Rattle.bip_model.specs.declared.clauses.Spelling.{Spelling}
use Rattle.bip_model.specs.declared.clauses.Spelling.TheVariants.{Own, Shared}

-- no word between parts
pub record IsNoMark (word : List ℕ) : Type 0 where
  pub no_when : when_of word ≡ None
  pub no_do : do_of word ≡ None
  pub no_and : and_of word ≡ None
  pub no_semicolon : semicolon_of word ≡ None
  pub no_relation : relation_of word ≡ None

-- texts that are the same have the same bytes
all_same : (p : ℕ → Bool) (xs ys : List ℕ) → same_text xs ys ≡ true → list_all p xs ≡ list_all p ys
all_same p [] [] same = refl
all_same p [] (y ∷ ys) same = absurd (cc)
all_same p (x ∷ xs) [] same = absurd (cc)
all_same p (x ∷ xs) (y ∷ ys) same = grind (arith, eqb-true x y, all_same p xs ys)

-- a word with a byte that a name can't have is no word of letters
no_letters : (word letters : List ℕ) → list_all is_name_byte word ≡ false
    → list_all is_name_byte letters ≡ true → same_text word letters ≡ false
no_letters word letters other named = grind (arith, all_same is_name_byte word letters)

-- a word that begins as a name does is no mark of other bytes, and no value
no_sign : (b : ℕ) (bs : List ℕ) → is_name_start b ≡ true → (semicolon_of (b ∷ bs) ≡ None)
    × (relation_of (b ∷ bs) ≡ None) × (value_said (b ∷ bs) ≡ None)
no_sign b bs starts = (grind arith, grind arith, grind arith)

-- names
pub name_read : (name : List ℕ) → IsName name → name_of name ≡ Some name
unfolding name_of
name_read name is = rw (is_name-from name is) refl

pub name_no_mark : (name : List ℕ) → IsName name → IsNoMark name
name_no_mark [] is = absurd (grind arith)
name_no_mark (b ∷ bs) is =
    let other = no_sign b bs (grind arith) in
    record {
      no_when = grind arith;
      no_do = grind arith;
      no_and = grind arith;
      no_semicolon = other.0;
      no_relation = other.1;
    }

pub name_no_value : (name : List ℕ) → IsName name → value_said name ≡ None
name_no_value [] is = absurd (grind arith)
name_no_value (b ∷ bs) is = (no_sign b bs (grind arith)).2

-- `C.p`
pub pair_read : (component own : List ℕ) → IsName component → IsName own
    → participant_of (pair_word component own) ≡ Some (component, own)
pair_read component own is named = rw (
  pair_of-name 46 component own refl is,
  name_read component is,
  name_read own named,
) refl

pub pair_no_mark : (component own : List ℕ) → IsName component → IsNoMark (pair_word component own)
pair_no_mark [] own is = absurd (grind arith)
pair_no_mark (b ∷ bs) own is =
    let other = no_sign b (bs ++ 46 ∷ own) (grind arith) in
    let marked : list_all is_name_byte (pair_word (b ∷ bs) own) ≡ false =
    list_all-append is_name_byte (b ∷ bs) (46 ∷ own) ∙ grind arith in
    record {
      no_when = rw (no_letters (pair_word (b ∷ bs) own) (codes "when") marked refl) refl;
      no_do = rw (no_letters (pair_word (b ∷ bs) own) (codes "do") marked refl) refl;
      no_and = rw (no_letters (pair_word (b ∷ bs) own) (codes "and") marked refl) refl;
      no_semicolon = other.0;
      no_relation = other.1;
    }

pub pair_no_value : (component own : List ℕ) → IsName component
    → value_said (pair_word component own) ≡ None
pair_no_value [] own is = absurd (grind arith)
pair_no_value (b ∷ bs) own is = (no_sign b (bs ++ 46 ∷ own) (grind arith)).2

-- numbers
pub digits_no_mark : (ds : List ℕ) → 0 < length ds → list_all is_ascii_digit ds ≡ true → IsNoMark ds
digits_no_mark [] some all = absurd (omega arith)
digits_no_mark (d ∷ ds) some all = record {
  no_when = grind arith;
  no_do = grind arith;
  no_and = grind arith;
  no_semicolon = grind arith;
  no_relation = grind arith;
}

pub value_no_mark : (n : ℕ) → n < 2 ^ 64 → IsNoMark (decimal n)
value_no_mark n high = let is = digits-decimal n high in digits_no_mark (decimal n) is.0 is.1

-- a variable's word: it is read as the variable's name, and is no value and no mark
pub record IsVariableWord (spelling : Spelling) (word : List ℕ) (name : VariableName) : Type 0 where
  pub read : variable_form spelling word ≡ Some name
  pub no_value : value_said word ≡ None
  pub no_mark : IsNoMark word
  pub is_word : IsWord word

pub own_spelled : (name : List ℕ) → IsName name
    → IsVariableWord Own name (record { owner = None; name = name })
own_spelled name is = record {
  read = rw (name_read name is) refl;
  no_value = name_no_value name is;
  no_mark = name_no_mark name is;
  is_word = name-word name is;
}

pub shared_spelled : (component own : List ℕ) → IsName component → IsName own
    → IsVariableWord Shared (pair_word component own)
    (record { owner = Some component; name = own })
shared_spelled component own is named = record {
  read = rw (pair_read component own is named) refl;
  no_value = pair_no_value component own is;
  no_mark = pair_no_mark component own is;
  is_word = names-word 46 component own refl is named;
}
