-- The words of a line: where they are cut, and what each can be by itself.
use Rattle.std.specs.Prelude.{ℕ, ◌==◌, List, [], ◌∷◌, length, Option, None, Some}
use Rattle.std.specs.Prelude.{option_and_then, codes, if◌then◌else◌}
use Rattle.std.specs.Option.{option_map, option_map_or, option_zip}
use Rattle.bip_model.specs.Naming.{is_name, same_text}
use Rattle.bip_model.specs.Texts.{pair_of}
use Rattle.bip_model.specs.declared.words.And.{And}
use Rattle.bip_model.specs.declared.words.Do.{Do}
use Rattle.bip_model.specs.declared.words.Semicolon.{Semicolon}
use Rattle.bip_model.specs.declared.words.When.{When}

-- the words before the first one that is something, what that is, and the words behind it
abbrev pub cut_at : {M : Type 0} → (List ℕ → Option M) → List (List ℕ)
    → Option (List (List ℕ) × M × List (List ℕ))
cut_at f [] = None
cut_at f (word ∷ rest) =
    option_map_or (λ mark. Some ([], mark, rest))
    (f word) (option_map (λ cut. (word ∷ cut.0, cut.1, cut.2)) (cut_at f rest))

-- the name that a word is: spelled as one, of at most 32 bytes, and not reserved
unfoldable pub name_of : List ℕ → Option (List ℕ)
name_of word = if is_name word then Some word else None

-- the names that two words are
abbrev pub two_names : List ℕ × List ℕ → Option (List ℕ × List ℕ)
two_names pair = option_zip (name_of pair.0) (name_of pair.1)

-- `.`
abbrev pub dot : ℕ
dot = 46

-- `C.p`, a component and one of its ports or variables
abbrev pub participant_of : List ℕ → Option (List ℕ × List ℕ)
participant_of word = option_and_then two_names (pair_of dot word)

-- `when`
abbrev pub when_of : List ℕ → Option When
when_of word = if same_text word (codes "when") then Some (record {}) else None

-- `do`
abbrev pub do_of : List ℕ → Option Do
do_of word = if same_text word (codes "do") then Some (record {}) else None

-- `and`
abbrev pub and_of : List ℕ → Option And
and_of word = if same_text word (codes "and") then Some (record {}) else None

-- `;`
abbrev pub semicolon_of : List ℕ → Option Semicolon
semicolon_of word = if same_text word (codes ";") then Some (record {}) else None

-- what things are, each by itself; none where one is nothing
abbrev pub each_of : {A B : Type 0} → (A → Option B) → List A → Option (List B)
each_of f [] = Some []
each_of f (x ∷ rest) = option_map (λ y. y.0 ∷ y.1) (option_zip (f x) (each_of f rest))

-- what words are, each by itself, at least one
abbrev pub one_or_more_of : {A : Type 0} → (List ℕ → Option A) → List (List ℕ) → Option (List A)
one_or_more_of f words = if length words == 0 then None else each_of f words
