-- What words are by themselves.
use Rattle.std.specs.Prelude.{◌≡◌, ℕ, Bool, false, ◌&&◌, ◌||◌, List, Some, None, codes}
use Rattle.std.specs.Prelude.{Option, if◌then◌else◌, is_some, option_and_then, position}
use Rattle.std.specs.Option.{option_map_or}
use Rattle.bip_model.specs.Naming.{IsName, is_name, same_text}
use Rattle.bip_model.specs.Texts.{number_of, pair_of, value_said}
use Rattle.bip_model.specs.declared.clauses.Spelling.{Spelling}
use Rattle.bip_model.specs.declared.clauses.Spelling.TheVariants.{Own, Shared}
use Rattle.bip_replay.specs.Lines.{colon}

-- what parts a component from its port, or from its variable
abbrev pub point : ℕ
point = 46

-- a word names a component with a number: `C:N`
abbrev pub IsWant : List ℕ → List ℕ → Type 0
IsWant component word =
    IsName component
    × ((spelled : List ℕ) × (number : ℕ) × (pair_of colon word ≡ Some (component, spelled))
    × (number_of spelled ≡ Some number))

-- the component that a word names with a number: of `C:N` what stands before the colon
abbrev pub named_in : List ℕ → Option (List ℕ)
named_in word =
    option_and_then (λ (parts : List ℕ × List ℕ).
    if is_name parts.0 && is_some (number_of parts.1) then Some parts.0 else None)
    (pair_of colon word)

-- a word names a component with one of its ports, or of its variables: `C.p`
abbrev pub IsPair : List ℕ → List ℕ → List ℕ → Type 0
IsPair component inner word =
    IsName component × IsName inner × (pair_of point word ≡ Some (component, inner))

-- no name of a list is this word
abbrev pub HasNot : List (List ℕ) → List ℕ → Type 0
HasNot names word = position (same_text word) names ≡ None

-- whether a word is a value
abbrev pub is_value : List ℕ → Bool
is_value word = is_some (value_said word)

-- whether a word is a component with one of its ports, or of its variables: `C.p`
abbrev pub is_pair : List ℕ → Bool
is_pair word =
    option_map_or (λ parts. is_name parts.0 && is_name parts.1) (pair_of point word) false

-- whether a word is a component with a number: `C:N`
abbrev pub is_want : List ℕ → Bool
is_want word =
    option_map_or (λ parts. is_name parts.0 && is_some (number_of parts.1)) (pair_of colon word)
    false

abbrev pub is_sign : List ℕ → Bool
is_sign word = same_text word (codes "+") || same_text word (codes "-")

abbrev pub is_relation : List ℕ → Bool
is_relation word =
    same_text word (codes "=") || same_text word (codes "!=") || same_text word (codes "<")
    || same_text word (codes "<=") || same_text word (codes ">") || same_text word (codes ">=")

-- whether a word is a variable: `v` inside a component, `C.v` in an interaction
abbrev pub is_variable : Spelling → List ℕ → Bool
is_variable Own word = is_name word
is_variable Shared word = is_pair word

-- whether it is a term: a value, or a variable
abbrev pub is_term : Spelling → List ℕ → Bool
is_term spelling word = is_value word || is_variable spelling word

-- whether a word begins a line of a schedule
abbrev pub is_verb : List ℕ → Bool
is_verb word =
    same_text word (codes "mail") || same_text word (codes "try")
    || same_text word (codes "serve") || same_text word (codes "deliver")
    || same_text word (codes "pass") || same_text word (codes "ask")
