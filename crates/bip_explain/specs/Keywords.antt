-- What a line of a model's text goes on with behind its first word, and whether it states
-- something.
use Rattle.std.specs.Prelude.{◌≡◌, ◌||◌, Bool, false, IsTrue, List, [], ◌∷◌, ℕ, Option, None, Some}
use Rattle.std.specs.Prelude.{codes, if◌then◌else◌, is_some, option_and_then, ⊤}
use Rattle.bip_model.specs.Naming.{same_text}
use Rattle.bip_model.specs.declared.clauses.Spelling.{Spelling}
use Rattle.bip_model.specs.declared.clauses.Spelling.TheVariants.{Own, Shared}
use Rattle.bip_reader.specs.Statements.{keyword_of, statement_of}
use Rattle.bip_explain.specs.declared.expected.Expected.{Expected}
use Rattle.bip_explain.specs.declared.expected.Expected.TheVariants as expected
use Rattle.bip_explain.specs.declared.expected.Expected.TheVariants.{One, Name, VariableName}
use Rattle.bip_explain.specs.declared.expected.Expected.TheVariants.{TransitionPort}
use Rattle.bip_explain.specs.declared.expected.Expected.TheVariants.{InteractionName}
use Rattle.bip_explain.specs.declared.expected.Expected.TheVariants.{LowInteraction, ClassName}
use Rattle.bip_explain.specs.declared.scopes.Standing.{Standing}
use Rattle.bip_explain.specs.declared.scopes.Standing.TheVariants.{First, Outside, Inside}

-- what a line goes on with behind its first word, where a line can begin so outside of components
abbrev pub behind_outside : List ℕ → Option Expected
behind_outside keyword =
    if same_text keyword (codes "component") then Some Name
    else (if same_text keyword (codes "interaction") then Some InteractionName
    else (if same_text keyword (codes "priority") then Some LowInteraction
    else (if same_text keyword (codes "class") then Some ClassName else None)))

-- inside one
abbrev pub behind_inside : List ℕ → Option Expected
behind_inside keyword =
    if same_text keyword (codes "var") then Some VariableName
    else (if same_text keyword (codes "loc") || same_text keyword (codes "port") then Some Name
    else (if same_text keyword (codes "trans") then Some TransitionPort
    else (if same_text keyword (codes "end") then Some expected.End else None)))

-- and where the line stands; none where no line can begin so
abbrev pub behind_keyword : Standing → List ℕ → Option Expected
behind_keyword First keyword = if same_text keyword (codes "bip") then Some One else None
behind_keyword Outside keyword = behind_outside keyword
behind_keyword (Inside component) keyword = behind_inside keyword

-- how a line spells variables that begins with a word
abbrev pub spelling_behind : List ℕ → Spelling
spelling_behind keyword = if same_text keyword (codes "interaction") then Shared else Own

-- whether words are a line that states something
abbrev pub states_something : List (List ℕ) → Bool
states_something [] = false
states_something (word ∷ rest) =
    is_some (option_and_then (λ k. statement_of k rest) (keyword_of word))

abbrev pub IsModelLine : List (List ℕ) → Type 0
IsModelLine ws = IsTrue (states_something ws)

-- words say nothing, or state something, and the first can begin a line which stands so
abbrev pub IsStatedAt : Standing → List (List ℕ) → Type 0
IsStatedAt standing [] = ⊤
IsStatedAt standing (keyword ∷ rest) =
    IsModelLine (keyword ∷ rest) × ¬ (behind_keyword standing keyword ≡ None)
