-- The forms of the lines of a model's text: from the words of a line to what it states.
use Rattle.std.specs.Prelude.{ℕ, List, [], ◌∷◌, Option, None, Some, codes, if◌then◌else◌}
use Rattle.std.specs.Option.{option_map, option_zip}
use Rattle.bip_model.specs.Naming.{same_text}
use Rattle.bip_model.specs.Texts.{value_said}
use Rattle.bip_model.specs.Clauses.{clauses_form, head_of}
use Rattle.bip_model.specs.Words.{name_of, one_or_more_of, participant_of, two_names}
use Rattle.bip_model.specs.declared.clauses.Spelling.TheVariants.{Own, Shared}
use Rattle.bip_reader.specs.declared.statements.Keyword.{Keyword}
use Rattle.bip_reader.specs.declared.statements.Keyword.TheVariants as keyword
use Rattle.bip_reader.specs.declared.statements.Statement.{Statement}
use Rattle.bip_reader.specs.declared.statements.Statement.TheVariants.{Header, Component, Var, Loc}
use Rattle.bip_reader.specs.declared.statements.Statement.TheVariants.{Port, Trans, End}
use Rattle.bip_reader.specs.declared.statements.Statement.TheVariants.{Interaction, Priority, Class}

-- the keyword that a word is
unfoldable pub keyword_of : List ℕ → Option Keyword
keyword_of word =
    if same_text word (codes "bip") then Some keyword.Bip
    else if same_text word (codes "component") then Some keyword.Component
    else if same_text word (codes "var") then Some keyword.Var
    else if same_text word (codes "loc") then Some keyword.Loc
    else if same_text word (codes "port") then Some keyword.Port
    else if same_text word (codes "trans") then Some keyword.Trans
    else if same_text word (codes "end") then Some keyword.End
    else if same_text word (codes "interaction") then Some keyword.Interaction
    else if same_text word (codes "priority") then Some keyword.Priority
    else if same_text word (codes "class") then Some keyword.Class
    else None

-- the keyword of a statement's line
abbrev pub keyword_in : Statement → Keyword
keyword_in Header = keyword.Bip
keyword_in (Component name) = keyword.Component
keyword_in (Var name value) = keyword.Var
keyword_in (Loc name) = keyword.Loc
keyword_in (Port name) = keyword.Port
keyword_in (Trans port source target guard update) = keyword.Trans
keyword_in End = keyword.End
keyword_in (Interaction name participants guard transfer) = keyword.Interaction
keyword_in (Priority low high) = keyword.Priority
keyword_in (Class name interactions) = keyword.Class

-- `1`
unfoldable pub header_form : List (List ℕ) → Option Statement
header_form (version ∷ []) = if same_text version (codes "1") then Some Header else None
header_form _ = None

-- `NAME`
unfoldable pub one_name : List (List ℕ) → Option (List ℕ)
one_name (word ∷ []) = name_of word
one_name _ = None

-- `NAME VALUE`
unfoldable pub var_form : List (List ℕ) → Option Statement
var_form (name ∷ value ∷ []) =
    option_map (λ v. Var v.0 v.1) (option_zip (name_of name) (value_said value))
var_form _ = None

-- `NAME NAME NAME`
unfoldable pub three_names : List (List ℕ) → Option (List ℕ × (List ℕ × List ℕ))
three_names (first ∷ second ∷ third ∷ []) =
    option_zip (name_of first) (two_names (second, third))
three_names _ = None

-- `PORT FROM TO [when GUARD] [do ASSIGNS]`
unfoldable pub trans_form : List (List ℕ) → Option Statement
trans_form rest =
    option_map (λ t. Trans t.0.0 t.0.1.0 t.0.1.1 t.1.0 t.1.1)
    (option_zip (three_names (head_of rest)) (clauses_form Own rest))

-- no word
unfoldable pub end_form : List (List ℕ) → Option Statement
end_form [] = Some End
end_form _ = None

-- a name, and what the words behind it are, at least one
unfoldable pub name_and_words :
    {A : Type 0} → (List ℕ → Option A) → List (List ℕ) → Option (List ℕ × List A)
name_and_words f [] = None
name_and_words f (name ∷ rest) = option_zip (name_of name) (one_or_more_of f rest)

-- `NAME C.p C.p .. [when GUARD] [do ASSIGNS]`
unfoldable pub interaction_form : List (List ℕ) → Option Statement
interaction_form rest =
    option_map (λ i. Interaction i.0.0 i.0.1 i.1.0 i.1.1)
    (option_zip (name_and_words participant_of (head_of rest)) (clauses_form Shared rest))

-- `LOW < HIGH`
unfoldable pub priority_form : List (List ℕ) → Option Statement
priority_form (low ∷ below ∷ high ∷ []) =
    if same_text below (codes "<") then option_map (λ p. Priority p.0 p.1) (two_names (low, high))
    else None
priority_form _ = None

-- `NAME INTER INTER ..`
unfoldable pub class_form : List (List ℕ) → Option Statement
class_form rest = option_map (λ c. Class c.0 c.1) (name_and_words name_of rest)

-- what a line states that begins with a keyword, by the words that follow; none where they lack
-- its form
abbrev pub statement_of : Keyword → List (List ℕ) → Option Statement
statement_of keyword.Bip rest = header_form rest
statement_of keyword.Component rest = option_map Component (one_name rest)
statement_of keyword.Var rest = var_form rest
statement_of keyword.Loc rest = option_map Loc (one_name rest)
statement_of keyword.Port rest = option_map Port (one_name rest)
statement_of keyword.Trans rest = trans_form rest
statement_of keyword.End rest = end_form rest
statement_of keyword.Interaction rest = interaction_form rest
statement_of keyword.Priority rest = priority_form rest
statement_of keyword.Class rest = class_form rest
