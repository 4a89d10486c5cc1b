-- Why a name of a model's text is unknown, and how it is told.
use Rattle.std.specs.Prelude.{◌≡◌, ◌⊎◌, ℕ, List, [], ◌∷◌, ◌++◌, codes, Option, None, Some}
use Rattle.std.specs.Prelude.{All, Bool, false, ◌||◌, ◌==◌, drop, if◌then◌else◌, IsTrue}
use Rattle.bip_model.specs.Naming.{IsName, same_text}
use Rattle.bip_model.specs.Texts.{pair_of, words}
use Rattle.std.specs.Fmt.{decimal}
use Rattle.bip_explain.specs.Declarations.{HasLineWith, NoLineWith}
use Rattle.bip_explain.specs.Declarations.{declares_inside}
use Rattle.bip_explain.specs.Explanations.{column_parts, marked}
use Rattle.bip_explain.specs.Later.{IsLaterLine}
use Rattle.bip_explain.specs.Limits.{are_head}
use Rattle.bip_explain.specs.Placed.{IsNameBehind, IsPlacedOn}
use Rattle.bip_explain.specs.Scopes.{IsInside}
use Rattle.bip_explain.specs.Words.{IsPair, point}
use Rattle.bip_explain.specs.declared.placed.Placed.{Placed}
use Rattle.bip_explain.specs.declared.unknown.NameKind.{NameKind}
use Rattle.bip_explain.specs.declared.unknown.NameKind.TheVariants.{Variable, Location, Port}
use Rattle.bip_explain.specs.declared.unknown.Lack.{Lack}
use Rattle.bip_explain.specs.declared.unknown.UnknownReason.{UnknownReason}
use Rattle.bip_explain.specs.declared.unknown.UnknownReason.TheVariants.{Interaction, Component}
use Rattle.bip_explain.specs.declared.unknown.UnknownReason.TheVariants.{Stranger, Inner}

-- a word names a component
abbrev pub IsOf : List ℕ → List ℕ → Type 0
IsOf component word = (inner : List ℕ) × IsPair component inner word

-- whether the part of a word in front of its point is a component
abbrev pub is_front : List ℕ → Option (List ℕ × List ℕ) → Bool
is_front component None = false
is_front component (Some parts) = same_text parts.0 component

-- whether one of the words in front of `when` and `do` names a component
abbrev pub has_participant : List ℕ → List (List ℕ) → Bool
has_participant component [] = false
has_participant component (word ∷ rest) =
    if same_text word (codes "when") || same_text word (codes "do") then false
    else is_front component (pair_of point word) || has_participant component rest

-- what a line declares a kind with
abbrev pub kind_keyword : NameKind → List ℕ
kind_keyword Variable = codes "var"
kind_keyword Location = codes "loc"
kind_keyword Port = codes "port"

-- what the lines before one declare by a name inside a component: something of the kind that is
-- told, or else nothing of any kind
abbrev pub IsOther : List ℕ → ℕ → List ℕ → List ℕ → Option NameKind → Type 0
IsOther text number component name None =
    (kind : NameKind) → declares_inside text number component (kind_keyword kind) name ≡ false
IsOther text number component name (Some kind) =
    IsTrue (declares_inside text number component (kind_keyword kind) name)

-- lines before this one begin the component, and declare inside it nothing of the kind by the name,
-- but what else is told
abbrev pub IsLack : List ℕ → ℕ → Lack → Type 0
IsLack text number lack =
    HasLineWith text number (codes "component") lack.component
    × (declares_inside text number lack.component (kind_keyword lack.kind) lack.name ≡ false)
    × IsOther text number lack.component lack.name lack.other

-- what a word names in a component by its place in a transition: a port, then two locations, and
-- variables behind them
abbrev pub kind_in_transition : List (List ℕ) → NameKind
kind_in_transition [] = Port
kind_in_transition (port ∷ []) = Location
kind_in_transition (port ∷ source ∷ []) = Location
kind_in_transition (port ∷ source ∷ target ∷ more) = Variable

-- what it names there behind these, the first words of a line: of an interaction's participants a
-- port, and behind them a variable
abbrev pub kind_behind : List (List ℕ) → NameKind
kind_behind [] = Port
kind_behind (keyword ∷ front) =
    if same_text keyword (codes "trans") then kind_in_transition front
    else (if are_head (keyword ∷ front) then Port else Variable)

-- a word names what a component lacks: by its name alone where the line stands inside that
-- component, or else behind the component's name
abbrev pub IsLackOf : List ℕ → ℕ → Lack → List ℕ → Type 0
IsLackOf text number lack word =
    (IsName word × (word ≡ lack.name) × IsInside text number lack.component)
    ⊎ IsPair lack.component lack.name word

-- the words of a line that name interactions: those of a priority, and those behind a class's name
abbrev pub named_interactions : List (List ℕ) → List (List ℕ)
named_interactions [] = []
named_interactions (keyword ∷ rest) =
    if same_text keyword (codes "class") then drop 1 rest
    else (if same_text keyword (codes "priority") then rest else [])

-- each name among words is that of an interaction which a line before one declares
abbrev pub AreDeclared : List ℕ → ℕ → List (List ℕ) → Type 0
AreDeclared text number ws =
    All (λ word. IsName word → HasLineWith text number (codes "interaction") word) ws

-- a word behind these, the first words of a line, names an interaction: of a priority, or behind
-- the name of a class
abbrev pub name_interactions : List (List ℕ) → Bool
name_interactions [] = false
name_interactions (keyword ∷ []) = same_text keyword (codes "priority")
name_interactions (keyword ∷ name ∷ more) =
    same_text keyword (codes "priority") || same_text keyword (codes "class")

-- a reason is true of a line of a text: the word that is told stands at its column; of an
-- interaction, or a component, that it names no line before begins the declaration, but a line
-- behind that is told declares it; a component that is told to take no part is named by no
-- participant; and what a component lacks is of the kind that the word's place wants
abbrev pub IsUnknownReason : List ℕ → ℕ → List ℕ → UnknownReason → Type 0
IsUnknownReason text number line (Interaction placed later) =
    IsNameBehind name_interactions line placed
    × NoLineWith text number (codes "interaction") placed.word.now
    × IsLaterLine text number (codes "interaction") placed.word.now later
IsUnknownReason text number line (Component placed component later) =
    IsPlacedOn line placed × IsOf component placed.word.now
    × NoLineWith text number (codes "component") component
    × IsLaterLine text number (codes "component") component later
IsUnknownReason text number line (Stranger placed component) =
    IsPlacedOn line placed × IsOf component placed.word.now
    × (has_participant component (drop 2 (words line)) ≡ false)
IsUnknownReason text number line (Inner placed lack) =
    (at : IsPlacedOn line placed) × (lack.kind ≡ kind_behind at.front)
    × IsLackOf text number lack placed.word.now × IsLack text number lack

abbrev pub kind_word : NameKind → List ℕ
kind_word Variable = codes "variable"
kind_word Location = codes "location"
kind_word Port = codes "port"

abbrev pub other_parts : Option NameKind → List (List ℕ)
other_parts None = []
other_parts (Some kind) = codes ", but a " ∷ kind_word kind ∷ codes " of that name" ∷ []

abbrev pub lack_parts : Lack → List (List ℕ)
lack_parts lack =
    codes "component " ∷ marked lack.component ∷ codes " has no " ∷ kind_word lack.kind
    ∷ codes " " ∷ marked lack.name ∷ codes " so far" ∷ other_parts lack.other

abbrev pub later_parts : Option ℕ → List (List ℕ)
later_parts None = []
later_parts (Some line) = codes ", but line " ∷ decimal line ∷ codes " does" ∷ []

-- how a reason is told
abbrev pub unknown_parts : UnknownReason → List (List ℕ)
unknown_parts (Interaction placed later) =
    column_parts placed.column
    ++ codes "no line before declares an interaction " ∷ marked placed.word.now
    ∷ later_parts later
unknown_parts (Component placed component later) =
    column_parts placed.column
    ++ codes "no line before declares a component " ∷ marked component ∷ later_parts later
unknown_parts (Stranger placed component) =
    column_parts placed.column
    ++ codes "component " ∷ marked component ∷ codes " takes no part in this interaction" ∷ []
unknown_parts (Inner placed lack) = column_parts placed.column ++ lack_parts lack

-- What contracts of private functions say.

-- what a word names that stands at its column
abbrev pub IsKindAt : List ℕ → Placed → NameKind → Type 0
IsKindAt line placed kind = (at : IsPlacedOn line placed) × (kind ≡ kind_behind at.front)

-- the place of a word of a transition behind these: 0 is the port's, 1 and 2 are those of
-- locations, and 3 is each one behind
abbrev pub place_behind : List (List ℕ) → ℕ
place_behind [] = 0
place_behind (port ∷ []) = 1
place_behind (port ∷ source ∷ []) = 2
place_behind (port ∷ source ∷ target ∷ more) = 3

-- what is named there, and the place behind it
abbrev pub kind_at : ℕ → NameKind
kind_at place =
    if place == 0 then Port else (if place == 1 || place == 2 then Location else Variable)

abbrev pub next_place : ℕ → ℕ
next_place place = if place == 0 then 1 else (if place == 1 then 2 else 3)
