-- What a model's text lacks as a whole, and how it is told.
use Rattle.std.specs.Prelude.{◌≡◌, ◌⊎◌, ℕ, ◌+◌, ◌<◌, ◌≤◌, IsTrue, List, [], ◌∷◌, ◌++◌, codes}
use Rattle.std.specs.Prelude.{Bool, Some, true, false, drop, length, nat_le, if◌then◌else◌, ◌||◌}
use Rattle.bip_model.specs.Texts.{numbered_lines}
use Rattle.bip_model.specs.Naming.{is_known, same_text}
use Rattle.std.specs.Fmt.{decimal}
use Rattle.bip_reader.specs.declared.faults.Why.{Why}
use Rattle.bip_reader.specs.declared.faults.Why.TheVariants.{Missing, NotAPartition, PriorityCycle}
use Rattle.bip_explain.specs.Declarations.{IsLineWith, begins_component}
use Rattle.bip_explain.specs.Scopes.{IsInside, IsOutside, ends_component}
use Rattle.bip_explain.specs.Explanations.{marked, placed_parts}
use Rattle.bip_model.specs.Texts.{line_at}
use Rattle.bip_explain.specs.Placed.{IsWordAt, first_four, said_words}
use Rattle.bip_explain.specs.declared.ends.EndReason.{EndReason}
use Rattle.bip_explain.specs.declared.ends.PriorityPath.{PriorityPath}
use Rattle.bip_explain.specs.declared.ends.SaidPriority.{SaidPriority}
use Rattle.bip_explain.specs.declared.placed.Placed.{Placed}
use Rattle.bip_explain.specs.declared.ends.EndReason.TheVariants.{NoLocation, NoEnd, NoComponent}
use Rattle.bip_explain.specs.declared.ends.EndReason.TheVariants.{NoFirst, Above, InNoClass}
use Rattle.bip_explain.specs.declared.ends.EndReason.TheVariants.{InClasses}

-- the interactions that the words of a line put into a class: those behind the class's name
abbrev pub members : List (List ℕ) → List (List ℕ)
members [] = []
members (first ∷ rest) = if same_text first (codes "class") then drop 1 rest else []

-- the line of a text with this number puts an interaction into a class
abbrev pub IsClassWith : List ℕ → ℕ → List ℕ → Type 0
IsClassWith text n name = IsTrue (is_known name (members (said_words (line_at text n))))

-- a line before one puts an interaction into a class
abbrev pub HasClassWith : List ℕ → ℕ → List ℕ → Type 0
HasClassWith text line name = (n : ℕ) × (n < line) × IsClassWith text n name

-- no line of a text puts an interaction into a class
abbrev pub NoClassWith : List ℕ → List ℕ → Type 0
NoClassWith text name =
    (n : ℕ) → is_known name (members (said_words (line_at text n))) ≡ false

-- a word at a column stands where a class has its members: behind two words, the keyword and the
-- class's name
abbrev pub IsMemberAt : List ℕ → ℕ → List ℕ → Type 0
IsMemberAt line column word = (at : IsWordAt line column word) × (2 ≤ length at.front)

-- the same word stands so in front of one
abbrev pub IsMemberBefore : List ℕ → Placed → Type 0
IsMemberBefore line placed =
    (column : ℕ) × (column < placed.column) × IsMemberAt line column placed.word.now

-- words say a priority: `priority LOW < HIGH`
abbrev pub SaysPriority : List (List ℕ) → List ℕ → List ℕ → Type 0
SaysPriority ws low high =
    (keyword : List ℕ) × (below : List ℕ) × IsTrue (same_text keyword (codes "priority"))
    × (first_four ws ≡ Some (keyword, low, below, high))

-- a line of a text says it
abbrev pub IsSaidIn : List ℕ → SaidPriority → Type 0
IsSaidIn text said = SaysPriority (said_words (line_at text said.line)) said.low.now said.high.now

-- lines of a text lead up from an interaction to another one: each says a priority, the first one
-- of the interaction, and each of what the line in front of it puts above
abbrev pub LeadUp : List ℕ → List ℕ → List ℕ → List ℕ → Type 0
LeadUp text low [] high = low ≡ high
LeadUp text low (n ∷ ns) high =
    (next : List ℕ) × SaysPriority (said_words (line_at text n)) low next
    × LeadUp text next ns high

-- lines put an interaction above another, or above itself: some lead up to it
abbrev pub PutAbove : List ℕ → List ℕ → List ℕ → List ℕ → Type 0
PutAbove text low ns high = ¬ (ns ≡ []) × LeadUp text low ns high

-- words declare a location: `loc NAME`
abbrev pub declares_location : List (List ℕ) → Bool
declares_location [] = false
declares_location (first ∷ []) = false
declares_location (first ∷ second ∷ rest) = same_text first (codes "loc")

-- whether the component that is begun last has a location, behind a line of these words
abbrev pub is_located : List (List ℕ) → Bool → Bool
is_located ws before = if begins_component ws then false else before || declares_location ws

-- whether it has, behind the lines in front of one, of lines that have their numbers; and whether
-- it had in front of these
abbrev pub has_located : ℕ → Bool → List (ℕ × List ℕ) → Bool
has_located line before [] = before
has_located line before ((n, bytes) ∷ rest) =
    if nat_le line n then before else has_located line (is_located (said_words bytes) before) rest

-- whether the component that is begun last in front of a line has a location there
abbrev pub has_location : List ℕ → ℕ → Bool
has_location text line = has_located line false (numbered_lines text)

-- a line down to this one begins a component
abbrev pub HasComponent : List ℕ → ℕ → Type 0
HasComponent text number =
    (n : ℕ) × (n < number + 1) × (begins_component (said_words (line_at text n)) ≡ true)

-- where a line ends a component, that has a location
abbrev pub IsLocated : List ℕ → ℕ → Type 0
IsLocated text number =
    ends_component (said_words (line_at text number)) ≡ true
    → (component : List ℕ) → IsInside text number component → has_location text number ≡ true

-- nothing is missing down to a line: a component is begun, each that is begun is ended, and the one
-- that the line ends has a location
abbrev pub IsComplete : List ℕ → ℕ → Type 0
IsComplete text number =
    HasComponent text number × IsOutside text (number + 1) × IsLocated text number

-- a reason is true of a text whose line with this number is at fault: the line ends a component
-- that has no location; down to the line the component isn't ended, none is begun, or nothing is
-- said; the lines that are told put the interaction above itself; a line declares it, and no class
-- has it; the word that is told stands on the line that is told, at its column, in a class, and so
-- it does in a line before, or before it
abbrev pub IsEndReason : List ℕ → ℕ → EndReason → Type 0
IsEndReason text number (NoLocation component) =
    (ends_component (said_words (line_at text number)) ≡ true)
    × IsInside text number component.now × (has_location text number ≡ false)
IsEndReason text number (NoEnd component) = IsInside text (number + 1) component.now
IsEndReason text number NoComponent =
    (n : ℕ) → n < number + 1 → begins_component (said_words (line_at text n)) ≡ false
IsEndReason text number NoFirst =
    (n : ℕ) → n < number + 1 → said_words (line_at text n) ≡ []
IsEndReason text number (Above name lines) = PutAbove text name lines.items name
IsEndReason text number (InNoClass name) =
    ((n : ℕ) × IsLineWith text n (codes "interaction") name) × NoClassWith text name
IsEndReason text number (InClasses n placed) =
    IsMemberAt (line_at text n) placed.column placed.word.now × IsClassWith text n placed.word.now
    × (HasClassWith text n placed.word.now ⊎ IsMemberBefore (line_at text n) placed)

-- the kind of fault that a reason is one of
abbrev pub why_of_end : EndReason → Why
why_of_end (Above name lines) = PriorityCycle
why_of_end (InNoClass name) = NotAPartition
why_of_end (InClasses n placed) = NotAPartition
why_of_end reason = Missing

-- lines by their numbers, the first behind a text
abbrev pub lines_parts : List ℕ → List ℕ → List (List ℕ)
lines_parts front [] = []
lines_parts front (n ∷ ns) = front ∷ decimal n ∷ lines_parts (codes ", line ") ns

-- how a reason is told
abbrev pub end_parts : EndReason → List (List ℕ)
end_parts (NoLocation component) =
    codes "component " ∷ marked component.now ∷ codes " has no location" ∷ []
end_parts (NoEnd component) =
    codes "component " ∷ marked component.now ∷ codes " has no `end`" ∷ []
end_parts NoComponent = codes "there is no component" ∷ []
end_parts NoFirst = codes "no line is `bip 1`" ∷ []
end_parts (Above name lines) =
    codes "interaction " ∷ marked name ∷ codes " stands above itself"
    ∷ lines_parts (codes ": line ") lines.items
end_parts (InNoClass name) =
    codes "interaction " ∷ marked name ∷ codes " stands in no class" ∷ []
end_parts (InClasses n placed) =
    codes "line " ∷ decimal n ∷ codes ", " ∷ placed_parts placed
    ++ codes " stands in a class already" ∷ []

-- What contracts of private functions say.

-- a path of priorities leads up from an interaction
abbrev pub IsPathFrom : List ℕ → List ℕ → PriorityPath → Type 0
IsPathFrom text from path = PutAbove text from path.lines.items path.high
