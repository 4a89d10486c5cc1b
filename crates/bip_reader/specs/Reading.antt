-- What the lines of a model's text say, one after another.
use Rattle.std.specs.Prelude.{ℕ, ◌+◌, ◌++◌, Bool, false, true, not, nat_le, List, []}
use Rattle.std.specs.Prelude.{◌∷◌, length, Option, None, Some, Result, Ok, Err, is_some}
use Rattle.std.specs.Prelude.{option_and_then, position, unwrap_or, if◌then◌else◌}
use Rattle.std.specs.List.{list_all, list_any}
use Rattle.std.specs.Option.{ok_or, option_map, option_map_or}
use Rattle.bip_model.specs.Drafts.{component_line, empty_draft, end_line, inside, interaction_line}
use Rattle.bip_model.specs.Drafts.{priority_line}
use Rattle.bip_model.specs.Components.{loc_line, port_line, trans_line, var_line}
use Rattle.bip_model.specs.Naming.{same_text}
use Rattle.bip_model.specs.Faults.{◌>>=◌}
use Rattle.bip_model.specs.Texts.{words_said}
use Rattle.bip_model.specs.declared.drafts.Draft.{Draft}
use Rattle.bip_model.specs.declared.faults.BuildFault.{BuildFault}
use Rattle.bip_model.specs.declared.numbering.InterId.{InterId}
use Rattle.bip_reader.specs.declared.faults.ReadFault.{ReadFault}
use Rattle.bip_reader.specs.declared.faults.Why.{Why}
use Rattle.bip_reader.specs.declared.faults.Why.TheVariants.{Syntax, Unknown, Twice, TooMany}
use Rattle.bip_reader.specs.declared.reading.Reading.{Reading}
use Rattle.bip_reader.specs.declared.statements.Keyword.{Keyword}
use Rattle.bip_reader.specs.declared.statements.Keyword.TheVariants as keyword
use Rattle.bip_reader.specs.declared.statements.Statement.{Statement}
use Rattle.bip_reader.specs.declared.statements.Statement.TheVariants.{Header, Component, Var, Loc}
use Rattle.bip_reader.specs.declared.statements.Statement.TheVariants.{Port, Trans, End}
use Rattle.bip_reader.specs.declared.statements.Statement.TheVariants.{Interaction, Priority, Class}
use Rattle.bip_reader.specs.Faults.{why_of_build}
use Rattle.bip_reader.specs.Statements.{keyword_of, statement_of}
use Rattle.bip_model.specs.Words.{each_of}

-- classes as a text names them: a name, and the numbers of interactions
abbrev pub ClassList : Type 0
ClassList = List (List ℕ × List InterId)

-- nothing has been read yet
abbrev pub empty_reading : Reading
empty_reading = record { builder = None; classes = [] }

-- what the lines behind `bip 1` have declared; nothing before it has stood
abbrev pub draft_of : Reading → Draft
draft_of r = unwrap_or r.builder empty_draft

-- the number of an interaction, by its name
abbrev pub interaction_named : Draft → List ℕ → Option InterId
interaction_named d name =
    option_map (λ n. record { 0 = n }) (position (same_text name) d.system.interaction_names)

-- whether each name is that of an interaction
abbrev pub are_interactions : Reading → List (List ℕ) → Bool
are_interactions r names = list_all (λ name. is_some (interaction_named (draft_of r) name)) names

-- the numbers of interactions, by their names
abbrev pub interactions_named : Reading → List (List ℕ) → Result (List InterId) Why
interactions_named r names = ok_or (each_of (interaction_named (draft_of r)) names) Unknown

-- the class joins those of a reading
abbrev pub with_class : List ℕ → List InterId → Reading → Result Reading Why
with_class name numbers r =
    if nat_le 32 (length r.classes) then Err TooMany
    else Ok (record r { classes = r.classes ++ (name, numbers) ∷ [] })

-- `class NAME INTER INTER ..`
unfoldable pub class_line : List ℕ → List (List ℕ) → Reading → Result Reading Why
class_line name interactions r =
    if list_any (λ class. same_text name class.0) r.classes then Err Twice
    else interactions_named r interactions >>= λ numbers. with_class name numbers r

-- what a statement says to the draft; `bip 1` and a class say nothing to it
abbrev pub draft_with : Statement → Draft → Result Draft BuildFault
draft_with (Component name) d = component_line d name
draft_with (Var name value) d = inside (var_line name value) d
draft_with (Loc name) d = inside (loc_line name) d
draft_with (Port name) d = inside (port_line name) d
draft_with (Trans port source target guard update) d =
    inside (trans_line port source target guard update) d
draft_with End d = end_line d
draft_with (Interaction name participants guard transfer) d =
    interaction_line d name participants guard transfer
draft_with (Priority low high) d = priority_line d low high
draft_with s d = Ok d

-- what was said to the draft, said to the reading
abbrev pub with_draft : Reading → Result Draft BuildFault → Result Reading Why
with_draft r (Ok d) = Ok (record r { builder = Some d })
with_draft r (Err fault) = Err (why_of_build fault)

-- the reading with a statement in its place, or the statement's first fault
abbrev pub reading_with : Statement → Reading → Result Reading Why
reading_with Header r = Ok (record r { builder = Some empty_draft })
reading_with (Class name interactions) r = class_line name interactions r
reading_with s r = with_draft r (draft_with s (draft_of r))

-- whether it is the keyword of `bip 1`
abbrev pub is_of_header : Keyword → Bool
is_of_header keyword.Bip = true
is_of_header k = false

-- whether a line can stand behind `bip 1`: the lines of a component inside one, others outside
abbrev pub can_follow : Keyword → Draft → Bool
can_follow keyword.Bip d = false
can_follow keyword.Component d = not (is_some d.begun)
can_follow keyword.Var d = is_some d.begun
can_follow keyword.Loc d = is_some d.begun
can_follow keyword.Port d = is_some d.begun
can_follow keyword.Trans d = is_some d.begun
can_follow keyword.End d = is_some d.begun
can_follow keyword.Interaction d = not (is_some d.begun)
can_follow keyword.Priority d = not (is_some d.begun)
can_follow keyword.Class d = not (is_some d.begun)

-- whether a line has its place: `bip 1` stands first, and all others behind it
abbrev pub has_place : Keyword → Reading → Bool
has_place k r = option_map_or (can_follow k) r.builder (is_of_header k)

-- what a line states in its place, by its first word and the rest; none where it has no form, or no
-- place now
abbrev pub statement_in : List ℕ → List (List ℕ) → Reading → Option Statement
statement_in word rest r =
    option_and_then (λ k. if has_place k r then statement_of k rest else None) (keyword_of word)

-- the reading after the words of a line: as it was where there are none; no words at all, where a
-- byte can stand in no line, are a fault of syntax
abbrev pub reading_after_words : Option (List (List ℕ)) → Reading → Result Reading Why
reading_after_words None r = Err Syntax
reading_after_words (Some []) r = Ok r
reading_after_words (Some (word ∷ rest)) r =
    ok_or (statement_in word rest r) Syntax >>= λ s. reading_with s r

-- the reading after a line, or the line's first fault
unfoldable pub reading_after : List ℕ → Reading → Result Reading Why
reading_after line r = reading_after_words (words_said line) r

-- a fault is a fault of the line with this number
abbrev pub at_line : {A : Type 0} → ℕ → Result A Why → Result A ReadFault
at_line n (Ok x) = Ok x
at_line n (Err why) = Err (record { line = n; why = why })

-- the reading after lines, the first of which has this number, or their first fault
abbrev pub reading_after_lines : ℕ → List (List ℕ) → Reading → Result Reading ReadFault
reading_after_lines n [] r = Ok r
reading_after_lines n (line ∷ rest) r =
    at_line n (reading_after line r) >>= reading_after_lines (n + 1) rest
