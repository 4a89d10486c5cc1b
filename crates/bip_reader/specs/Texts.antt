-- What the text of a model means: a model with a partition of its interactions into classes, or the
-- first fault.
use Rattle.std.specs.Prelude.{◌≡◌, ◌⊎◌, ℕ, ◌-◌, ◌≤◌, List, length, map, take, slice_get, Result, Ok}
use Rattle.std.specs.Prelude.{Err, IsOk, IsTrue}
use Rattle.std.specs.Option.{IsSomeAnd}
use Rattle.bip_model.specs.Drafts.{IsWhole}
use Rattle.bip_model.specs.Partitions.{IsPartition, in_order}
use Rattle.bip_model.specs.Priorities.{IsCyclic}
use Rattle.bip_model.specs.Texts.{last_line, lines, says_something, words_said}
use Rattle.bip_model.specs.declared.numbering.InterId.{InterId}
use Rattle.bip_model.specs.declared.partitions.Partition.{Partition}
use Rattle.bip_model.specs.declared.parts.System.{System}
use Rattle.bip_reader.specs.declared.faults.ReadFault.{ReadFault}
use Rattle.bip_reader.specs.declared.faults.Why.{Why}
use Rattle.bip_reader.specs.declared.faults.Why.TheVariants.{Missing, PriorityCycle, NotAPartition}
use Rattle.bip_reader.specs.declared.reading.Reading.{Reading}
use Rattle.bip_reader.specs.Reading.{ClassList, draft_of, empty_reading}
use Rattle.bip_reader.specs.Reading.{reading_after_lines}

-- what the lines of a text say, all in all; or their first fault
unfoldable pub reading_of : List ℕ → Result Reading ReadFault
reading_of text = reading_after_lines 1 (lines text) empty_reading

-- what has been declared is whole: `bip 1` has stood, no component is begun, and there is one
abbrev pub IsWholeReading : Reading → Type 0
IsWholeReading r = IsSomeAnd r.builder IsWhole

-- the model that has been declared
abbrev pub system_of : Reading → System
system_of r = (draft_of r).system

-- lists of a model's interactions that part them: each stands in exactly one of them, once
abbrev pub IsParted : System → ClassList → Type 0
IsParted m list =
    IsPartition (λ (c : List ℕ × List InterId). c.0) (λ c. c.1) (length m.interactions) list

-- the classes that such lists are: of each the interactions in order of number
abbrev pub classes_of : System → ClassList → Partition
classes_of m list = record {
  count = length m.interactions;
  names = map (λ c. c.0) list;
  members = map (λ c. in_order c.1) list;
}

-- a reading declares a model with classes: it is whole, no interaction stands above itself, the
-- lists part the interactions, and the classes are those lists in order
pub record Declares (r : Reading) (m : System) (classes : Partition) : Type 0 where
  pub whole : IsWholeReading r
  pub model : m ≡ system_of r
  pub acyclic : ¬ IsCyclic (system_of r).priorities
  pub parted : IsParted (system_of r) r.classes
  pub ordered : classes ≡ classes_of (system_of r) r.classes

-- a text means a model with its classes: its lines have no fault, and they declare them
pub record Means (text : List ℕ) (m : System) (classes : Partition) : Type 0 where
  pub read : Reading
  pub said : reading_of text ≡ Ok read
  pub declares : Declares read m classes

-- why a reading declares no model with classes, the first that applies: it isn't whole, an
-- interaction stands above itself, or the lists don't part the interactions
abbrev pub IsFaultAtEnd : Reading → Why → Type 0
IsFaultAtEnd r Missing = ¬ IsWholeReading r
IsFaultAtEnd r PriorityCycle = IsWholeReading r × IsCyclic (system_of r).priorities
IsFaultAtEnd r NotAPartition =
    IsWholeReading r × (¬ IsCyclic (system_of r).priorities) × (¬ IsParted (system_of r) r.classes)
IsFaultAtEnd r why = ⊥

-- the lines of a text have no fault, and what they declare has one, which is told of the last line
pub record EndsAtFault (text : List ℕ) (fault : ReadFault) : Type 0 where
  pub read : Reading
  pub said : reading_of text ≡ Ok read
  pub at_end : IsFaultAtEnd read fault.why
  pub last : fault.line ≡ last_line text

-- the fault of a text: the first of its lines, and else of what they declare
abbrev pub HasFault : List ℕ → ReadFault → Type 0
HasFault text fault = (reading_of text ≡ Err fault) ⊎ EndsAtFault text fault

-- what the lines of a text say down to this one, or the first fault of these
abbrev pub reading_down_to : ℕ → List ℕ → Result Reading ReadFault
reading_down_to line text = reading_after_lines 1 (take line (lines text)) empty_reading

-- reading comes to a line of the text: no line before it is at fault
pub record IsReached (text : List ℕ) (line : ℕ) : Type 0 where
  pub first : 1 ≤ line
  pub last : line ≤ last_line text
  pub clear : IsOk (reading_down_to (line - 1) text)

-- whether the line with this number says something
abbrev pub SaysSomething : List ℕ → ℕ → Type 0
SaysSomething text line =
    IsSomeAnd (slice_get (lines text) (line - 1)) (λ bytes.
    IsTrue (says_something (words_said bytes)))

-- memory may be wanting at a line: it is one of the text, neither it nor a line before it is at
-- fault, and it says something or is the last
pub record MayLackMemory (text : List ℕ) (line : ℕ) : Type 0 where
  pub first : 1 ≤ line
  pub last : line ≤ last_line text
  pub clear : IsOk (reading_down_to line text)
  pub saying : (line ≡ last_line text) ⊎ SaysSomething text line
