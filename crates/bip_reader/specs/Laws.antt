-- What the definitions mean, in the subject's own words: laws that a reviewer reads.
use Rattle.std.specs.Prelude.{◌≡◌, ◌≢◌, ◌⊎◌, ◌↔◌, ◌++◌, ℕ, ◌+◌, List, [], ◌∷◌, length, take, Some}
use Rattle.std.specs.Prelude.{Ok, Err, IsSome, IsTrue, option_and_then}
use Rattle.bip_model.specs.Naming.{IsName}
use Rattle.bip_model.specs.Parts.{IsSystem}
use Rattle.bip_model.specs.Partitions.{AreClassesOf, IsClasses}
use Rattle.bip_model.specs.Texts.{line_feed, lines, said_in, says_something, words_said}
use Rattle.bip_model.specs.declared.partitions.Partition.{Partition}
use Rattle.bip_model.specs.declared.parts.System.{System}
use Rattle.bip_reader.specs.declared.faults.ReadFault.{ReadFault}
use Rattle.bip_reader.specs.declared.faults.Why.TheVariants.{Memory, Syntax}
use Rattle.bip_reader.specs.declared.faults.Why.{Why}
use Rattle.bip_reader.specs.declared.reading.Reading.{Reading}
use Rattle.bip_reader.specs.declared.statements.Statement.{Statement}
use Rattle.bip_reader.specs.Grammar.{IsLineOf}
use Rattle.bip_reader.specs.LineFaults.{IsFirstOf, line_faults}
use Rattle.bip_reader.specs.Reading.{empty_reading, has_place, reading_after, reading_after_lines}
use Rattle.bip_reader.specs.Reading.{reading_with}
use Rattle.bip_reader.specs.Statements.{keyword_in, keyword_of, statement_of}
use Rattle.bip_reader.specs.Texts.{HasFault, IsReached, Means, reading_of}
use Rattle.bip_model.specs.Words.{name_of}
use Rattle.bip_reader.specs.Writing.{CanBeSpelled, text_of_model}

-- a text has at most one meaning
abbrev pub OneMeaning : Type 0
OneMeaning =
    (text : List ℕ) (m n : System) (c d : Partition)
    → Means text m c → Means text n d → (m ≡ n) × (c ≡ d)

-- a text has at most one fault
abbrev pub OneFault : Type 0
OneFault = (text : List ℕ) (f g : ReadFault) → HasFault text f → HasFault text g → f ≡ g

-- a text with a meaning has no fault
abbrev pub NoFault : Type 0
NoFault =
    (text : List ℕ) (m : System) (c : Partition) (f : ReadFault)
    → Means text m c → HasFault text f → ⊥

-- a text means some model with classes
abbrev pub HasMeaning : List ℕ → Type 0
HasMeaning text = (m : System) × (classes : Partition) × Means text m classes

-- every text has a meaning or a fault
abbrev pub MeaningOrFault : Type 0
MeaningOrFault = (text : List ℕ) → HasMeaning text ⊎ ((fault : ReadFault) × HasFault text fault)

-- what a text means is a valid model with a partition of its interactions
abbrev pub MeansValid : Type 0
MeansValid =
    (text : List ℕ) (m : System) (classes : Partition) → Means text m classes
    → IsSystem m × IsClasses classes × AreClassesOf m classes

-- want of memory is no fault of a text
abbrev pub NoWantOfMemory : Type 0
NoWantOfMemory = (text : List ℕ) (fault : ReadFault) → HasFault text fault → fault.why ≢ Memory

-- the fault of a text is the first: no line before its line is at fault
abbrev pub FirstFault : Type 0
FirstFault = (text : List ℕ) (fault : ReadFault) → HasFault text fault → IsReached text fault.line

-- what stands behind a line at fault counts for nothing: texts that begin with the same lines,
-- down to that one, have the same fault
abbrev pub NothingPast : Type 0
NothingPast =
    (a b : List ℕ) (fault : ReadFault) → reading_of a ≡ Err fault
    → take fault.line (lines a) ≡ take fault.line (lines b) → HasFault b fault

-- texts that say the same words, line by line, mean the same
abbrev pub SameMeaning : Type 0
SameMeaning =
    (a b : List ℕ) → said_in a ≡ said_in b
    → (m : System) (classes : Partition) → Means a m classes → Means b m classes

-- a line feed at the end of a text says nothing
abbrev pub NoLastLineFeed : Type 0
NoLastLineFeed = (text : List ℕ) → said_in (text ++ line_feed ∷ []) ≡ said_in text

-- a word is taken as a name exactly where it is one
abbrev pub NamesAreTaken : Type 0
NamesAreTaken = (word : List ℕ) → IsSome (name_of word) ↔ IsName word

-- the canonical text of a valid model, whose names are names, means that model with its classes
abbrev pub CanonicalMeans : Type 0
CanonicalMeans =
    (m : System) (classes : Partition) → IsSystem m → IsClasses classes → AreClassesOf m classes
    → CanBeSpelled m classes → Means (text_of_model m classes) m classes

-- words are read as a statement exactly where they are a line of it
abbrev pub LinesAreRead : Type 0
LinesAreRead =
    (word : List ℕ) (rest : List (List ℕ)) (s : Statement)
    → (option_and_then (λ k. statement_of k rest) (keyword_of word) ≡ Some s)
    ↔ IsLineOf s (word ∷ rest)

-- words are a line of at most one statement
abbrev pub OneStatement : Type 0
OneStatement =
    (words : List (List ℕ)) (s t : Statement) → IsLineOf s words → IsLineOf t words → s ≡ t

-- a line states something where that can stand
pub record StatesInPlace (line : List ℕ) (r : Reading) (s : Statement) : Type 0 where
  pub words : List (List ℕ)
  pub said : words_said line ≡ Some words
  pub form : IsLineOf s words
  pub place : IsTrue (has_place (keyword_in s) r)

-- a line says what its statement says
abbrev pub SaysItsStatement : Type 0
SaysItsStatement =
    (line : List ℕ) (r : Reading) (s : Statement)
    → StatesInPlace line r s → reading_after line r ≡ reading_with s r

-- a line that isn't skipped is a fault of syntax exactly where it states nothing that can stand
abbrev pub SyntaxIsNoLine : Type 0
SyntaxIsNoLine =
    (line : List ℕ) (r : Reading)
    → (reading_after line r ≡ Err Syntax)
    ↔ (IsTrue (says_something (words_said line)) × ((s : Statement) → ¬ StatesInPlace line r s))

-- the fault of a line that states something is the first of what can be wrong with it: a word is
-- told only where no word before it is at fault, and the line as a whole only where none is
abbrev pub FaultsInOrder : Type 0
FaultsInOrder =
    (line : List ℕ) (r : Reading) (s : Statement) (why : Why) → StatesInPlace line r s
    → (reading_after line r ≡ Err why) ↔ IsFirstOf (line_faults r s) why

-- the first line at fault, with its number, counted from 1: those before it have none, and it has
-- this behind what they said
pub record IsFirstAtFault (text : List (List ℕ)) (fault : ReadFault) : Type 0 where
  pub before : List (List ℕ)
  pub line : List ℕ
  pub rest : List (List ℕ)
  pub read : Reading
  pub split : text ≡ before ++ line ∷ rest
  pub counted : fault.line ≡ length before + 1
  pub clear : reading_after_lines 1 before empty_reading ≡ Ok read
  pub at : reading_after line read ≡ Err fault.why

-- the fault of a text's lines is that of the first line at fault
abbrev pub FirstLineIsTold : Type 0
FirstLineIsTold =
    (text : List ℕ) (fault : ReadFault)
    → (reading_of text ≡ Err fault) ↔ IsFirstAtFault (lines text) fault
