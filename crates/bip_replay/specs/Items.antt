-- Texts that are read line by line: each line says an item, or nothing, or is at fault.
use Rattle.std.specs.Option.{IsSomeAnd}
use Rattle.std.specs.Prelude.{Err, IsOk, IsTrue, List, None, Ok, Option, Result, Some, [], take, ℕ}
use Rattle.std.specs.Prelude.{slice_get, ◌+◌, ◌++◌, ◌-◌, ◌∷◌, ◌≡◌, ◌≤◌}
use Rattle.bip_model.specs.Texts.{is_plain, last_line, lines}
use Rattle.bip_replay.specs.declared.faults.LineFault.TheVariants as line_fault
use Rattle.bip_replay.specs.declared.faults.LineFault.{LineFault}
use Rattle.bip_replay.specs.declared.faults.TraceFault.TheVariants.{Memory, Syntax, Unknown}
use Rattle.bip_replay.specs.declared.faults.TraceFault.{TraceFault}

-- what a line says, before what the lines after it say: its fault, or its item and theirs
abbrev pub before_rest :
    {X : Type 0} → ℕ → Result (Option X) LineFault → Result (List X) (ℕ × LineFault)
    → Result (List X) (ℕ × LineFault)
before_rest n (Err fault) rest = Err (n, fault)
before_rest n (Ok None) rest = rest
before_rest n (Ok (Some x)) (Ok xs) = Ok (x ∷ xs)
before_rest n (Ok (Some x)) (Err e) = Err e

-- the items of lines that are numbered from a number on, by what a line says; or the number and the
-- fault of the first line at fault
abbrev pub items_from :
    {X : Type 0} → (List ℕ → Result (Option X) LineFault) → ℕ → List (List ℕ)
    → Result (List X) (ℕ × LineFault)
items_from says n [] = Ok []
items_from says n (line ∷ rest) = before_rest n (says line) (items_from says (n + 1) rest)

-- the items that a text is, or the number and the fault of its first line at fault
abbrev pub items_of :
    {X : Type 0} → (List ℕ → Result (Option X) LineFault) → List ℕ
    → Result (List X) (ℕ × LineFault)
items_of says text = items_from says 1 (lines text)

-- memory is wanting at the line with this number: neither that line nor one before it is at fault
pub record IsOutOfMemory {X : Type 0} (says : List ℕ → Result (Option X) LineFault)
    (text : List ℕ) (number : ℕ) : Type 0 where
  pub first : 1 ≤ number
  pub last : number ≤ last_line text
  pub clear : IsOk (items_from says 1 (take number (lines text)))

-- the line with this number says an item
abbrev pub SaysItem : {X : Type 0} → (List ℕ → Result (Option X) LineFault) → List ℕ → ℕ → Type 0
SaysItem {X} says text number =
    IsSomeAnd (slice_get (lines text) (number - 1))
    (λ line. (x : X) × (says line ≡ Ok (Some x)))

-- why a text isn't read as items; memory can be wanting where a line says one
abbrev pub IsTextFault :
    {X : Type 0} → (List ℕ → Result (Option X) LineFault) → List ℕ → ℕ → TraceFault → Type 0
IsTextFault says text number Syntax = items_of says text ≡ Err (number, line_fault.Syntax)
IsTextFault says text number Unknown = items_of says text ≡ Err (number, line_fault.Unknown)
IsTextFault says text number Memory = IsOutOfMemory says text number × SaysItem says text number

-- What contracts of private functions say.

-- the line that is written of an item, without its line feed, reads as that item
pub record ReadsBack {X : Type 0} (says : List ℕ → Result (Option X) LineFault)
    (line : X → List ℕ) (x : X) : Type 0 where
  pub plain : IsTrue (is_plain (line x))
  pub reads : says (line x) ≡ Ok (Some x)

-- items, and then that of a line that says one
abbrev pub one_more : {X : Type 0} → List X → Option X → List X
one_more xs None = xs
one_more xs (Some x) = xs ++ x ∷ []

-- what a reader of one line did to the items before it: it put the line's item last, or the line
-- is at fault, or there was no memory for its item
abbrev pub Reads :
    {X : Type 0} → (List ℕ → Result (Option X) LineFault) → List X → List ℕ
    → Result (Unit {0}) TraceFault → List X → Type 0
Reads {X} says old line (Ok u) new =
    (said : Option X) × (says line ≡ Ok said) × (new ≡ one_more old said)
Reads says old line (Err Syntax) new = says line ≡ Err line_fault.Syntax
Reads says old line (Err Unknown) new = says line ≡ Err line_fault.Unknown
Reads {X} says old line (Err Memory) new = (x : X) × (says line ≡ Ok (Some x))
