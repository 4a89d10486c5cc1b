-- Which grants a text is, and why it is none.
use Rattle.std.specs.Prelude.{List, None, Option, Result, Some, take, ℕ, ⊤, ◌-◌, ◌<◌, ◌≤◌}
use Rattle.bip_model.specs.declared.grants.Grant.{Grant}
use Rattle.bip_model.specs.declared.parts.System.{System}
use Rattle.bip_replay.specs.Items.{IsTextFault, items_from, items_of}
use Rattle.bip_replay.specs.Lines.{grant_on}
use Rattle.bip_replay.specs.declared.faults.LineFault.{LineFault}
use Rattle.bip_replay.specs.declared.faults.TraceFault.{TraceFault}

-- the grants of lines that are numbered from a number on, or the number and the fault of the first
-- line at fault
abbrev pub grants_from : System → ℕ → List (List ℕ) → Result (List Grant) (ℕ × LineFault)
grants_from m n lines = items_from (grant_on m) n lines

-- the grants that a text is, or the number and the fault of its first line at fault
abbrev pub grants_of : System → List ℕ → Result (List Grant) (ℕ × LineFault)
grants_of m text = items_of (grant_on m) text

-- why a text isn't read as a trace
abbrev pub IsTraceFault : System → List ℕ → ℕ → TraceFault → Type 0
IsTraceFault m text number fault = IsTextFault (grant_on m) text number fault

-- What contracts of private functions say.

-- the lines before one, by its number, or all
abbrev pub lines_before : Option ℕ → List (List ℕ) → List (List ℕ)
lines_before None all = all
lines_before (Some end) all = take (end - 1) all

-- a number is that of a line before an end, or no longer
abbrev pub IsBefore : Option ℕ → ℕ → Type 0
IsBefore None number = ⊤
IsBefore (Some end) number = number < end

abbrev pub IsAfter : Option ℕ → ℕ → Type 0
IsAfter None number = ⊥
IsAfter (Some end) number = end ≤ number
