-- Why a grant can't be next, and the numbers and the texts of all faults.
use Rattle.std.specs.Fmt.{decimal}
use Rattle.std.specs.Prelude.{All, Any, List, codes, if◌then◌else◌, length, nat_lt, ℕ, ◌++◌, ◌+◌}
use Rattle.std.specs.Prelude.{◌<◌, ◌≡◌}
use Rattle.bip_model.specs.Numbering.{last_number}
use Rattle.bip_model.specs.States.{State}
use Rattle.bip_model.specs.Steps.{IsEnabled, IsLowestAbove, MayRun}
use Rattle.bip_model.specs.declared.grants.Grant.{Grant}
use Rattle.bip_model.specs.declared.wants.Want.{Want}
use Rattle.bip_model.specs.declared.parts.System.{System}
use Rattle.bip_replay.specs.Runs.{AreEnough, HasNextNumber, Standing}
use Rattle.bip_replay.specs.declared.faults.BookFault.TheVariants as book
use Rattle.bip_replay.specs.declared.faults.BookFault.{BookFault}
use Rattle.bip_replay.specs.declared.faults.LineFault.TheVariants as line
use Rattle.bip_replay.specs.declared.faults.LineFault.{LineFault}
use Rattle.bip_replay.specs.declared.faults.ReplayFault.TheVariants as replay
use Rattle.bip_replay.specs.declared.faults.ReplayFault.{ReplayFault}
use Rattle.bip_replay.specs.declared.faults.StepFault.TheVariants.{Below, NotEnabled, Number}
use Rattle.bip_replay.specs.declared.faults.StepFault.TheVariants.{Parties}
use Rattle.bip_replay.specs.declared.faults.StepFault.{StepFault}
use Rattle.bip_replay.specs.declared.faults.TraceFault.TheVariants as trace
use Rattle.bip_replay.specs.declared.faults.TraceFault.{TraceFault}

-- the number that a component's next move has; 0 where it is spent and has no next move
abbrev pub expected_after : ℕ → ℕ
expected_after used = if nat_lt used last_number then used + 1 else 0

-- the lowest component of the model among the wants whose number isn't that of its next move
pub record IsLowestWrong (m : System) (used : ℕ → ℕ) (wants : List Want) (c : ℕ) : Type 0 where
  pub known : c < length m.components
  pub wrong : Any (λ (w : Want). (w.comp.0 ≡ c) × ¬ HasNextNumber used w) wants
  pub lower : All (λ (w : Want). w.comp.0 < c → HasNextNumber used w) wants

-- each want whose component the model has is that of its next move
abbrev pub KnownAreRight : System → (ℕ → ℕ) → List Want → Type 0
KnownAreRight m used wants =
    All (λ (w : Want). w.comp.0 < length m.components → HasNextNumber used w) wants

-- the fault of a grant in a state, after the used numbers: the first of these that applies; its
-- interaction isn't enabled, or it is and may not run, or it may
abbrev pub IsFaultOf : System → State → (ℕ → ℕ) → Grant → StepFault → Type 0
IsFaultOf m s used g NotEnabled = ¬ IsEnabled m s g.inter.0
IsFaultOf m s used g (Below b) = IsEnabled m s g.inter.0 × IsLowestAbove m s g.inter.0 b.0
IsFaultOf m s used g (Number c expected) =
    MayRun m s g.inter.0 × IsLowestWrong m used g.wants c.0 × (expected ≡ expected_after (used c.0))
IsFaultOf m s used g Parties =
    MayRun m s g.inter.0 × KnownAreRight m used g.wants × ¬ AreEnough m s g.inter.0 g.wants

-- why a grant can't come next
abbrev pub IsFaultAt : Standing → Grant → StepFault → Type 0
IsFaultAt p g fault = IsFaultOf p.model p.state p.used g fault

-- the same fault, of a book
abbrev pub of_step : StepFault → BookFault
of_step NotEnabled = book.NotEnabled
of_step (Below b) = book.Below b
of_step (Number c expected) = book.Number c expected
of_step Parties = book.Parties

-- a line's fault, as why bytes are no trace
abbrev pub trace_of_line : LineFault → TraceFault
trace_of_line line.Syntax = trace.Syntax
trace_of_line line.Unknown = trace.Unknown

-- a line's fault, as why a trace can't be replayed
abbrev pub replay_of_line : LineFault → ReplayFault
replay_of_line line.Syntax = replay.Syntax
replay_of_line line.Unknown = replay.Unknown

-- the number of a book's fault
abbrev pub number_of_book : BookFault → ℕ
number_of_book book.NotEnabled = 1
number_of_book (book.Below b) = 2
number_of_book (book.Number c expected) = 3
number_of_book book.Parties = 4
number_of_book book.Memory = 5

-- the words of a book's fault
abbrev pub text_of_book : BookFault → List ℕ
text_of_book book.NotEnabled = codes "not enabled"
text_of_book (book.Below b) = codes "below interaction " ++ decimal b.0
text_of_book (book.Number c expected) =
    codes "component " ++ (decimal c.0 ++ (codes " expected " ++ decimal expected))
text_of_book book.Parties = codes "parties"
text_of_book book.Memory = codes "no memory"

-- the fault of a step has the number and the text of the same fault of a book
abbrev pub number_of_step : StepFault → ℕ
number_of_step fault = number_of_book (of_step fault)

-- the words of a step's fault
abbrev pub text_of_step : StepFault → List ℕ
text_of_step fault = text_of_book (of_step fault)

-- the words of a line's fault
abbrev pub text_of_line : LineFault → List ℕ
text_of_line line.Syntax = codes "syntax"
text_of_line line.Unknown = codes "unknown name"

-- the number of a trace's fault
abbrev pub number_of_trace : TraceFault → ℕ
number_of_trace trace.Syntax = 1
number_of_trace trace.Unknown = 2
number_of_trace trace.Memory = 3

-- the words of a trace's fault
abbrev pub text_of_trace : TraceFault → List ℕ
text_of_trace trace.Syntax = text_of_line line.Syntax
text_of_trace trace.Unknown = text_of_line line.Unknown
text_of_trace trace.Memory = codes "no memory"

-- the number of a replay's fault
abbrev pub number_of_replay : ReplayFault → ℕ
number_of_replay replay.Syntax = 1
number_of_replay replay.Unknown = 2
number_of_replay (replay.NotARun fault) = 3
number_of_replay replay.Memory = 4

-- the words of a replay's fault
abbrev pub text_of_replay : ReplayFault → List ℕ
text_of_replay replay.Syntax = text_of_line line.Syntax
text_of_replay replay.Unknown = text_of_line line.Unknown
text_of_replay (replay.NotARun fault) = text_of_book fault
text_of_replay replay.Memory = codes "no memory"
