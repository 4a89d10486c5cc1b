-- Replays: a trace as a run, or its first line at fault.
use Rattle.std.specs.Prelude.{Bool, Err, List, None, Ok, Result, Some, false, length, true, ℕ, ◌++◌}
use Rattle.std.specs.Prelude.{◌+◌, ◌∷◌, ◌≡◌}
use Rattle.bip_model.specs.States.{State}
use Rattle.bip_model.specs.Texts.{lines}
use Rattle.bip_model.specs.declared.grants.Grant.{Grant}
use Rattle.bip_model.specs.declared.parts.System.{System}
use Rattle.bip_replay.specs.Faults.{IsFaultOf, of_step}
use Rattle.bip_replay.specs.Items.{IsOutOfMemory}
use Rattle.bip_replay.specs.Lines.{grant_on}
use Rattle.bip_replay.specs.Runs.{IsModelRun, IsNextAt, Standing, standing_after, standing_on}
use Rattle.bip_replay.specs.Runs.{state_after, used_after}
use Rattle.bip_replay.specs.Traces.{grants_from, grants_of}
use Rattle.bip_replay.specs.declared.faults.LineFault.TheVariants as line_fault
use Rattle.bip_replay.specs.declared.faults.ReplayFault.TheVariants.{Memory, NotARun, Syntax}
use Rattle.bip_replay.specs.declared.faults.ReplayFault.TheVariants.{Unknown}
use Rattle.bip_replay.specs.declared.faults.ReplayFault.{ReplayFault}
use Rattle.bip_replay.specs.declared.faults.StepFault.{StepFault}

-- the line reads as a grant with this fault in a state, after the used numbers
pub record IsRefused
    (m : System) (s : State) (used : ℕ → ℕ) (line : List ℕ) (fault : StepFault) : Type 0 where
  pub grant : Grant
  pub reads : grant_on m line ≡ Ok (Some grant)
  pub why : IsFaultOf m s used grant fault

-- the fault of a line in a state, after the used numbers; want of memory is no fault of a line
abbrev pub IsLineFault : System → State → (ℕ → ℕ) → List ℕ → ReplayFault → Type 0
IsLineFault m s used line Syntax = grant_on m line ≡ Err line_fault.Syntax
IsLineFault m s used line Unknown = grant_on m line ≡ Err line_fault.Unknown
IsLineFault m s used line (NotARun why) =
    (fault : StepFault) × (why ≡ of_step fault) × IsRefused m s used line fault
IsLineFault m s used line Memory = ⊥

-- the first fault of a trace: the lines before read as grants that are a run, and the line with
-- this number is at fault after them
pub record IsFirstFault
    (m : System) (base : ℕ) (text : List ℕ) (number : ℕ) (fault : ReplayFault) : Type 0 where
  pub front : List (List ℕ)
  pub line : List ℕ
  pub rest : List (List ℕ)
  pub grants : List Grant
  pub split : lines text ≡ front ++ line ∷ rest
  pub numbered : number ≡ length front + 1
  pub reads : grants_from m 1 front ≡ Ok grants
  pub run : IsModelRun m base grants
  pub why : IsLineFault m (state_after m grants) (used_after base grants) line fault

-- why a trace isn't replayed: its first fault, or want of memory, which is told of the first line,
-- where that reads
abbrev pub IsReplayFault : System → ℕ → List ℕ → ℕ → ReplayFault → Type 0
IsReplayFault m base text number Memory = (number ≡ 1) × IsOutOfMemory (grant_on m) text 1
IsReplayFault m base text number Syntax = IsFirstFault m base text number Syntax
IsReplayFault m base text number Unknown = IsFirstFault m base text number Unknown
IsReplayFault m base text number (NotARun why) = IsFirstFault m base text number (NotARun why)

-- a text is a trace of so many grants that are a run
pub record IsRunOf (m : System) (base : ℕ) (text : List ℕ) (count : ℕ) : Type 0 where
  pub grants : List Grant
  pub reads : grants_of m text ≡ Ok grants
  pub run : IsModelRun m base grants
  pub counted : length grants ≡ count

-- and that run leads here
pub record IsRunTo (m : System) (base : ℕ) (text : List ℕ) (p : Standing) (count : ℕ) : Type 0
  where
    pub is : IsRunOf m base text count
    pub there : p ≡ standing_after m base is.grants

-- What contracts of private functions say.

-- a line's grant takes a run on
pub record TakesOn (p : Standing) (line : List ℕ) (q : Standing) : Type 0 where
  pub grant : Grant
  pub reads : grant_on p.model line ≡ Ok (Some grant)
  pub next : IsNextAt p grant
  pub on : q ≡ standing_on p grant

-- what a line does to a run: its grant takes it on, a line that says nothing leaves it, or the line
-- is at fault
abbrev pub Takes : Standing → List ℕ → Result Bool ReplayFault → Standing → Type 0
Takes p line (Ok true) q = TakesOn p line q
Takes p line (Ok false) q = (grant_on p.model line ≡ Ok None) × (q ≡ p)
Takes p line (Err fault) q = IsLineFault p.model p.state p.used line fault
