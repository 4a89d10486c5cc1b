-- What a book holds, and why a grant can't be appended.
use Rattle.std.specs.Prelude.{List, [], ℕ, ◌++◌, ◌∷◌}
use Rattle.bip_model.specs.declared.grants.Grant.{Grant}
use Rattle.bip_model.specs.declared.parts.System.{System}
use Rattle.bip_replay.specs.Faults.{IsFaultAt}
use Rattle.bip_replay.specs.Runs.{IsModelRun, standing_after}
use Rattle.bip_replay.specs.declared.faults.BookFault.TheVariants.{Below, Memory, NotEnabled}
use Rattle.bip_replay.specs.declared.faults.BookFault.TheVariants.{Number, Parties}
use Rattle.bip_replay.specs.declared.faults.BookFault.{BookFault}
use Rattle.bip_replay.specs.declared.faults.StepFault.TheVariants as step
use Rattle.bip_replay.specs.declared.faults.StepFault.{StepFault}

-- a model, a base of numbers, and grants
pub record Content : Type 0 where
  pub model : System
  pub base : ℕ
  pub grants : List Grant

-- the fault of a grant after those of a book
abbrev pub IsFaultAfter : Content → Grant → StepFault → Type 0
IsFaultAfter b g fault = IsFaultAt (standing_after b.model b.base b.grants) g fault

-- the grants of a book and this one are a run
abbrev pub IsRunWith : Content → Grant → Type 0
IsRunWith b g = IsModelRun b.model b.base (b.grants ++ g ∷ [])

-- why a grant wasn't appended: want of memory, where the longer list is a run, or else the grant's
-- fault
abbrev pub IsAppendFault : Content → Grant → BookFault → Type 0
IsAppendFault b g NotEnabled = IsFaultAfter b g step.NotEnabled
IsAppendFault b g (Below a) = IsFaultAfter b g (step.Below a)
IsAppendFault b g (Number c expected) = IsFaultAfter b g (step.Number c expected)
IsAppendFault b g Parties = IsFaultAfter b g step.Parties
IsAppendFault b g Memory = IsRunWith b g
