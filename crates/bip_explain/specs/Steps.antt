-- Why a grant can't be next, and how it is told.
use Rattle.std.specs.Prelude.{◌≡◌, ℕ, true, List, [], ◌∷◌, ◌++◌, codes}
use Rattle.std.specs.Fmt.{decimal}
use Rattle.bip_model.specs.declared.parts.System.{System}
use Rattle.bip_replay.specs.declared.faults.BookFault.{BookFault}
use Rattle.bip_replay.specs.declared.faults.BookFault.TheVariants.{NotEnabled, Below, Number}
use Rattle.bip_replay.specs.declared.faults.BookFault.TheVariants.{Parties, Memory}
use Rattle.bip_replay.specs.declared.faults.StepFault.{StepFault}
use Rattle.bip_replay.specs.declared.faults.StepFault.TheVariants as step
use Rattle.bip_explain.specs.Explanations.{Telling, Tells, is_open, with_part}
use Rattle.bip_explain.specs.Grants.{IsCountOf, IsWrongNumber, component_parts, name_parts}
use Rattle.bip_explain.specs.Grants.{number_parts}
use Rattle.bip_explain.specs.Hindrances.{TellsHindrance}
use Rattle.bip_explain.specs.Parties.{TellsParties}
use Rattle.bip_model.specs.Texts.{line_at}

-- what is told is a reason that is true of the line, and of the state before it
abbrev pub TellsStep : System → ℕ → List ℕ → ℕ → BookFault → Telling → Telling → Type 0
TellsStep model base text number (Number comp next) old new =
    Tells ⊥ (λ wrong. IsWrongNumber model (line_at text number) comp next wrong
    × IsCountOf model base text number comp next) (number_parts model base) old new
TellsStep model base text number Parties old new = TellsParties model base text number old new
TellsStep model base text number Memory old new =
    is_open old ≡ true → new ≡ with_part (codes "the run takes more memory than there is") old
TellsStep model base text number NotEnabled old new =
    TellsHindrance model base text number NotEnabled old new
TellsStep model base text number (Below above) old new =
    TellsHindrance model base text number (Below above) old new

-- how the fault of an explored seed is told
abbrev pub fault_parts : System → StepFault → List (List ℕ)
fault_parts model step.NotEnabled = codes "it isn't enabled" ∷ []
fault_parts model (step.Below above) =
    name_parts model.interaction_names above.0 ++ codes " stands above it, and is enabled" ∷ []
fault_parts model (step.Number comp expected) =
    component_parts model comp.0 ++ codes " should have number " ∷ decimal expected ∷ []
fault_parts model step.Parties = codes "its parties are wrong" ∷ []

abbrev pub seed_parts : System → StepFault → List (List ℕ)
seed_parts model fault = codes "a grant of its trace can't be next: " ∷ fault_parts model fault
