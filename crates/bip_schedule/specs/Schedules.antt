-- Which events a text is, and why it is none.
use Rattle.std.specs.Prelude.{All, IsOk, List, Ok, Option, Result, Some, [], ℕ, ◌++◌, ◌∷◌, ◌≡◌}
use Rattle.bip_core.specs.declared.events.Event.{Event}
use Rattle.bip_model.specs.declared.numbering.InterId.{InterId}
use Rattle.bip_partition.specs.Plans.{AreStations, Planned}
use Rattle.bip_replay.specs.Items.{IsTextFault, items_of}
use Rattle.bip_replay.specs.declared.faults.LineFault.{LineFault}
use Rattle.bip_replay.specs.declared.faults.TraceFault.{TraceFault}
use Rattle.bip_schedule.specs.Lines.{event_on}

-- a text is the events of its lines, by the stations of a plan
pub record IsEventText (p : Planned) (text : List ℕ) (events : List Event) : Type 0 where
  pub stations : List InterId
  pub are : AreStations p stations
  pub reads : items_of (event_on p stations) text ≡ Ok events

-- why a text isn't read as events of a plan
pub record IsScheduleFault (p : Planned) (text : List ℕ) (number : ℕ) (fault : TraceFault)
    : Type 0 where
  pub stations : List InterId
  pub are : AreStations p stations
  pub why : IsTextFault (event_on p stations) text number fault

-- the items of lines that are left, by what a line says; one that says nothing, or is at fault, has
-- none
abbrev pub item_said : {X : Type 0} → Result (Option X) LineFault → List X
item_said (Ok (Some x)) = x ∷ []
item_said other = []

abbrev pub items_left :
    {X : Type 0} → (List ℕ → Result (Option X) LineFault) → List (ℕ × List ℕ) → List X
items_left says [] = []
items_left says (line ∷ rest) = item_said (says line.1) ++ items_left says rest

-- none of them is at fault
abbrev pub AreWell :
    {X : Type 0} → (List ℕ → Result (Option X) LineFault) → List (ℕ × List ℕ) → Type 0
AreWell says lines = All (λ (line : ℕ × List ℕ). IsOk (says line.1)) lines
