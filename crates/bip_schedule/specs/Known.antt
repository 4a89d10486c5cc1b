-- Lines of schedules that are known again.
use Rattle.std.specs.Prelude.{All, List, None, Ok, Option, Some, slice_get, ⊤, ◌≡◌, ℕ}
use Rattle.bip_core.specs.declared.events.Event.{Event}
use Rattle.bip_model.specs.declared.numbering.InterId.{InterId}
use Rattle.bip_partition.specs.Plans.{AreStations, Planned}
use Rattle.bip_schedule.specs.Lines.{event_on}
use Rattle.bip_schedule.specs.Writing.{HasSpelling}
use Rattle.bip_schedule.specs.declared.known.KnownLine.{KnownLine}

-- what lines are read by: a plan with its stations
pub record StationedPlan : Type 0 where
  pub plan : Planned
  pub stations : List InterId

-- a line says this event, which has a spelling
pub record IsKnownFor (by : StationedPlan) (line : List ℕ) (event : Event) : Type 0 where
  pub says : event_on by.plan by.stations line ≡ Ok (Some event)
  pub spelled : HasSpelling by.plan by.stations event

-- at a place stands nothing, or a line with the event that it says
abbrev pub IsPlaceKnown : StationedPlan → Option KnownLine → Type 0
IsPlaceKnown by None = ⊤
IsPlaceKnown by (Some known) = IsKnownFor by known.line.now known.event

-- all places are so, and the stations are those of the plan
pub record ArePlacesKnown (by : StationedPlan) (places : List (Option KnownLine)) : Type 0 where
  pub stations : AreStations by.plan by.stations
  pub known : All (IsPlaceKnown by) places

-- What contracts of private functions say.

-- a line stands at a place, with an event
pub record IsKeptAt (places : List (Option KnownLine)) (place : ℕ) (line : List ℕ) (event : Event)
    : Type 0 where
  pub known : KnownLine
  pub there : slice_get places place ≡ Some (Some known)
  pub same : known.line.now ≡ line
  pub says : known.event ≡ event
