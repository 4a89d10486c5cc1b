-- Where the transitions of components stand in their lists, so that one is found without a search.
use Rattle.std.specs.Prelude.{◌≡◌, ℕ, ◌+◌, ◌*◌, ◌<◌, List, [], length, slice_get, slice_index}
use Rattle.std.specs.Prelude.{slice_index_or}
use Rattle.bip_model.specs.Components.{transition_for}
use Rattle.bip_model.specs.declared.numbering.LocId.{LocId}
use Rattle.bip_model.specs.declared.numbering.PortId.{PortId}
use Rattle.bip_model.specs.declared.parts.Component.{Component}

-- the index of a location and a port, where each location in turn has one for each port
abbrev pub index_of : Component → LocId → PortId → ℕ
index_of component location port = location.0 * length component.ports + port.0

-- for each location of a component in turn, and there for each port, the place of the transition
-- that leaves the location with the port; a place that no transition has where there is none
pub record ArePlaces (component : Component) (places : List ℕ) : Type 0 where
  pub each : length places ≡ length component.locations * length component.ports
  pub place : (location : LocId) (port : PortId) → location.0 < length component.locations
      → port.0 < length component.ports
      → slice_get component.transitions (slice_index places (index_of component location port))
      ≡ transition_for component location port

-- such places of each component in turn
pub record ArePlacesOfEach (components : List Component) (lists : List (List ℕ)) : Type 0 where
  pub each : length lists ≡ length components
  pub places : (c : ℕ) (d : Component) → c < length components
      → ArePlaces (slice_index_or components c d) (slice_index_or lists c [])
