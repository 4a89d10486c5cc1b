-- States: the local state of each component, and which states are states of a model.
use Rattle.std.specs.Prelude.{◌≡◌, ℕ, ◌<◌, ◌≤◌, List, Option, None, Some, length, slice_get}
use Rattle.std.specs.Prelude.{IsSomeAnd}
use Rattle.bip_model.specs.declared.numbering.LocId.{LocId}
use Rattle.bip_model.specs.declared.parts.Component.{Component}
use Rattle.bip_model.specs.declared.parts.System.{System}
use Rattle.bip_model.specs.declared.states.LocalState.{LocalState}

-- a state: the local state of each component that has one
abbrev pub State : Type 0
State = ℕ → Option LocalState

-- a list of local states, by component, as a state
abbrev pub state_of : List LocalState → State
state_of locals c = slice_get locals c

-- a local state with other values
abbrev pub with_values : List ℕ → LocalState → LocalState
with_values values local = record local { values = values }

-- a location with values, as a local state
abbrev pub local_of : LocId × List ℕ → LocalState
local_of p = record { location = p.0; values = p.1 }

-- a local state that a component can be in: one of its locations, and a value for each of its
-- variables
pub record IsLocalStateOf (component : Component) (local : LocalState) : Type 0 where
  pub location : local.location.0 < length component.locations
  pub values : length local.values ≡ length component.variables

-- a state of a model: each of its components is in a local state of its own, and nobody else in any
pub record IsStateOf (m : System) (s : State) : Type 0 where
  pub components : (c : ℕ) (component : Component) → slice_get m.components c ≡ Some component
      → IsSomeAnd (s c) (IsLocalStateOf component)
  pub others : (c : ℕ) → length m.components ≤ c → s c ≡ None
