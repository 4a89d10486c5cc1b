-- One component: what the lines inside it declare, and what it can do by itself in a local state.
use Rattle.std.specs.Prelude.{◌≡◌, ℕ, Bool, not, ◌==◌, ◌&&◌, ◌||◌, ◌∷◌, ◌++◌, [], List, length}
use Rattle.std.specs.Prelude.{Option, Result, Ok, Err, false, find, nat_le, position, if◌then◌else◌}
use Rattle.std.specs.Int.{bit_at}
use Rattle.std.specs.List.{list_any}
use Rattle.std.specs.Option.{ok_or, option_map, option_map_or}
use Rattle.bip_model.specs.Expressions.{holds, updated}
use Rattle.bip_model.specs.Faults.{◌>>=◌}
use Rattle.bip_model.specs.Naming.{is_known, same_text}
use Rattle.bip_model.specs.Scopes.{are_long_assignments, assignments_with, guard_with}
use Rattle.bip_model.specs.Scopes.{is_long_guard, knows_assignments, knows_guard, own}
use Rattle.bip_model.specs.declared.expressions.Assignment.{Assignment}
use Rattle.bip_model.specs.declared.expressions.Comparison.{Comparison}
use Rattle.bip_model.specs.declared.faults.BuildFault.{BuildFault}
use Rattle.bip_model.specs.declared.faults.BuildFault.TheVariants.{Unknown, Twice, TooMany}
use Rattle.bip_model.specs.declared.faults.BuildFault.TheVariants.{TwoTransitions}
use Rattle.bip_model.specs.declared.numbering.LocId.{LocId}
use Rattle.bip_model.specs.declared.numbering.PortId.{PortId}
use Rattle.bip_model.specs.declared.parts.Component.{Component}
use Rattle.bip_model.specs.declared.parts.Transition.{Transition}
use Rattle.bip_model.specs.declared.scopes.VariableName.{VariableName}
use Rattle.bip_model.specs.declared.states.LocalState.{LocalState}

-- a component that has declared nothing
abbrev pub no_component : Component
no_component =
    record { variables = []; start = []; locations = []; ports = []; transitions = [] }

-- the number of a name in a list
abbrev pub number_in : List (List ℕ) → List ℕ → Result ℕ BuildFault
number_in names name = ok_or (position (same_text name) names) Unknown

-- whether a name is taken in a component, whose variables, locations and ports share one space of
-- names
abbrev pub is_taken : List ℕ → Component → Bool
is_taken name c =
    is_known name c.variables || is_known name c.locations || is_known name c.ports

-- `var NAME VALUE`
abbrev pub var_line : List ℕ → ℕ → Component → Result Component BuildFault
var_line name value c =
    if is_taken name c then Err Twice
    else if nat_le 8 (length c.variables) then Err TooMany
    else Ok (record c { variables = c.variables ++ name ∷ []; start = c.start ++ value ∷ [] })

-- `loc NAME`
abbrev pub loc_line : List ℕ → Component → Result Component BuildFault
loc_line name c =
    if is_taken name c then Err Twice
    else if nat_le 64 (length c.locations) then Err TooMany
    else Ok (record c { locations = c.locations ++ name ∷ [] })

-- `port NAME`
abbrev pub port_line : List ℕ → Component → Result Component BuildFault
port_line name c =
    if is_taken name c then Err Twice
    else if nat_le 16 (length c.ports) then Err TooMany
    else Ok (record c { ports = c.ports ++ name ∷ [] })

-- whether a transition leaves a location with a port
abbrev pub leaves : LocId → PortId → Transition → Bool
leaves location port t = (t.source.0 == location.0) && (t.port.0 == port.0)

-- a transition joins those of a component, with the guard and the update of which a text names the
-- variables
abbrev pub with_transition : PortId → LocId → LocId → List (Comparison VariableName)
    → List (Assignment VariableName) → Component → Result Component BuildFault
with_transition port source target guard update c =
    if nat_le 256 (length c.transitions)
    || is_long_guard guard || are_long_assignments update then Err TooMany
    else if list_any (leaves source port) c.transitions then Err TwoTransitions
    else Ok (record c {
      transitions = c.transitions ++ record {
        port = port;
        source = source;
        target = target;
        guard = guard_with (own c.variables) guard;
        update = assignments_with (own c.variables) update;
      } ∷ [];
    })

-- `trans PORT FROM TO [when GUARD] [do ASSIGNS]`
abbrev pub trans_line : List ℕ → List ℕ → List ℕ → List (Comparison VariableName)
    → List (Assignment VariableName) → Component → Result Component BuildFault
trans_line port source target guard update c =
    number_in c.ports port
    >>= λ p. number_in c.locations source
    >>= λ s. number_in c.locations target
    >>= λ t. (if not (knows_guard (own c.variables) guard) then Err Unknown
    else if not (knows_assignments (own c.variables) update) then Err Unknown
    else with_transition (record { 0 = p }) (record { 0 = s }) (record { 0 = t }) guard update c)

-- the transition of a component with a port from a location; a valid component has at most one
abbrev pub transition_for : Component → LocId → PortId → Option Transition
transition_for component location port = find (leaves location port) component.transitions

-- whether a component offers a port in a local state, one with a value for each of its variables: a
-- transition with that port leaves it, and its guard holds
abbrev pub offers_at : Component → LocalState → PortId → Bool
offers_at component local port =
    (length local.values == length component.variables)
    && option_map_or (λ t. holds t.guard (local.values ∷ []))
    (transition_for component local.location port) false

-- where a transition leads from a local state: to its target, with the values after its update
abbrev pub followed : Transition → LocalState → LocalState
followed t local = record { location = t.target; values = updated t.update local.values }

-- where a component's transition with a port leads from a local state
abbrev pub moved : Component → LocalState → PortId → Option LocalState
moved component local port =
    option_map (λ t. followed t local) (transition_for component local.location port)

-- bits that say, each for the port of its number, whether a component offers it in a local state
abbrev pub AreOffered : Component → LocalState → ℕ → Type 0
AreOffered component local bits =
    (port : PortId) → bit_at bits port.0 ≡ (if offers_at component local port then 1 else 0)
