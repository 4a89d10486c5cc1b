-- What a model may declare.
use Rattle.std.specs.Prelude.{◌≡◌, ℕ, ◌≤◌, ◌<◌, Bool, false, ◌==◌, ◌&&◌, List, ◌++◌, length, map}
use Rattle.std.specs.Prelude.{[], ◌∷◌, slice_get, All, AllPairs, IfSome}
use Rattle.std.specs.List.Sorted.{IsStrictlyIncreasing}
use Rattle.std.specs.Option.{option_map_or}
use Rattle.bip_model.specs.Expressions.{AreAssignmentsIn, AreComparisonsIn, AreTargetsApart}
use Rattle.bip_model.specs.Naming.{AreApart}
use Rattle.bip_model.specs.Priorities.{AreInOrder, IsCyclic, IsPairOf}
use Rattle.bip_model.specs.declared.expressions.Assignment.{Assignment}
use Rattle.bip_model.specs.declared.expressions.Comparison.{Comparison}
use Rattle.bip_model.specs.declared.expressions.Expr.{Expr}
use Rattle.bip_model.specs.declared.expressions.Variable.{Variable}
use Rattle.bip_model.specs.declared.numbering.CompId.{CompId}
use Rattle.bip_model.specs.declared.numbering.PortId.{PortId}
use Rattle.bip_model.specs.declared.parts.Component.{Component}
use Rattle.bip_model.specs.declared.parts.Interaction.{Interaction}
use Rattle.bip_model.specs.declared.parts.System.{System}
use Rattle.bip_model.specs.declared.parts.Transition.{Transition}

-- a participant of an interaction: a component and one of its ports
abbrev pub Participant : Type 0
Participant = CompId × PortId

-- the components of participants, in the order of the participants
abbrev pub components_in : List Participant → List ℕ
components_in participants = map (λ (q : Participant). q.0.0) participants

-- two transitions leave the same location with the same port
abbrev pub same_start : Transition → Transition → Bool
same_start t u = (t.source.0 == u.source.0) && (t.port.0 == u.port.0)

-- a sum of at most 16 terms
abbrev pub IsShortSum : Expr Variable → Type 0
IsShortSum e = length e.rest < 16

-- a guard over variables of which each owner has a count
pub record IsGuardOver (counts : List ℕ) (guard : List (Comparison Variable)) : Type 0 where
  pub few : length guard ≤ 16
  pub there : AreComparisonsIn counts guard
  pub short : All (λ c. IsShortSum c.left × IsShortSum c.right) guard

-- assignments over variables of which each owner has a count
pub record AreAssignmentsOver (counts : List ℕ) (assignments : List (Assignment Variable))
    : Type 0 where
  pub few : length assignments ≤ 16
  pub there : AreAssignmentsIn counts assignments
  pub short : All (λ a. IsShortSum a.sum) assignments

-- a transition between locations of a component, with a port of it, whose guard and update are over
-- its variables
pub record IsTransitionOf (component : Component) (t : Transition) : Type 0 where
  pub port : t.port.0 < length component.ports
  pub source : t.source.0 < length component.locations
  pub target : t.target.0 < length component.locations
  pub guard : IsGuardOver (length component.variables ∷ []) t.guard
  pub update : AreAssignmentsOver (length component.variables ∷ []) t.update

-- what a component may declare, and have declared so far
pub record IsComponentSoFar (component : Component) : Type 0 where
  pub few_variables : length component.variables ≤ 8
  pub started : length component.start ≡ length component.variables
  pub few_locations : length component.locations ≤ 64
  pub few_ports : length component.ports ≤ 16
  pub few_transitions : length component.transitions ≤ 256
  pub apart : AreApart (component.variables ++ component.locations ++ component.ports)
  pub transitions : All (IsTransitionOf component) component.transitions
  pub one_each : AllPairs (λ t u. same_start t u ≡ false) component.transitions

-- what a component may declare: it has a location to start in, too
pub record IsComponent (component : Component) : Type 0 where
  pub so_far : IsComponentSoFar component
  pub located : 0 < length component.locations

-- the component is there, and has the port
pub record IsPortIn (components : List Component) (q : Participant) : Type 0 where
  pub component : q.0.0 < length components
  pub port : IfSome (slice_get components q.0.0) (λ c. q.1.0 < length c.ports)

-- how many variables the component of a participant has
abbrev pub count_of : List Component → Participant → ℕ
count_of components q = option_map_or (λ c. length c.variables) (slice_get components q.0.0) 0

-- how many variables each participant has
abbrev pub counts_of : List Component → List Participant → List ℕ
counts_of components participants = map (count_of components) participants

-- what an interaction may declare: ports of different components, by component; a guard and a
-- transfer over the participants' variables, no two assignments of which have one target
pub record IsInteraction (components : List Component) (interaction : Interaction) : Type 0 where
  pub some : 0 < length interaction.participants
  pub few : length interaction.participants ≤ 8
  pub rising : IsStrictlyIncreasing (components_in interaction.participants)
  pub ports : All (IsPortIn components) interaction.participants
  pub guard : IsGuardOver (counts_of components interaction.participants) interaction.guard
  pub transfer : AreAssignmentsOver (counts_of components interaction.participants)
      interaction.transfer
  pub apart : AreTargetsApart interaction.transfer

-- what a model may declare, and have declared so far
pub record IsSystemSoFar (m : System) : Type 0 where
  pub few_components : length m.component_names ≤ 64
  pub enough_names : length m.components ≤ length m.component_names
  pub components_apart : AreApart m.component_names
  pub components : All IsComponent m.components
  pub few_interactions : length m.interactions ≤ 128
  pub interactions_named : length m.interaction_names ≡ length m.interactions
  pub interactions_apart : AreApart m.interaction_names
  pub interactions : All (IsInteraction m.components) m.interactions
  pub priorities : All (IsPairOf (length m.interactions)) m.priorities
  pub in_order : AreInOrder m.priorities

-- what a model may declare: it has a component, each of its names for components has one, and no
-- interaction stands above itself
pub record IsSystem (m : System) : Type 0 where
  pub so_far : IsSystemSoFar m
  pub some : 0 < length m.components
  pub components_named : length m.component_names ≡ length m.components
  pub acyclic : ¬ IsCyclic m.priorities
