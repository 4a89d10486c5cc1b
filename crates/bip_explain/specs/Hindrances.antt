-- What keeps the grant of a line from being next in the state before the line, and how it is told.
use Rattle.std.specs.Prelude.{◌≡◌, ℕ, ◌+◌, ◌-◌, false, true, List, [], ◌∷◌, ◌++◌, codes, ⊤}
use Rattle.std.specs.Prelude.{IsSomeAnd, Option, None, Some, Ok, length, slice_get, take}
use Rattle.std.specs.Fmt.{decimal}
use Rattle.std.specs.List.{list_all}
use Rattle.bip_model.specs.Components.{transition_for}
use Rattle.bip_model.specs.Expressions.{holds, holds_in, value_of}
use Rattle.bip_model.specs.Parts.{Participant}
use Rattle.bip_model.specs.States.{State, state_of}
use Rattle.bip_model.specs.Priorities.{HasAbove}
use Rattle.bip_model.specs.Steps.{IsEnabled, IsLowestAbove, MayRun, after, guard_of, offered}
use Rattle.bip_model.specs.Steps.{participants_of, values_of}
use Rattle.bip_model.specs.Texts.{lines}
use Rattle.bip_model.specs.declared.expressions.Comparison.{Comparison}
use Rattle.bip_model.specs.declared.expressions.Relation.{Relation}
use Rattle.bip_model.specs.declared.expressions.Relation.TheVariants.{Less, LessOrEqual, Greater}
use Rattle.bip_model.specs.declared.expressions.Relation.TheVariants.{GreaterOrEqual, Equal}
use Rattle.bip_model.specs.declared.expressions.Relation.TheVariants.{NotEqual}
use Rattle.bip_model.specs.declared.expressions.Variable.{Variable}
use Rattle.bip_model.specs.declared.grants.Grant.{Grant}
use Rattle.bip_model.specs.declared.numbering.PortId.{PortId}
use Rattle.bip_model.specs.declared.parts.Component.{Component}
use Rattle.bip_model.specs.declared.parts.System.{System}
use Rattle.bip_model.specs.declared.states.LocalState.{LocalState}
use Rattle.bip_replay.specs.Lines.{grant_on}
use Rattle.bip_replay.specs.Replays.{IsFirstFault}
use Rattle.bip_replay.specs.Runs.{IsModelRun, state_after}
use Rattle.bip_replay.specs.Traces.{grants_from}
use Rattle.bip_replay.specs.declared.faults.BookFault.{BookFault}
use Rattle.bip_replay.specs.declared.faults.BookFault.TheVariants.{Below, NotEnabled}
use Rattle.bip_replay.specs.declared.faults.ReplayFault.TheVariants.{NotARun}
use Rattle.bip_explain.specs.Explanations.{Telling, Tells}
use Rattle.bip_explain.specs.Grants.{IsGrantOn, component_parts, name_parts}
use Rattle.bip_model.specs.Texts.{line_at}
use Rattle.bip_explain.specs.declared.hindrances.FailedComparison.{FailedComparison}
use Rattle.bip_explain.specs.declared.hindrances.Hindered.{Hindered}
use Rattle.bip_explain.specs.declared.hindrances.Hindrance.{Hindrance}
use Rattle.bip_explain.specs.declared.hindrances.Hindrance.TheVariants.{Port, Guard, Above}
use Rattle.bip_explain.specs.declared.hindrances.Unoffered.{Unoffered}
use Rattle.bip_explain.specs.declared.hindrances.Unoffered.TheVariants.{NoTransition, Guarded}

-- the state before a line: where the grants of the lines before it lead, which are a run
abbrev pub IsStateBefore : System → ℕ → List ℕ → ℕ → State → Type 0
IsStateBefore m base text number s =
    (gs : List Grant) → grants_from m 1 (take (number - 1) (lines text)) ≡ Ok gs
    → IsModelRun m base gs → s ≡ state_after m gs

-- a comparison doesn't hold of values, and its sums are what is told of it
pub record IsComparedSo (values : List (List ℕ)) (failed : FailedComparison)
    (c : Comparison Variable) : Type 0 where
  pub left : failed.left ≡ value_of values c.left
  pub relation : failed.relation ≡ c.relation
  pub right : failed.right ≡ value_of values c.right
  pub fails : holds_in values c ≡ false

-- a comparison is the first of a guard, by its number from 1, that doesn't hold of values
pub record IsFirstFailed (guard : List (Comparison Variable)) (values : List (List ℕ))
    (failed : FailedComparison) : Type 0 where
  pub front : List (Comparison Variable)
  pub comparison : Comparison Variable
  pub behind : List (Comparison Variable)
  pub split : guard ≡ front ++ comparison ∷ behind
  pub numbered : failed.number ≡ length front + 1
  pub before : holds front values ≡ true
  pub here : IsComparedSo values failed comparison

-- why a component doesn't offer a port in a local state: it has no such transition there, or that
-- one's guard doesn't hold
abbrev pub IsUnoffered : Component → LocalState → PortId → Unoffered → Type 0
IsUnoffered component local port NoTransition =
    transition_for component local.location port ≡ None
IsUnoffered component local port (Guarded failed) =
    IsSomeAnd (transition_for component local.location port)
    (λ t. IsFirstFailed t.guard (local.values ∷ []) failed)

-- the same of a component of a model in a state
abbrev pub IsUnofferedIn : System → State → Participant → Unoffered → Type 0
IsUnofferedIn m s q why =
    IsSomeAnd (slice_get m.components q.0.0)
    (λ component. IsSomeAnd (s q.0.0) (λ local. IsUnoffered component local q.1 why))

-- a participant is the first of these whose port isn't offered
pub record IsFirstUnoffered (m : System) (s : State) (qs : List Participant) (q : Participant)
    : Type 0 where
  pub front : List Participant
  pub behind : List Participant
  pub split : qs ≡ front ++ q ∷ behind
  pub before : list_all (offered m s) front ≡ true
  pub here : offered m s q ≡ false

-- it is, and this is why
abbrev pub IsPortReason : System → State → List Participant → Participant → Unoffered → Type 0
IsPortReason m s qs q why = IsFirstUnoffered m s qs q × IsUnofferedIn m s q why

-- a reason is true of an interaction in a state: the first port that isn't offered, or else the
-- first comparison of its guard that doesn't hold; or the lowest that is enabled above it
abbrev pub IsHindrance : System → State → ℕ → BookFault → Hindrance → Type 0
IsHindrance m s a NotEnabled (Port comp port why) =
    IsPortReason m s (participants_of m a) (comp, port) why
IsHindrance m s a NotEnabled (Guard failed) =
    (list_all (offered m s) (participants_of m a) ≡ true)
    × IsFirstFailed (guard_of m a) (values_of m s a) failed
IsHindrance m s a (Below other) (Above b) = IsLowestAbove m s a b.0
IsHindrance m s a fault reason = ⊥

-- this doesn't keep an interaction from running in a state
abbrev pub IsUnhindered : System → State → ℕ → BookFault → Type 0
IsUnhindered m s a NotEnabled = IsEnabled m s a
IsUnhindered m s a (Below other) = (b : ℕ) → HasAbove m.priorities a b → ¬ IsEnabled m s b
IsUnhindered m s a fault = ⊥

-- a fault is one of a state: the interaction isn't enabled there, or is below one that is
abbrev pub IsOfState : BookFault → Type 0
IsOfState NotEnabled = ⊤
IsOfState (Below b) = ⊤
IsOfState fault = ⊥

-- what is told is true of the text: it is a reason of the line's interaction in the state before
-- the line; nothing is stated where no memory is left to tell one
abbrev pub IsHindered : System → ℕ → List ℕ → ℕ → BookFault → Option Hindered → Type 0
IsHindered m base text number fault None = ⊤
IsHindered m base text number fault (Some h) =
    IsStateBefore m base text number (state_of h.state)
    × IsGrantOn m (line_at text number) h.inter.0
    × IsHindrance m (state_of h.state) h.inter.0 fault h.reason

-- where the line of a grant, or one that says nothing, leads from a state
abbrev pub IsLedBy : System → State → Option Grant → State → Type 0
IsLedBy m s None t = t ≡ s
IsLedBy m s (Some g) t = MayRun m s g.inter.0 → t ≡ after m s g.inter.0

abbrev pub IsLedOn : System → List ℕ → State → State → Type 0
IsLedOn m line s t = (o : Option Grant) → grant_on m line ≡ Ok o → IsLedBy m s o t

-- where nothing may be told: where the trace hasn't this fault
abbrev pub MayKeepStep : System → ℕ → List ℕ → ℕ → BookFault → Type 0
MayKeepStep m base text number fault = ¬ IsFirstFault m base text number (NotARun fault)

abbrev pub relation_text : Relation → List ℕ
relation_text Less = codes " < "
relation_text LessOrEqual = codes " <= "
relation_text Greater = codes " > "
relation_text GreaterOrEqual = codes " >= "
relation_text Equal = codes " = "
relation_text NotEqual = codes " != "

-- a comparison by its number, counted from 1, with its sums as they are
abbrev pub failed_parts : FailedComparison → List (List ℕ)
failed_parts failed =
    codes ": comparison " ∷ decimal failed.number ∷ codes " says " ∷ decimal failed.left
    ∷ relation_text failed.relation ∷ decimal failed.right ∷ []

-- variables with their values
abbrev pub value_parts : List ℕ → ℕ → List (List ℕ)
value_parts name value = codes ", " ∷ name ∷ codes " = " ∷ decimal value ∷ []

abbrev pub values_parts : List (List ℕ) → List ℕ → List (List ℕ)
values_parts (name ∷ names) (value ∷ values) = value_parts name value ++ values_parts names values
values_parts names values = []

-- where a component is, with its values
abbrev pub local_parts : Component → LocalState → List (List ℕ)
local_parts component local =
    codes " is in " ∷ name_parts component.locations local.location.0
    ++ values_parts component.variables local.values

abbrev pub known_parts : Option Component → Option LocalState → List (List ℕ)
known_parts None local = []
known_parts (Some component) None = []
known_parts (Some component) (Some local) = local_parts component local

-- a component with where it is in a state
abbrev pub place_parts : System → State → ℕ → List (List ℕ)
place_parts m s c = component_parts m c ++ known_parts (slice_get m.components c) (s c)

-- participants with where they are, behind a text
abbrev pub places_parts : System → State → List ℕ → List Participant → List (List ℕ)
places_parts m s front [] = []
places_parts m s front (q ∷ qs) =
    front ∷ place_parts m s q.0.0 ++ places_parts m s (codes "; ") qs

-- a port of a component, by its name
abbrev pub port_parts : Option Component → ℕ → List (List ℕ)
port_parts None port = []
port_parts (Some component) port = name_parts component.ports port

abbrev pub guarded_parts : System → ℕ → ℕ → FailedComparison → List (List ℕ)
guarded_parts m comp port failed =
    (codes ", where the guard of its transition by "
    ∷ port_parts (slice_get m.components comp) port)
    ++ codes " doesn't hold" ∷ failed_parts failed

abbrev pub unoffered_parts : System → ℕ → ℕ → Unoffered → List (List ℕ)
unoffered_parts m comp port NoTransition =
    codes ", where it has no transition by " ∷ port_parts (slice_get m.components comp) port
unoffered_parts m comp port (Guarded failed) = guarded_parts m comp port failed

abbrev pub guard_parts : System → State → ℕ → FailedComparison → List (List ℕ)
guard_parts m s a failed =
    (codes "each port is offered, and the guard doesn't hold" ∷ failed_parts failed)
    ++ places_parts m s (codes "; ") (participants_of m a)

abbrev pub above_parts : System → State → ℕ → List (List ℕ)
above_parts m s b =
    name_parts m.interaction_names b
    ++ codes " stands above it, and is enabled"
    ∷ places_parts m s (codes ": ") (participants_of m b)

-- how a reason is told
abbrev pub hindrance_parts : System → State → ℕ → Hindrance → List (List ℕ)
hindrance_parts m s a (Port comp port why) =
    place_parts m s comp.0 ++ unoffered_parts m comp.0 port.0 why
hindrance_parts m s a (Guard failed) = guard_parts m s a failed
hindrance_parts m s a (Above b) = above_parts m s b.0

abbrev pub hindered_parts : System → Option Hindered → List (List ℕ)
hindered_parts m None = codes "no memory is left to say more" ∷ []
hindered_parts m (Some h) = hindrance_parts m (state_of h.state) h.inter.0 h.reason

-- what is told of a grant that isn't enabled, or is below another
abbrev pub TellsHindrance :
    System → ℕ → List ℕ → ℕ → BookFault → Telling → Telling → Type 0
TellsHindrance m base text number fault old new =
    Tells (MayKeepStep m base text number fault) (IsHindered m base text number fault)
    (hindered_parts m) old new
