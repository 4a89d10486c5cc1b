-- What is enabled in a state, what may run there, and what the joint step of an interaction does.
use Rattle.std.specs.Prelude.{ℕ, ◌<◌, Bool, false, ◌==◌, List, [], ◌∷◌, length, Option, position}
use Rattle.std.specs.Prelude.{map, slice_get, slice_index_or, unwrap_or, All, IsTrue, ⊤}
use Rattle.std.specs.Prelude.{if◌then◌else◌}
use Rattle.std.specs.List.{list_any, range_with_len}
use Rattle.std.specs.List.Sorted.{IsStrictlyIncreasing}
use Rattle.std.specs.Prelude.{◌≡◌, ◌↔◌, ◌&&◌, not, filter, true, Contains}
use Rattle.bip_model.specs.declared.numbering.CompId.{CompId}
use Rattle.bip_model.specs.declared.numbering.InterId.{InterId}
use Rattle.std.specs.Option.{option_map, option_map_or, option_and_then}
use Rattle.bip_model.specs.declared.expressions.Assignment.{Assignment}
use Rattle.bip_model.specs.declared.expressions.Comparison.{Comparison}
use Rattle.bip_model.specs.declared.expressions.Variable.{Variable}
use Rattle.bip_model.specs.declared.faults.NotNow.{NotNow}
use Rattle.bip_model.specs.declared.faults.NotNow.TheVariants.{NotEnabled, Below}
use Rattle.bip_model.specs.declared.numbering.PortId.{PortId}
use Rattle.bip_model.specs.declared.parts.System.{System}
use Rattle.bip_model.specs.declared.parts.Transition.{Transition}
use Rattle.bip_model.specs.declared.states.LocalState.{LocalState}
use Rattle.bip_model.specs.Components.{offers_at, moved, transition_for}
use Rattle.bip_model.specs.Expressions.{holds, transferred}
use Rattle.bip_model.specs.Parts.{IsSystem, Participant}
use Rattle.bip_model.specs.Places.{ArePlacesOfEach}
use Rattle.bip_model.specs.Priorities.{AreListsAbove, HasAbove}
use Rattle.bip_model.specs.States.{State, with_values}

-- the state in which each component is in its first location, with the values of its start
abbrev pub start_of : System → State
start_of m c =
    option_map (λ component. record { location = record { 0 = 0 }; values = component.start })
    (slice_get m.components c)

-- whether a component offers a port in a state
abbrev pub offered : System → State → Participant → Bool
offered m s q =
    option_map_or
    (λ component. option_map_or (λ local. offers_at component local q.1) (s q.0.0) false)
    (slice_get m.components q.0.0) false

-- the participants, the guard and the transfer of an interaction, none where the model lacks it
abbrev pub participants_of : System → ℕ → List Participant
participants_of m a = option_map_or (λ i. i.participants) (slice_get m.interactions a) []

abbrev pub guard_of : System → ℕ → List (Comparison Variable)
guard_of m a = option_map_or (λ i. i.guard) (slice_get m.interactions a) []

abbrev pub transfer_of : System → ℕ → List (Assignment Variable)
transfer_of m a = option_map_or (λ i. i.transfer) (slice_get m.interactions a) []

-- the values of a component in a state, none where it has no local state
abbrev pub values_at : State → Participant → List ℕ
values_at s q = option_map_or (λ local. local.values) (s q.0.0) []

-- the values of the participants of an interaction, which its guard and its transfer read
abbrev pub values_of : System → State → ℕ → List (List ℕ)
values_of m s a = map (values_at s) (participants_of m a)

-- an interaction is enabled: the model has it, each participant's port is offered, and its guard
-- holds
pub record IsEnabled (m : System) (s : State) (a : ℕ) : Type 0 where
  pub declared : a < length m.interactions
  pub offered_all : All (λ q. IsTrue (offered m s q)) (participants_of m a)
  pub guard : IsTrue (holds (guard_of m a) (values_of m s a))

-- an interaction may run: it is enabled, and nothing above it is
pub record MayRun (m : System) (s : State) (a : ℕ) : Type 0 where
  pub enabled : IsEnabled m s a
  pub clear : (b : ℕ) → HasAbove m.priorities a b → ¬ IsEnabled m s b

-- the lowest-numbered of the interactions above one that are enabled
pub record IsLowestAbove (m : System) (s : State) (a b : ℕ) : Type 0 where
  pub above : HasAbove m.priorities a b
  pub enabled : IsEnabled m s b
  pub lower : (c : ℕ) → c < b → HasAbove m.priorities a c → ¬ IsEnabled m s c

-- why an interaction may not run, the first that applies: it isn't enabled, or one above it is
abbrev pub IsHeldBack : System → State → ℕ → NotNow → Type 0
IsHeldBack m s a NotEnabled = ¬ IsEnabled m s a
IsHeldBack m s a (Below b) = IsEnabled m s a × IsLowestAbove m s a b.0

-- whether an interaction moves a component
abbrev pub moves : System → ℕ → ℕ → Bool
moves m a c = list_any (λ (q : Participant). q.0.0 == c) (participants_of m a)

-- an interaction looks at a component: it doesn't move it, and one above it does
pub record IsLookedAt (m : System) (a c : ℕ) : Type 0 where
  pub other : moves m a c ≡ false
  pub higher : ℕ
  pub above : HasAbove m.priorities a higher
  pub moved : moves m higher c ≡ true

-- the list of the components that an interaction looks at, in order of their numbers
pub record IsListLookedAt (m : System) (a : ℕ) (list : List CompId) : Type 0 where
  pub rising : IsStrictlyIncreasing (map (λ (c : CompId). c.0) list)
  pub exact : (c : ℕ) → Contains list (record { 0 = c }) ↔ IsLookedAt m a c

-- whether an interaction, with those above it in a list, looks at a component
abbrev pub looks_at : System → ℕ → List InterId → ℕ → Bool
looks_at m a above c = not (moves m a c) && list_any (λ (b : InterId). moves m b.0 c) above

-- of so many components those that it looks at, in order of their numbers
abbrev pub comps_looked_at : System → ℕ → List InterId → ℕ → List CompId
comps_looked_at m a above count =
    filter (λ (c : CompId). looks_at m a above c.0)
    (map (λ c. record { 0 = c }) (range_with_len 0 count))

-- such a list for each interaction in turn
pub record AreListsLookedAt (m : System) (count : ℕ) (lists : List (List CompId)) : Type 0 where
  pub each : length lists ≡ count
  pub list : (a : ℕ) → a < count → IsListLookedAt m a (slice_index_or lists a [])

-- a valid model with its tables: for each interaction those above it, and what it looks at; for
-- each component where its transitions stand
pub record AreTables (m : System) (above : List (List InterId)) (looks : List (List CompId))
    (places : List (List ℕ)) : Type 0 where
  pub valid : IsSystem m
  pub lists_above : AreListsAbove m.priorities (length m.interactions) above
  pub lists_looked_at : AreListsLookedAt m (length m.interactions) looks
  pub lists_of_places : ArePlacesOfEach m.components places

-- the place of a component among the participants of an interaction
abbrev pub place_of : System → ℕ → ℕ → Option ℕ
place_of m a c = position (λ (q : Participant). q.0.0 == c) (participants_of m a)

-- the port of the participant at a place
abbrev pub port_at : System → ℕ → ℕ → PortId
port_at m a i =
    option_map_or (λ (q : Participant). q.1) (slice_get (participants_of m a) i) (record { 0 = 0 })

-- what the participant at a place is told: its values after the transfer
abbrev pub told : System → State → ℕ → ℕ → List ℕ
told m s a i = slice_index_or (transferred (transfer_of m a) (values_of m s a)) i []

-- the transition of a component with a port from where it is in a state
abbrev pub transition_of : System → State → Participant → Option Transition
transition_of m s q =
    option_and_then
    (λ component. option_and_then (λ local. transition_for component local.location q.1) (s q.0.0))
    (slice_get m.components q.0.0)

-- where a component goes by a port; it stays where it has no such transition
abbrev pub led : System → ℕ → PortId → LocalState → LocalState
led m c port local =
    unwrap_or
    (option_and_then (λ component. moved component local port) (slice_get m.components c)) local

-- the state after the joint step of an interaction: each participant goes by its port with the
-- values that the transfer tells it, and does its update; all others stay
abbrev pub after : System → State → ℕ → State
after m s a c =
    option_map_or
    (λ i. option_map (λ local. led m c (port_at m a i) (with_values (told m s a i) local)) (s c))
    (place_of m a c) (s c)

-- the state after participants are told values
abbrev pub told_all : State → List Participant → List (List ℕ) → State
told_all s [] values c = s c
told_all s (q ∷ qs) [] c = s c
told_all s (q ∷ qs) (own ∷ values) c =
    if c == q.0.0 then option_map (with_values own) (told_all s qs values c)
    else told_all s qs values c

-- the state after participants went, one after another
abbrev pub led_all : System → State → List Participant → State
led_all m s [] c = s c
led_all m s (q ∷ qs) c =
    if c == q.0.0 then option_map (led m q.0.0 q.1) (s q.0.0) else led_all m s qs c

-- interactions, each of which may run where those before it lead
abbrev pub IsRun : System → State → List ℕ → Type 0
IsRun m s [] = ⊤
IsRun m s (a ∷ rest) = MayRun m s a × IsRun m (after m s a) rest

-- the state to which interactions lead
abbrev pub end_of : System → State → List ℕ → State
end_of m s [] = s
end_of m s (a ∷ rest) = end_of m (after m s a) rest
