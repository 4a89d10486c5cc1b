-- What the definitions mean, in the subject's own words: laws that a reviewer reads.
use Rattle.std.specs.Prelude.{◌≤◌, ◌+◌, ◌%◌, ◌^◌, Any, Ok, map, sum_by}
use Rattle.std.specs.List.Sorted.{IsPermutation, IsStrictlyIncreasing}
use Rattle.std.specs.Prelude.{◌≡◌, ◌↔◌, ℕ, ◌<◌, false, true, [], ◌∷◌, ◌++◌, List, length, Some}
use Rattle.std.specs.Prelude.{slice_get, All, Contains, ◌⊎◌, IfSome, IsTrue}
use Rattle.std.specs.Option.{option_map}
use Rattle.bip_model.specs.Drafts.{participant_named, participants_named}
use Rattle.bip_model.specs.Expressions.{AreAssignmentsIn, AreTargetsApart, IsAssignmentIn, counts}
use Rattle.bip_model.specs.Expressions.{is_same}
use Rattle.bip_model.specs.Expressions.{holds, term_value, transferred, updated, value_in}
use Rattle.bip_model.specs.Expressions.{value_of}
use Rattle.bip_model.specs.Grants.{IsHistory, used_by}
use Rattle.bip_model.specs.Wants.{components_of, is_moved, moved_in}
use Rattle.bip_model.specs.Naming.{AreApart}
use Rattle.bip_model.specs.Partitions.{IsPartition, numbers_in, times_in}
use Rattle.bip_model.specs.Parts.{Participant, components_in}
use Rattle.bip_model.specs.Priorities.{HasAbove, put_pair}
use Rattle.bip_model.specs.Scopes.{shared}
use Rattle.bip_model.specs.Parties.{AreParties, AreWantsBy, CoverAbove, HasWantOf, SeeAll}
use Rattle.bip_model.specs.declared.messages.Offer.{Offer}
use Rattle.bip_model.specs.States.{IsStateOf, State, with_values}
use Rattle.bip_model.specs.Steps.{IsEnabled, IsLookedAt, IsRun, MayRun, after, end_of, guard_of}
use Rattle.bip_model.specs.Steps.{led, moves, offered, participants_of, start_of, told, values_of}
use Rattle.bip_model.specs.declared.drafts.Draft.{Draft}
use Rattle.bip_model.specs.declared.expressions.Assignment.{Assignment}
use Rattle.bip_model.specs.declared.expressions.Expr.{Expr}
use Rattle.bip_model.specs.declared.expressions.Sign.{Sign}
use Rattle.bip_model.specs.declared.expressions.Sign.TheVariants.{Plus, Minus}
use Rattle.bip_model.specs.declared.expressions.Term.{Term}
use Rattle.bip_model.specs.declared.expressions.Variable.{Variable}
use Rattle.bip_model.specs.declared.grants.Grant.{Grant}
use Rattle.bip_model.specs.declared.wants.Role.TheVariants.{Moved}
use Rattle.bip_model.specs.declared.reasons.Why.{Why}
use Rattle.bip_model.specs.declared.wants.Want.{Want}
use Rattle.bip_model.specs.declared.numbering.InterId.{InterId}
use Rattle.bip_model.specs.declared.parts.Component.{Component}
use Rattle.bip_model.specs.declared.parts.Pair.{Pair}
use Rattle.bip_model.specs.declared.parts.System.{System}
use Rattle.bip_model.specs.declared.parts.Transition.{Transition}
use Rattle.bip_model.specs.declared.scopes.VariableName.{VariableName}
use Rattle.bip_model.specs.declared.states.LocalState.{LocalState}

-- what a term with a sign adds to a sum, and what it takes away
abbrev pub added : List (List ℕ) → Sign × Term Variable → ℕ
added values (Plus, t) = term_value values t
added values (Minus, t) = 0

abbrev pub taken_away : List (List ℕ) → Sign × Term Variable → ℕ
taken_away values (Plus, t) = 0
taken_away values (Minus, t) = term_value values t

-- a sum and all that it takes away are all that it adds: it is the sum of the integers, modulo
-- 2^32; and it is below 2^32, where its first term is
abbrev pub SumsAreIntegers : Type 0
SumsAreIntegers =
    (values : List (List ℕ)) (e : Expr Variable)
    → ((value_of values e + sum_by (taken_away values) e.rest) % 2 ^ 32
    ≡ (term_value values e.first + sum_by (added values) e.rest) % 2 ^ 32)
    × (term_value values e.first < 2 ^ 32 → value_of values e < 2 ^ 32)

-- assignments that were done at once: each variable has its assignment's sum of the values before,
-- or what it had
pub record AreDoneAtOnce (assignments : List (Assignment Variable)) (before later : List (List ℕ))
    : Type 0 where
  pub counts : counts later ≡ counts before
  pub given : (a : Assignment Variable) → Contains assignments a
      → value_in later a.target ≡ value_of before a.sum
  pub kept : (v : Variable)
      → All (λ (a : Assignment Variable). is_same v a.target ≡ false) assignments
      → value_in later v ≡ value_in before v

-- what a transfer may be, over values: its variables are there, and no two have one target
abbrev pub IsTransferIn : List (List ℕ) → List (Assignment Variable) → Type 0
IsTransferIn values assignments =
    AreAssignmentsIn (counts values) assignments × AreTargetsApart assignments

-- a transfer is done at once
abbrev pub TransfersAtOnce : Type 0
TransfersAtOnce =
    (assignments : List (Assignment Variable)) (values : List (List ℕ))
    → IsTransferIn values assignments
    → AreDoneAtOnce assignments values (transferred assignments values)

-- the order of a transfer's assignments doesn't count
abbrev pub TransfersInAnyOrder : Type 0
TransfersInAnyOrder =
    (xs ys : List (Assignment Variable)) (values : List (List ℕ)) → IsTransferIn values xs
    → IsTransferIn values ys → ((a : Assignment Variable) → Contains xs a ↔ Contains ys a)
    → (v : Variable) → value_in (transferred xs values) v ≡ value_in (transferred ys values) v

-- an update is done in written order: what comes later reads what is there then
abbrev pub UpdatesInOrder : Type 0
UpdatesInOrder =
    (xs ys : List (Assignment Variable)) (values : List ℕ)
    → updated (xs ++ ys) values ≡ updated ys (updated xs values)

-- one assignment of an update sets its target to its sum of the values before, as a transfer does
abbrev pub UpdatesOneByOne : Type 0
UpdatesOneByOne =
    (a : Assignment Variable) (values : List ℕ) → IsAssignmentIn (counts (values ∷ [])) a
    → updated (a ∷ []) values ∷ [] ≡ transferred (a ∷ []) (values ∷ [])

-- a component that takes no part stays where it is
abbrev pub OthersStay : System → Type 0
OthersStay m = (s : State) (a c : ℕ) → moves m a c ≡ false → after m s a c ≡ s c

-- a transition of a component with the port of a participant, from where the participant is
pub record IsItsTransition (m : System) (s : State) (q : Participant) (local : LocalState)
    (t : Transition) : Type 0 where
  pub component : Component
  pub declared : slice_get m.components q.0.0 ≡ Some component
  pub declares : Contains component.transitions t
  pub port : t.port.0 ≡ q.1.0
  pub at : s q.0.0 ≡ Some local
  pub source : t.source.0 ≡ local.location.0

-- a participant has a local state, and a transition with its port from there, whose guard holds
abbrev pub CanGo : System → State → Participant → Type 0
CanGo m s q =
    (local : LocalState) × (t : Transition) × IsItsTransition m s q local t
    × IsTrue (holds t.guard (local.values ∷ []))

-- where a participant's port is offered it can go, and in a state of the model it is offered where
-- it can
abbrev pub OffersWhereItCanGo : System → Type 0
OffersWhereItCanGo m =
    (s : State) (q : Participant)
    → (offered m s q ≡ true → CanGo m s q) × (IsStateOf m s → CanGo m s q → offered m s q ≡ true)

-- the model has an interaction, each of its participants can go, and its own guard holds
pub record CanAllGo (m : System) (s : State) (a : ℕ) : Type 0 where
  pub declared : a < length m.interactions
  pub each : All (CanGo m s) (participants_of m a)
  pub guard : IsTrue (holds (guard_of m a) (values_of m s a))

-- where an interaction is enabled all can go, and in a state of the model it is enabled where they
-- can
abbrev pub EnabledWhereAllCanGo : System → Type 0
EnabledWhereAllCanGo m =
    (s : State) (a : ℕ)
    → (IsEnabled m s a → CanAllGo m s a) × (IsStateOf m s → CanAllGo m s a → IsEnabled m s a)

-- each participant ends where its transition leads, with the values that it is told, after the
-- update
abbrev pub ParticipantsGo : System → Type 0
ParticipantsGo m =
    (s : State) (a i : ℕ) (q : Participant) (local : LocalState) (t : Transition)
    → slice_get (participants_of m a) i ≡ Some q → IsItsTransition m s q local t
    → after m s a q.0.0
    ≡ Some (record { location = t.target; values = updated t.update (told m s a i) })

-- each participant ends where its port leads it with the values that it is told
abbrev pub ParticipantsAreLed : System → Type 0
ParticipantsAreLed m =
    (s : State) (a i : ℕ) (q : Participant) → slice_get (participants_of m a) i ≡ Some q
    → after m s a q.0.0
    ≡ option_map (λ local. led m q.0.0 q.1 (with_values (told m s a i) local)) (s q.0.0)

-- a participant has at most one transition from where it is
abbrev pub OneTransition : System → Type 0
OneTransition m =
    (s : State) (q : Participant) (local other : LocalState) (t u : Transition)
    → IsItsTransition m s q local t → IsItsTransition m s q other u → t ≡ u

-- the first state is one of the model
abbrev pub StartsInAState : System → Type 0
StartsInAState m = IsStateOf m (start_of m)

-- a joint step leads from states of the model to states of the model
abbrev pub StatesLeadToStates : System → Type 0
StatesLeadToStates m = (s : State) (a : ℕ) → IsStateOf m s → IsStateOf m (after m s a)

-- two states agree on all that an interaction moves
abbrev pub AgreeOn : System → ℕ → State → State → Type 0
AgreeOn m a s t = (c : ℕ) → moves m a c ≡ true → s c ≡ t c

-- whether an interaction is enabled, and where its participants end, depends on them alone
abbrev pub IsLocal : System → Type 0
IsLocal m =
    (s t : State) (a : ℕ) → AgreeOn m a s t
    → (IsEnabled m s a ↔ IsEnabled m t a) × AgreeOn m a (after m s a) (after m t a)

-- the interactions move no common component
abbrev pub MoveApart : System → ℕ → ℕ → Type 0
MoveApart m a b = (c : ℕ) → moves m a c ≡ true → moves m b c ≡ false

-- of two interactions that move no common component neither enables or disables the other, and both
-- orders lead to one state
abbrev pub Commute : System → Type 0
Commute m =
    (s : State) (a b : ℕ) → MoveApart m a b
    → (IsEnabled m (after m s a) b ↔ IsEnabled m s b)
    × (after m (after m s a) b ≡ after m (after m s b) a)

-- runs from the back: one more interaction goes on where those before it lead
abbrev pub EndsAfterItsLast : System → Type 0
EndsAfterItsLast m =
    (s : State) (before : List ℕ) (a : ℕ)
    → end_of m s (before ++ a ∷ []) ≡ after m (end_of m s before) a

abbrev pub GoesOnByWhatMayRun : System → Type 0
GoesOnByWhatMayRun m =
    (s : State) (before : List ℕ) (a : ℕ)
    → IsRun m s (before ++ a ∷ []) ↔ (IsRun m s before × MayRun m (end_of m s before) a)

-- what stands above stands above what is below
abbrev pub AboveGoesOn : Type 0
AboveGoesOn =
    (pairs : List Pair) (a b c : ℕ) → HasAbove pairs a b → HasAbove pairs b c → HasAbove pairs a c

-- where an interaction is enabled it may run, or one above it may: priorities alone never stop a
-- model
abbrev pub SomethingMayRun : System → Type 0
SomethingMayRun m =
    (s : State) (a : ℕ) → IsEnabled m s a
    → (b : ℕ) × ((a ≡ b) ⊎ HasAbove m.priorities a b) × MayRun m s b

-- two states agree on all that an interaction moves or looks at
abbrev pub AgreeOnTouched : System → ℕ → State → State → Type 0
AgreeOnTouched m a s t = (c : ℕ) → (moves m a c ≡ true) ⊎ IsLookedAt m a c → s c ≡ t c

-- whether an interaction may run depends on them alone
abbrev pub MayRunIsLocal : System → Type 0
MayRunIsLocal m =
    (s t : State) (a : ℕ) → AgreeOnTouched m a s t → (MayRun m s a ↔ MayRun m t a)

-- a list with more behind it
abbrev pub Begins : {X : Type 0} → List X → List X → Type 0
Begins {X} old new = (more : List X) × (new ≡ old ++ more)

-- a component that has all that it had
pub record KeepsComponent (old new : Component) : Type 0 where
  pub variables : Begins old.variables new.variables
  pub start : Begins old.start new.start
  pub locations : Begins old.locations new.locations
  pub ports : Begins old.ports new.ports
  pub transitions : Begins old.transitions new.transitions

-- a component that was begun is begun still, or it is ended, and stands behind those ended before
abbrev pub GoesOn : Draft → Component → Draft → Type 0
GoesOn old c new =
    (now : Component) × KeepsComponent c now
    × ((new.begun ≡ Some now) ⊎ (new.system.components ≡ old.system.components ++ now ∷ []))

-- a draft that has all that it had
pub record KeepsDraft (old new : Draft) : Type 0 where
  pub component_names : Begins old.system.component_names new.system.component_names
  pub components : Begins old.system.components new.system.components
  pub interaction_names : Begins old.system.interaction_names new.system.interaction_names
  pub interactions : Begins old.system.interactions new.system.interactions
  pub priorities : (p : Pair) → Contains old.system.priorities p
      → Contains new.system.priorities p
  pub begun : IfSome old.begun (λ c. GoesOn old c new)

-- a pair put among others joins them, and no other does
abbrev pub PutsOnePair : Type 0
PutsOnePair =
    (p r : Pair) (pairs : List Pair) → Contains (put_pair p pairs) r ↔ (r ≡ p) ⊎ Contains pairs r

-- a variable of an interaction by its owner's name and its own: the owner is the place of a
-- participant, whose component has that name, and whose variable of that number has the own name
pub record IsOfParticipant (m : System) (participants : List Participant) (name : VariableName)
    (v : Variable) : Type 0 where
  pub participant : Participant
  pub component : Component
  pub place : slice_get participants v.owner ≡ Some participant
  pub declared : slice_get m.components participant.0.0 ≡ Some component
  pub owner : name.owner ≡ slice_get m.component_names participant.0.0
  pub own : slice_get component.variables v.number.0 ≡ Some name.name

-- a name that is found in an interaction is a variable of a participant
abbrev pub FindsOfParticipants : Type 0
FindsOfParticipants =
    (m : System) (participants : List Participant) (name : VariableName) (v : Variable)
    → shared m participants name ≡ Some v → IsOfParticipant m participants name v

-- a want of a component with a number moves it
abbrev pub MovesBy : List Want → ℕ → ℕ → Type 0
MovesBy wants c n =
    Any (λ (w : Want). (w.comp.0 ≡ c) × (w.role ≡ Moved) × (w.number ≡ n)) wants

-- wants by component, each once, with numbers from 1 on
pub record AreByComponent (wants : List Want) : Type 0 where
  pub rising : IsStrictlyIncreasing (components_of wants)
  pub numbered : All (λ (w : Want). 1 ≤ w.number) wants

-- wants move a component with a number exactly where one of them says so
abbrev pub MovedIsWanted : Type 0
MovedIsWanted =
    (wants : List Want) (c n : ℕ) → AreByComponent wants → 0 < n
    → (moved_in wants c ≡ n) ↔ MovesBy wants c n

-- wants of just the parties of an interaction move just what it moves
abbrev pub PartiesMove : Type 0
PartiesMove =
    (m : System) (a : ℕ) (wants : List Want) → AreByComponent wants → AreParties m a wants
    → (c : ℕ) → IsTrue (moves m a c) ↔ (0 < moved_in wants c)

-- a want of an interaction's parties is of what that one moves or looks at, and has that role
pub record HasItsRole (m : System) (a : ℕ) (w : Want) : Type 0 where
  pub party : (moves m a w.comp.0 ≡ true) ⊎ IsLookedAt m a w.comp.0
  pub role : is_moved w.role ≡ moves m a w.comp.0

abbrev pub PartiesHaveRoles : Type 0
PartiesHaveRoles =
    (m : System) (a : ℕ) (wants : List Want) → AreParties m a wants → (w : Want)
    → Contains wants w → HasItsRole m a w

-- where they see all that it looks at, all that it moves or looks at is wanted
abbrev pub PartiesAreWanted : Type 0
PartiesAreWanted =
    (m : System) (a : ℕ) (wants : List Want) → AreParties m a wants → SeeAll m a wants → (c : ℕ)
    → (moves m a c ≡ true) ⊎ IsLookedAt m a c → HasWantOf wants c

-- and they cover all that is above it, in whatever state
abbrev pub AllPartiesCover : Type 0
AllPartiesCover =
    (m : System) (a : ℕ) (wants : List Want) → AreParties m a wants → SeeAll m a wants
    → (s : State) → CoverAbove m s a wants

-- by offers and reasons an interaction has one list of wants, at most
abbrev pub OneWantsEach : Type 0
OneWantsEach =
    (m : System) (o : ℕ → Offer) (a : ℕ) (reasons : List Why) (xs ys : List Want)
    → AreWantsBy m o a reasons xs → AreWantsBy m o a reasons ys → xs ≡ ys

-- used numbers and histories of grants in two parts: the second goes on where the first ends
abbrev pub UsedGoesOn : Type 0
UsedGoesOn =
    (floor : ℕ → ℕ) (gs hs : List Grant) → used_by floor (gs ++ hs) ≡ used_by (used_by floor gs) hs

abbrev pub HistoryGoesOn : Type 0
HistoryGoesOn =
    (floor : ℕ → ℕ) (gs hs : List Grant)
    → IsHistory floor (gs ++ hs) ↔ (IsHistory floor gs × IsHistory (used_by floor gs) hs)

-- how often an interaction stands in classes
abbrev pub times_parted : {C : Type 0} → (C → List InterId) → List C → ℕ → ℕ
times_parted members classes a = sum_by (λ c. times_in (members c) a) classes

-- an interaction stands in no class, or in two, or twice in one
pub record IsMisplaced {C : Type 0} (members : C → List InterId) (count : ℕ) (classes : List C)
    (a : ℕ) : Type 0 where
  pub known : a < count
  pub times : (times_parted members classes a ≡ 0) ⊎ (1 < times_parted members classes a)

-- a few named classes of known interactions are a partition, or an interaction is misplaced
abbrev pub PartsOrMisplaces : Type 0
PartsOrMisplaces =
    (count : ℕ) (classes : List (List ℕ × List InterId)) → length classes ≤ 32
    → AreApart (map (λ c. c.0) classes) → All (λ c. 0 < length c.1) classes
    → All (λ c. All (λ (a : InterId). a.0 < count) c.1) classes
    → IsPartition (λ c. c.0) (λ c. c.1) count classes
    ⊎ ((a : ℕ) × IsMisplaced (λ c. c.1) count classes a)

-- in order, a class has the same interactions, and they rise
pub record IsInOrder (class ordered : List InterId) : Type 0 where
  pub these : IsPermutation class ordered
  pub rising : IsStrictlyIncreasing (numbers_in ordered)

-- the participants that words name, one each, by component
pub record AreNamed (m : System) (words : List (List ℕ × List ℕ)) (qs : List Participant)
    : Type 0 where
  pub named : List Participant
  pub one_each : map (participant_named m) words ≡ map Ok named
  pub these : IsPermutation named qs
  pub rising : IsStrictlyIncreasing (components_in qs)

-- words are participants exactly where they name them
abbrev pub NamesParticipants : Type 0
NamesParticipants =
    (m : System) (words : List (List ℕ × List ℕ)) (qs : List Participant)
    → (participants_named m [] words ≡ Ok qs) ↔ AreNamed m words qs

-- the order of the words doesn't count
abbrev pub NamesInAnyOrder : Type 0
NamesInAnyOrder =
    (m : System) (words others : List (List ℕ × List ℕ)) (qs : List Participant)
    → IsPermutation words others
    → participants_named m [] words ≡ Ok qs → participants_named m [] others ≡ Ok qs
