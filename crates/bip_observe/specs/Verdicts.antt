-- The decision of a class on an interaction, by the offers that it holds.
use Rattle.std.specs.Prelude.{◌≡◌, ◌⊎◌, ℕ, ◌<◌, ◌&&◌, ◌||◌, not, Bool, false, true, List, []}
use Rattle.std.specs.Prelude.{length, map, find, nat_lt, unwrap_or, All, Any, IsTrue, Option}
use Rattle.std.specs.Prelude.{None, Some}
use Rattle.std.specs.List.{list_all, list_any}
use Rattle.std.specs.List.Sorted.{IsStrictlyIncreasing}
use Rattle.std.specs.Option.{option_map, option_map_or}
use Rattle.bip_model.specs.Expressions.{holds}
use Rattle.bip_model.specs.Numbering.{IsLowest}
use Rattle.bip_model.specs.Parts.{Participant}
use Rattle.bip_model.specs.Priorities.{HasAbove}
use Rattle.bip_model.specs.Reasons.{AreForEach, inters_of}
use Rattle.bip_model.specs.Sets.{has}
use Rattle.bip_model.specs.Steps.{guard_of, moves, participants_of}
use Rattle.bip_model.specs.declared.messages.Offer.{Offer}
use Rattle.bip_model.specs.declared.numbering.CompId.{CompId}
use Rattle.bip_model.specs.declared.numbering.InterId.{InterId}
use Rattle.bip_model.specs.declared.parts.System.{System}
use Rattle.bip_model.specs.declared.reasons.Cause.{Cause}
use Rattle.bip_model.specs.declared.reasons.Cause.TheVariants.{Port, Guard}
use Rattle.bip_model.specs.declared.reasons.Why.{Why}
use Rattle.bip_observe.specs.Offers.{Observed}
use Rattle.bip_observe.specs.declared.verdicts.Verdict.{Verdict}
use Rattle.bip_observe.specs.declared.verdicts.Verdict.TheVariants.{Ready, NotReady, PortOff}
use Rattle.bip_observe.specs.declared.verdicts.Verdict.TheVariants.{GuardFalse, Below}

-- whether a participant's port is on in the offer of its component
abbrev pub port_on : (ℕ → Offer) → Participant → Bool
port_on o q = has (o q.0.0).ports q.1.0

-- all ports of an interaction are on
abbrev pub ArePortsOn : System → (ℕ → Offer) → ℕ → Type 0
ArePortsOn m o a = All (λ q. IsTrue (port_on o q)) (participants_of m a)

-- whether the guard of an interaction holds of the values that its participants offer
abbrev pub guard_holds : System → (ℕ → Offer) → ℕ → Bool
guard_holds m o a =
    holds (guard_of m a) (map (λ (q : Participant). (o q.0.0).values) (participants_of m a))

-- offers, by component, enable an interaction: all its ports are on, and its guard holds
pub record Enable (m : System) (o : ℕ → Offer) (a : ℕ) : Type 0 where
  pub ports : ArePortsOn m o a
  pub guard : IsTrue (guard_holds m o a)

-- offers of some components exclude an interaction: they have one of a participant, and its port is
-- off; or they have those of all participants, and the guard is false
abbrev pub Exclude : System → (ℕ → Offer) → (ℕ → Type 0) → ℕ → Type 0
Exclude m o of b =
    Any (λ (q : Participant). of q.0.0 × (port_on o q ≡ false)) (participants_of m b)
    ⊎ (All (λ (q : Participant). of q.0.0) (participants_of m b) × (guard_holds m o b ≡ false))

-- by offers of some components an interaction is ready: the model has it, there is an offer of each
-- component that it moves, each offer is its component's own, they enable the interaction, and
-- exclude each one above it
pub record IsReady (m : System) (o : ℕ → Offer) (of : ℕ → Type 0) (a : ℕ) : Type 0 where
  pub declared : a < length m.interactions
  pub moved : (c : ℕ) → moves m a c ≡ true → of c
  pub own : (c : ℕ) → of c → (o c).comp.0 ≡ c
  pub enabled : Enable m o a
  pub clear : (b : ℕ) → HasAbove m.priorities a b → Exclude m o of b

-- whether a class holds an offer of a component that counts: its number is above the known used one
abbrev pub is_counted : Observed → ℕ → Bool
is_counted v c = option_map_or (λ (offer : Offer). nat_lt (v.known c) offer.number) (v.held c) false

-- an offer that says nothing, for components of which none is held
abbrev pub no_offer : Offer
no_offer = record { comp = record { 0 = 0 }; number = 0; ports = 0; values = [] }

-- the offers that a class holds, by component
abbrev pub offers_of : Observed → ℕ → Offer
offers_of v c = unwrap_or (v.held c) no_offer

-- an offer of a component counts
abbrev pub OfferCounts : Observed → ℕ → Type 0
OfferCounts v c = IsTrue (is_counted v c)

-- a component that an interaction moves, of which no offer counts
abbrev pub IsMissing : Observed → ℕ → ℕ → Type 0
IsMissing v a c = (moves v.plan.model a c ≡ true) × (is_counted v c ≡ false)

-- an offer of each component that an interaction moves counts
abbrev pub AllCount : Observed → ℕ → Type 0
AllCount v a = (c : ℕ) → moves v.plan.model a c ≡ true → OfferCounts v c

-- a component whose port for an interaction is off
abbrev pub IsOff : System → (ℕ → Offer) → ℕ → ℕ → Type 0
IsOff m o a c =
    Any (λ (q : Participant). (q.0.0 ≡ c) × (port_on o q ≡ false)) (participants_of m a)

-- an interaction above another that the offers that count don't exclude
abbrev pub IsOpenAbove : Observed → ℕ → ℕ → Type 0
IsOpenAbove v a b =
    HasAbove v.plan.model.priorities a b × ¬ Exclude v.plan.model (offers_of v) (OfferCounts v) b

-- an interaction above another is open, and of this component of its own no offer counts
pub record LacksAbove (v : Observed) (a c : ℕ) : Type 0 where
  pub counted : AllCount v a
  pub enabled : Enable v.plan.model (offers_of v) a
  pub inter : ℕ
  pub open_ : IsLowest (IsOpenAbove v a) inter
  pub missing : IsLowest (IsMissing v inter) c

-- the verdict on an interaction, the first that applies: a component that it moves has no offer
-- that counts; a port is off; the guard is false; of those above the offers don't exclude one,
-- which has a component without an offer that counts, or else is enabled; it is ready. Of
-- components and of interactions it names the lowest
abbrev pub IsVerdict : Observed → ℕ → Verdict → Type 0
IsVerdict v a (NotReady c) = IsLowest (IsMissing v a) c.0 ⊎ LacksAbove v a c.0
IsVerdict v a (PortOff c) = AllCount v a × IsLowest (IsOff v.plan.model (offers_of v) a) c.0
IsVerdict v a GuardFalse =
    AllCount v a × ArePortsOn v.plan.model (offers_of v) a
    × (guard_holds v.plan.model (offers_of v) a ≡ false)
IsVerdict v a (Below b) =
    AllCount v a × Enable v.plan.model (offers_of v) a × IsLowest (IsOpenAbove v a) b.0
    × AllCount v b.0
IsVerdict v a Ready = IsReady v.plan.model (offers_of v) (OfferCounts v) a

-- the interaction above another for whose sake the verdict on that one is NotReady, if it is for
-- the sake of one
abbrev pub IsLackingAbove : Observed → ℕ → Option InterId → Type 0
IsLackingAbove v a (Some b) = (c : ℕ) × (lacks : LacksAbove v a c) × (lacks.inter ≡ b.0)
IsLackingAbove v a None = (c : ℕ) → ¬ LacksAbove v a c

-- whether an offer counts by which a participant's port is off
abbrev pub is_known_off : Observed → Participant → Bool
is_known_off v q = is_counted v q.0.0 && not (port_on (offers_of v) q)

-- why the offers exclude an interaction above another: the port is off of its lowest participant
-- that the other one moves; else of its lowest participant; else the guard is false
abbrev pub cause_of : Option CompId → Option CompId → Cause
cause_of (Some c) other = Port c
cause_of None (Some c) = Port c
cause_of None None = Guard

abbrev pub first_moved_off : Observed → ℕ → List Participant → Option CompId
first_moved_off v a participants =
    option_map (λ (q : Participant). q.0)
    (find (λ (q : Participant). moves v.plan.model a q.0.0 && is_known_off v q) participants)

abbrev pub first_known_off : Observed → List Participant → Option CompId
first_known_off v participants =
    option_map (λ (q : Participant). q.0) (find (is_known_off v) participants)

abbrev pub cause_by : Observed → ℕ → ℕ → Cause
cause_by v a b =
    cause_of (first_moved_off v a (participants_of v.plan.model b))
    (first_known_off v (participants_of v.plan.model b))

-- the reasons for an interaction by what a class has: one for each interaction above it, in order
-- of number
pub record AreReasonsBy (v : Observed) (a : ℕ) (reasons : List Why) : Type 0 where
  pub rising : IsStrictlyIncreasing (inters_of reasons)
  pub each : AreForEach v.plan.model a reasons
  pub causes : All (λ (y : Why). y.cause ≡ cause_by v a y.inter.0) reasons

-- a reason is true of offers: the port of the component that it names is off, or the guard of its
-- interaction is false of what is offered
abbrev pub IsTrueOf : System → (ℕ → Offer) → ℕ → Cause → Type 0
IsTrueOf m o b (Port c) = IsOff m o b c.0
IsTrueOf m o b Guard = guard_holds m o b ≡ false

-- What contracts of private functions say.

-- whether the offers that count exclude an interaction
abbrev pub excludes : Observed → ℕ → Bool
excludes v b =
    list_any (is_known_off v) (participants_of v.plan.model b)
    || (list_all (λ (q : Participant). is_counted v q.0.0) (participants_of v.plan.model b)
    && not (guard_holds v.plan.model (offers_of v) b))

-- the component of the first of these participants of which no offer counts
abbrev pub first_missing : Observed → List Participant → Option CompId
first_missing v participants =
    option_map (λ (q : Participant). q.0)
    (find (λ (q : Participant). not (is_counted v q.0.0)) participants)

-- the reason for an interaction above another
abbrev pub why_by : Observed → ℕ → InterId → Why
why_by v a b = record { inter = b; cause = cause_by v a b.0 }

-- an interaction of the model, of each participant of which an offer counts
pub record CanBeJudged (v : Observed) (a : ℕ) : Type 0 where
  pub declared : a < length v.plan.model.interactions
  pub counted : All (λ (q : Participant). IsTrue (is_counted v q.0.0))
      (participants_of v.plan.model a)
