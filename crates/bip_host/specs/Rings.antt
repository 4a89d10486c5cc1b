-- The actor of a ring's station: what it decides, answers and hands on.
use Rattle.std.specs.Prelude.{◌≡◌, ◌⊎◌, ℕ, ◌+◌, [], ◌∷◌, ◌++◌, List, None, Option, Some, Err}
use Rattle.bip_bank.specs.declared.banks.StationId.{StationId}
use Rattle.bip_host.specs.Classes.{with_fault}
use Rattle.bip_host.specs.Counts.{nothing_counted, counted_up, with_posted}
use Rattle.bip_host.specs.Settled.{IsDecidedByToken}
use Rattle.bip_host.specs.Stations.{AwaitsDecided, deciding_on, on_decided, rank_decided}
use Rattle.bip_host.specs.declared.actors.Step.{Step}
use Rattle.bip_host.specs.declared.actors.Step.TheVariants.{Act, Over}
use Rattle.bip_host.specs.declared.actors.Turn.TheVariants.{Done, Ends, Nothing}
use Rattle.bip_host.specs.declared.messages.ToClass.TheVariants as heard
use Rattle.bip_host.specs.declared.messages.ToStation.{ToStation}
use Rattle.bip_host.specs.declared.messages.ToStation.TheVariants as message
use Rattle.bip_host.specs.declared.rings.RingActor.{RingActor}
use Rattle.bip_host.specs.declared.rings.RingStage.{RingStage}
use Rattle.bip_host.specs.declared.rings.RingStage.TheVariants.{Passing, Resting}
use Rattle.bip_host.specs.declared.rings.RingStage.TheVariants as stage
use Rattle.bip_host.specs.declared.settled.Decided.{Decided}
use Rattle.bip_host.specs.declared.settled.Settled.{Settled}
use Rattle.bip_host.specs.declared.stations.Deciding.TheVariants.{Answering, Appending}
use Rattle.bip_host.specs.declared.stations.StationAct.{StationAct}
use Rattle.bip_host.specs.declared.stations.StationAct.TheVariants.{Answer, Share}
use Rattle.bip_host.specs.declared.stations.StationAnswer.{StationAnswer}
use Rattle.bip_host.specs.declared.stations.StationAnswer.TheVariants.{Answered, Appended, Shared}
use Rattle.bip_model.specs.declared.messages.Request.{Request}
use Rattle.bip_ring.specs.declared.tokens.Token.{Token}
use Rattle.bip_table.specs.Reservations.{IsTableAnswer}
use Rattle.bip_table.specs.declared.faults.TableFault.{TableFault}

-- an actor of a station at first: no request is open
pub record IsFirstRingActor (t : StationId) (held : Option (Settled Token)) (a : RingActor) : Type 0
  where
    pub next : a.next ≡ t
    pub waiting : a.waiting ≡ []
    pub token : a.token ≡ held
    pub stage : a.stage ≡ Resting
    pub counts : a.counts ≡ nothing_counted

-- what a message leaves: a request is the newest open one, or lost; the token is here; what no
-- neighbour of a ring sends is nothing
abbrev pub RingTakes : ToStation → RingActor → RingActor → Type 0
RingTakes (message.Asked q) a later =
    (later ≡ record a { waiting = a.waiting ++ q ∷ [] })
    ⊎ (later ≡ record a { counts = record a.counts { lost = counted_up a.counts.lost } })
RingTakes (message.Token token) a later = later ≡ record a { token = Some token }
RingTakes (message.Ask ask) a later = later ≡ a
RingTakes (message.Fork fork) a later = later ≡ a

-- it wants that the token is put for the next station
abbrev pub handing_on : RingActor → Settled Token → Step StationAct
handing_on a token = Act (Share a.next (message.Token token))

abbrev pub IsHandingOn : Settled Token → RingActor → Step StationAct → RingActor → Type 0
IsHandingOn token a step later =
    (step ≡ handing_on a token) × (later ≡ record a { stage = Passing })

-- the token's table answers a request: it wants what that asks for; without an answer it ends
abbrev pub RingDecides : Settled Token → Request → RingActor → Step StationAct → RingActor → Type 0
RingDecides token q a step later =
    ((decided : Decided Token) × IsDecidedByToken token.decider q decided
    × (step ≡ on_decided q decided)
    × (later ≡ record a { stage = stage.Deciding (deciding_on q decided) }))
    ⊎ ((why : TableFault) × IsTableAnswer token.decider.table q.wants (Err why)
    × (step ≡ Over Ends) × (later ≡ record a { counts = with_fault why a.counts }))

-- with the token it decides on the oldest open request; where there is none it hands the token on
abbrev pub RingServesOf : List Request → Settled Token → RingActor → Step StationAct → RingActor
    → Type 0
RingServesOf [] token a step later = IsHandingOn token a step later
RingServesOf (q ∷ rest) token a step later =
    RingDecides token q (record a { waiting = rest }) step later

abbrev pub RingServes : Settled Token → RingActor → Step StationAct → RingActor → Type 0
RingServes token a step later = RingServesOf a.waiting token a step later

-- what the start makes of it: nothing
abbrev pub RingStarts : RingActor → Step StationAct → RingActor → Type 0
RingStarts a step later = (step ≡ Over Nothing) × (later ≡ a)

-- with the token or without
abbrev pub IsWithToken : Option (Settled Token) → RingActor → Step StationAct → RingActor → Type 0
IsWithToken None a step later = (step ≡ Over a.turn) × (later ≡ a)
IsWithToken (Some token) a step later = RingServes token (record a { token = None }) step later

-- what a turn's first step makes of it: it takes the message, if there is one, and serves if it has
-- the token
abbrev pub RingHears : RingActor → Option ToStation → Step StationAct → RingActor → Type 0
RingHears a None step later = IsWithToken a.token (record a { turn = Nothing }) step later
RingHears a (Some m) step later =
    (mid : RingActor) × RingTakes m (record a { turn = Done }) mid
    × IsWithToken mid.token mid step later

-- what the answer makes of it that it waited for at a stage: a grant that stands in the book is
-- answered to its class, by which the token is settled; one that can't be next there ends the
-- station; behind its answer it hands the token on; a token that couldn't be put stays
abbrev pub RingAnsweredAt : RingStage → StationAnswer → RingActor → Step StationAct → RingActor
    → Type 0
RingAnsweredAt (stage.Deciding (Appending unsettled request serial)) (Appended (Some entry)) a step
    later =
    (settled : Settled Token) × (settled.decider ≡ unsettled.decider)
    × (step ≡ Act (Answer (heard.Granted entry request serial)))
    × (later ≡ record a { stage = stage.Deciding (Answering settled) })
RingAnsweredAt (stage.Deciding (Appending unsettled request serial)) (Appended None) a step later =
    (step ≡ Over Ends) × (later ≡ a)
RingAnsweredAt (stage.Deciding (Answering token)) (Answered posted) a step later =
    IsHandingOn token (record a { counts = with_posted posted a.counts }) step later
RingAnsweredAt Passing (Shared None) a step later =
    (step ≡ Over Done)
    × (later ≡ record a { counts = record a.counts { passes = counted_up a.counts.passes } })
RingAnsweredAt Passing (Shared (Some (message.Token token))) a step later =
    (step ≡ Over Nothing) × (later ≡ record a { token = Some token })
RingAnsweredAt stage answer a step later = ⊥

abbrev pub RingGoesOn : RingActor → StationAnswer → Step StationAct → RingActor → Type 0
RingGoesOn a answer step later =
    RingAnsweredAt a.stage answer (record a { stage = Resting }) step later

-- what it waits for at a stage
abbrev pub RingAwaits : StationId → RingStage → StationAct → Type 0
RingAwaits next Resting act = ⊥
RingAwaits next (stage.Deciding deciding) act = AwaitsDecided deciding act
RingAwaits next Passing act = (token : Settled Token) × (act ≡ Share next (message.Token token))

-- how many acts can follow at a stage, and one more
abbrev pub rank_ring : RingStage → ℕ
rank_ring Resting = 0
rank_ring (stage.Deciding deciding) = 1 + rank_decided deciding
rank_ring Passing = 1
