-- The actor of a station that shares forks: what it decides, answers, and sends to whom.
use Rattle.std.specs.Prelude.{◌≡◌, ◌⊎◌, ℕ, ◌+◌, ◌-◌, ◌<◌, ◌≤◌, List, None, Option, Some, slice_get}
use Rattle.std.specs.Prelude.{true}
use Rattle.bip_bank.specs.declared.banks.StationId.{StationId}
use Rattle.bip_forks.specs.Stations.{IsReadyToServe, KeptStation}
use Rattle.bip_forks.specs.declared.stations.Station.{Station}
use Rattle.bip_host.specs.Counts.{nothing_counted, counted_up, with_posted}
use Rattle.bip_host.specs.Settled.{IsAsServed, IsAskTaken, IsForkLaid, IsShareable, SharesWith}
use Rattle.bip_host.specs.Settled.{IsSubmitted, IsTakenBack, MayShare}
use Rattle.bip_host.specs.Stations.{AwaitsDecided, deciding_on, on_decided, rank_decided}
use Rattle.bip_host.specs.declared.actors.Step.{Step}
use Rattle.bip_host.specs.declared.actors.Step.TheVariants.{Act, Over}
use Rattle.bip_host.specs.declared.actors.Turn.TheVariants.{Done, Ends, Nothing}
use Rattle.bip_host.specs.declared.counts.Counts.{Counts}
use Rattle.bip_host.specs.declared.counts.Posted.{Posted}
use Rattle.bip_host.specs.declared.forks.ForkActor.{ForkActor}
use Rattle.bip_host.specs.declared.forks.ForkStage.{ForkStage}
use Rattle.bip_host.specs.declared.forks.ForkStage.TheVariants as stage
use Rattle.bip_host.specs.declared.forks.Shared.{Shared}
use Rattle.bip_host.specs.declared.forks.Shared.TheVariants as shared
use Rattle.bip_host.specs.declared.messages.ToClass.TheVariants as heard
use Rattle.bip_host.specs.declared.messages.ToStation.{ToStation}
use Rattle.bip_host.specs.declared.messages.ToStation.TheVariants as message
use Rattle.bip_host.specs.declared.settled.Served.{Served}
use Rattle.bip_host.specs.declared.settled.Served.TheVariants as served
use Rattle.bip_host.specs.declared.settled.Settled.{Settled}
use Rattle.bip_host.specs.declared.stations.Deciding.TheVariants.{Answering, Appending}
use Rattle.bip_host.specs.declared.stations.StationAct.{StationAct}
use Rattle.bip_host.specs.declared.stations.StationAct.TheVariants.{Answer, Share}
use Rattle.bip_host.specs.declared.stations.StationAnswer.{StationAnswer}
use Rattle.bip_host.specs.declared.stations.StationAnswer.TheVariants as answers

-- an actor of a station at first, with these neighbours
pub record IsFirstForkActor (ns : List StationId) (decider : Option (Settled Station))
    (a : ForkActor) : Type 0 where
  pub neighbours : a.neighbours.items ≡ ns
  pub station : a.station ≡ decider
  pub stage : a.stage ≡ stage.Resting
  pub counts : a.counts ≡ nothing_counted

-- what a message leaves: a request is the newest open one, or lost; a request token or a fork is
-- here, if it could be taken; what goes round in a ring is nothing
abbrev pub ForkTakes : ToStation → ForkActor → KeptStation → ForkActor → KeptStation → Type 0
ForkTakes (message.Asked q) a station later left =
    (posted : Posted) × IsSubmitted q station posted left
    × (later ≡ record a { counts = with_posted posted a.counts })
ForkTakes (message.Ask token) a station later left = IsAskTaken token station left × (later ≡ a)
ForkTakes (message.Fork fork) a station later left =
    IsForkLaid fork true station left × (later ≡ a)
ForkTakes (message.Token token) a station later left = (left ≡ station) × (later ≡ a)

-- nothing may be sent to the neighbours between two places
abbrev pub SharesNoneTill : List StationId → KeptStation → ℕ → ℕ → Type 0
SharesNoneTill neighbours station from till =
    (k : ℕ) (other : StationId) → from ≤ k → k < till → slice_get neighbours k ≡ Some other
    → ¬ MayShare station other

-- the next neighbour to which something may be sent, from a place on
pub record IsNextShared (neighbours : List StationId) (station : KeptStation) (from k : ℕ)
    (t : StationId) : Type 0 where
  pub place : from ≤ k
  pub other : slice_get neighbours k ≡ Some t
  pub may : MayShare station t
  pub next : SharesNoneTill neighbours station from k

-- nothing may be sent to any neighbour, from a place on
abbrev pub SharesNone : List StationId → KeptStation → ℕ → Type 0
SharesNone neighbours station from =
    (k : ℕ) (other : StationId) → from ≤ k → slice_get neighbours k ≡ Some other
    → ¬ MayShare station other

-- which of the two a message is that a station sends a neighbour
abbrev pub shared_by : ToStation → Shared
shared_by (message.Fork fork) = shared.Fork
shared_by (message.Ask token) = shared.Ask
shared_by (message.Asked q) = shared.Ask
shared_by (message.Token token) = shared.Ask

-- it goes on to the next neighbour to which something may be sent, and wants that this is put for
-- that one; or there is none, and its turn is over
abbrev pub IsSharing : KeptStation → ℕ → ForkActor → Step StationAct → ForkActor → Type 0
IsSharing station from a step later =
    ((k : ℕ) × (other : StationId) × (message : ToStation) × (left : Settled Station)
    × IsNextShared a.neighbours.items station from k other
    × SharesWith other station message left.decider × (step ≡ Act (Share other message))
    × (later ≡ record a { stage = stage.Sharing left k (shared_by message) }))
    ⊎ ((left : Settled Station) × SharesNone a.neighbours.items station from
    × (left.decider ≡ station) × (step ≡ Over a.turn) × (later ≡ record a { station = Some left }))

-- what the start makes of it: nothing
abbrev pub ForkStarts : ForkActor → Step StationAct → ForkActor → Type 0
ForkStarts a step later = (step ≡ Over Nothing) × (later ≡ a)

-- what it wants behind its turn's decision, if there is one; without one it shares its forks
abbrev pub ForkWants : Served → ForkActor → Step StationAct → ForkActor → Type 0
ForkWants (served.Nothing left) a step later = IsSharing left.decider 0 a step later
ForkWants (served.Answered decided q) a step later =
    (step ≡ on_decided q decided)
    × (later ≡ record a { turn = Done; stage = stage.Deciding (deciding_on q decided) })

-- it decides on its oldest open request, where it has all its forks; where memory is wanted for
-- that it ends
abbrev pub ForkServes : KeptStation → ForkActor → Step StationAct → ForkActor → Type 0
ForkServes station a step later =
    ((did : Served) × IsAsServed station did × ForkWants did a step later)
    ⊎ (IsReadyToServe station × (step ≡ Over Ends)
    × (later ≡ record a { counts = record a.counts { wanted_memory = true } }))

-- it takes a message, and serves
abbrev pub ForkHearsOf : ToStation → KeptStation → ForkActor → Step StationAct → ForkActor → Type 0
ForkHearsOf m station a step later =
    (mid : ForkActor) × (left : KeptStation) × ForkTakes m a station mid left
    × ForkServes left mid step later

-- what a turn's first step makes of it: it takes the message, if there is one, and serves; without
-- what decides it ends
abbrev pub ForkHearsWith : Option (Settled Station) → ForkActor → Option ToStation
    → Step StationAct → ForkActor → Type 0
ForkHearsWith None a heard step later = (step ≡ Over Ends) × (later ≡ a)
ForkHearsWith (Some station) a None step later =
    ForkServes station.decider (record a { turn = Nothing }) step later
ForkHearsWith (Some station) a (Some m) step later =
    ForkHearsOf m station.decider (record a { turn = Done }) step later

abbrev pub ForkHears : ForkActor → Option ToStation → Step StationAct → ForkActor → Type 0
ForkHears a heard step later =
    ForkHearsWith a.station (record a { station = None }) heard step later

-- a fork or a request token that is sent is counted
abbrev pub with_shared : Shared → Counts → Counts
with_shared shared.Fork counts = record counts { passes = counted_up counts.passes }
with_shared shared.Ask counts = record counts { asks = counted_up counts.asks }

-- it goes on to the next neighbour, once something was put for the one at a place, which is
-- counted; what couldn't be put is taken back
abbrev pub IsSharingOn : Shared → Option ToStation → KeptStation → ℕ → ForkActor → Step StationAct
    → ForkActor → Type 0
IsSharingOn which None station k a step later =
    IsSharing station (k + 1) (record a { turn = Done; counts = with_shared which a.counts }) step
    later
IsSharingOn which (Some back) station k a step later =
    (left : KeptStation) × IsTakenBack back station left × IsSharing left (k + 1) a step later

-- what the answer makes of it that it waited for at a stage: a grant that stands in the book is
-- answered to its class, by which the station is settled; one that can't be next there ends the
-- station; behind its answer it shares its forks, one neighbour after another; what couldn't be put
-- stays
abbrev pub ForkAnsweredAt : ForkStage → StationAnswer → ForkActor → Step StationAct → ForkActor
    → Type 0
ForkAnsweredAt (stage.Deciding (Appending unsettled request serial)) (answers.Appended (Some entry))
    a step later =
    (settled : Settled Station) × (settled.decider ≡ unsettled.decider)
    × (step ≡ Act (Answer (heard.Granted entry request serial)))
    × (later ≡ record a { stage = stage.Deciding (Answering settled) })
ForkAnsweredAt (stage.Deciding (Appending unsettled request serial)) (answers.Appended None) a step
    later =
    (step ≡ Over Ends) × (later ≡ a)
ForkAnsweredAt (stage.Deciding (Answering station)) (answers.Answered posted) a step later =
    IsSharing station.decider 0 (record a { counts = with_posted posted a.counts }) step later
ForkAnsweredAt (stage.Sharing station k which) (answers.Shared back) a step later =
    IsSharingOn which back station.decider k a step later
ForkAnsweredAt stage answer a step later = ⊥

abbrev pub ForkGoesOn : ForkActor → StationAnswer → Step StationAct → ForkActor → Type 0
ForkGoesOn a answer step later =
    ForkAnsweredAt a.stage answer (record a { stage = stage.Resting }) step later

-- what it waits for at a stage
abbrev pub ForkAwaits : List StationId → ForkStage → StationAct → Type 0
ForkAwaits neighbours stage.Resting act = ⊥
ForkAwaits neighbours (stage.Deciding deciding) act = AwaitsDecided deciding act
ForkAwaits neighbours (stage.Sharing station k which) act =
    (other : StationId) × (message : ToStation) × (slice_get neighbours k ≡ Some other)
    × IsShareable message × (act ≡ Share other message)

-- how many acts can follow at a stage, of a station with so many neighbours, and one more
abbrev pub rank_fork : ℕ → ForkStage → ℕ
rank_fork count stage.Resting = 0
rank_fork count (stage.Deciding deciding) = count + rank_decided deciding
rank_fork count (stage.Sharing station k which) = count - k
