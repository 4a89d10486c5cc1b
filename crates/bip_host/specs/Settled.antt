-- What decides for stations: of which grant it isn't known that it stands in the book, and what
-- comes of decisions.
use Rattle.std.specs.Prelude.{◌≡◌, ◌⊎◌, ◌++◌, [], ◌∷◌, Bool, None, Ok, Some, false, true, ⊤}
use Rattle.bip_bank.specs.declared.banks.StationId.{StationId}
use Rattle.bip_forks.specs.Stations.{CanTakeFork, CanTakeToken, HasFirst, IsNotServed, IsServedHere}
use Rattle.bip_forks.specs.Stations.{KeptStation, MayAsk, MayPass, other_of, pair_of_stations}
use Rattle.bip_forks.specs.Stations.{side_with, with_fork, with_side_to}
use Rattle.bip_forks.specs.declared.shares.AskToken.{AskToken}
use Rattle.bip_forks.specs.declared.shares.Fork.{Fork}
use Rattle.bip_host.specs.Movers.{mover_in}
use Rattle.bip_host.specs.declared.counts.Posted.{Posted}
use Rattle.bip_host.specs.declared.counts.Posted.TheVariants.{Lost, Sent}
use Rattle.bip_host.specs.declared.messages.ToStation.{ToStation}
use Rattle.bip_host.specs.declared.messages.ToStation.TheVariants as message
use Rattle.bip_host.specs.declared.settled.Decided.TheVariants.{Granted, Refused}
use Rattle.bip_host.specs.declared.settled.Decided.{Decided}
use Rattle.bip_host.specs.declared.settled.Served.TheVariants.{Answered, Nothing}
use Rattle.bip_host.specs.declared.settled.Served.{Served}
use Rattle.bip_host.specs.declared.settled.Unsettled.{Unsettled}
use Rattle.bip_model.specs.declared.grants.Grant.{Grant}
use Rattle.bip_model.specs.declared.messages.Request.{Request}
use Rattle.bip_ring.specs.Tokens.{IsTokenAfter}
use Rattle.bip_ring.specs.declared.tokens.Token.{Token}
use Rattle.bip_table.specs.Reservations.{IsTableAnswer, grant_of}
use Rattle.bip_table.specs.declared.reservations.Decision.TheVariants as table
use Rattle.bip_table.specs.declared.reservations.Decision.{Decision}

module _ {T : Type 0} where
  -- what decided is settled by this grant, and by no other one
  pub record IsUnsettledBy (g : Grant) (unsettled : Unsettled T) : Type 0 where
    pub inter : unsettled.inter ≡ g.inter
    pub mover : unsettled.mover ≡ mover_in g.wants

  -- a grant is of this request
  abbrev pub IsDecidedOn : Request → Decided T → Type 0
  IsDecidedOn q (Granted unsettled serial) = IsUnsettledBy (grant_of q) unsettled
  IsDecidedOn q (Refused settled comp used) = ⊤

  -- it comes of this decision: the same grant, or the same refusal
  abbrev pub IsOfDecision : Decision → Decided T → Type 0
  IsOfDecision (table.Granted serial) (Granted unsettled told) = told ≡ serial
  IsOfDecision (table.Refused c n) (Refused settled comp used) = (comp ≡ c) × (used ≡ n)
  IsOfDecision decision decided = ⊥

  -- what decided, as the decision left it
  abbrev pub decider_in : Decided T → T
  decider_in (Granted unsettled serial) = unsettled.decider
  decider_in (Refused settled comp used) = settled.decider

-- it is what the token's table answers to a request, and the token is as that leaves it
pub record IsDecidedByToken (token : Token) (q : Request) (decided : Decided Token) : Type 0 where
  pub on : IsDecidedOn q decided
  pub so : (decision : Decision) × IsTableAnswer token.table q.wants (Ok decision)
      × IsOfDecision decision decided
      × IsTokenAfter q (Ok decision) token.table (decider_in decided).table

-- what a turn answers, if anything, is what the station decides on its oldest open request, and the
-- station is as that leaves it
abbrev pub IsAsServed : KeptStation → Served → Type 0
IsAsServed station (Nothing left) = IsNotServed station left.decider
IsAsServed station (Answered decided q) =
    (decision : Decision) × IsServedHere station q decision (decider_in decided)
    × IsOfDecision decision decided × IsDecidedOn q decided

-- what a request leaves: it is the newest open one, or lost
abbrev pub IsSubmitted : Request → KeptStation → Posted → KeptStation → Type 0
IsSubmitted q station Sent later = later ≡ record station { waiting = station.waiting ++ q ∷ [] }
IsSubmitted q station Lost later = later ≡ station

-- what a request token leaves: it is here, if it could be taken
abbrev pub IsAskTaken : AskToken → KeptStation → KeptStation → Type 0
IsAskTaken token station later =
    ((other : StationId) × (other_of token.pair station.number ≡ Some other)
    × CanTakeToken station other
    × (later ≡ with_side_to station other.0 (record (side_with station other.0) { asked = true })))
    ⊎ ((later ≡ station) × ((other : StationId)
    → other_of token.pair station.number ≡ Some other → ¬ CanTakeToken station other))

-- what a fork leaves: it lies here, clean or dirty, if it could be taken
abbrev pub IsForkLaid : Fork → Bool → KeptStation → KeptStation → Type 0
IsForkLaid fork clean station later =
    ((other : StationId) × (other_of fork.pair station.number ≡ Some other)
    × CanTakeFork station other × (later ≡ with_fork station other.0 fork clean))
    ⊎ ((later ≡ station) × ((other : StationId)
    → other_of fork.pair station.number ≡ Some other → ¬ CanTakeFork station other))

-- a station may send another one something: the fork that they share, or its request token
abbrev pub MaySendAsk : KeptStation → StationId → Type 0
MaySendAsk station other = HasFirst station.waiting × MayAsk (side_with station other.0)

abbrev pub MayShare : KeptStation → StationId → Type 0
MayShare station other = MayPass (side_with station other.0) ⊎ MaySendAsk station other

-- what it sends: the fork, where it may, and else the request token
abbrev pub SharesWith : StationId → KeptStation → ToStation → KeptStation → Type 0
SharesWith other station (message.Fork fork) later =
    MayPass (side_with station other.0) × ((side_with station other.0).fork ≡ Some fork)
    × (later ≡ with_side_to station other.0 (record (side_with station other.0) { fork = None }))
SharesWith other station (message.Ask token) later =
    (¬ MayPass (side_with station other.0)) × MaySendAsk station other
    × (token.pair ≡ pair_of_stations station.number other)
    × (later ≡ with_side_to station other.0
    (record (side_with station other.0) { asked = false }))
SharesWith other station (message.Asked q) later = ⊥
SharesWith other station (message.Token token) later = ⊥

-- what a station sends a neighbour: a fork, or a request token
abbrev pub IsShareable : ToStation → Type 0
IsShareable (message.Fork fork) = ⊤
IsShareable (message.Ask token) = ⊤
IsShareable (message.Asked q) = ⊥
IsShareable (message.Token token) = ⊥

-- what that leaves where it couldn't be sent
abbrev pub IsTakenBack : ToStation → KeptStation → KeptStation → Type 0
IsTakenBack (message.Fork fork) station later = IsForkLaid fork false station later
IsTakenBack (message.Ask token) station later = IsAskTaken token station later
IsTakenBack (message.Asked q) station later = ⊥
IsTakenBack (message.Token token) station later = ⊥
