-- What the actors of all stations want and hear, and how they answer what they decided.
use Rattle.std.specs.Prelude.{◌≡◌, ℕ, IfSome, ⊤}
use Rattle.bip_host.specs.Keepers.{IsEntryOf}
use Rattle.bip_host.specs.Settled.{IsUnsettledBy}
use Rattle.bip_host.specs.declared.actors.Step.{Step}
use Rattle.bip_host.specs.declared.actors.Step.TheVariants.{Act}
use Rattle.bip_host.specs.declared.messages.ToClass.{ToClass}
use Rattle.bip_host.specs.declared.messages.ToClass.TheVariants as heard
use Rattle.bip_host.specs.declared.settled.Decided.TheVariants.{Granted, Refused}
use Rattle.bip_host.specs.declared.settled.Decided.{Decided}
use Rattle.bip_host.specs.declared.stations.Deciding.TheVariants.{Answering, Appending}
use Rattle.bip_host.specs.declared.stations.Deciding.{Deciding}
use Rattle.bip_host.specs.declared.stations.StationAct.{StationAct}
use Rattle.bip_host.specs.declared.stations.StationAct.TheVariants.{Answer, Append, Share}
use Rattle.bip_host.specs.declared.stations.StationAnswer.{StationAnswer}
use Rattle.bip_host.specs.declared.stations.StationAnswer.TheVariants.{Answered, Appended, Shared}
use Rattle.bip_model.specs.declared.grants.Grant.{Grant}
use Rattle.bip_model.specs.declared.messages.Reply.TheVariants as reply
use Rattle.bip_model.specs.declared.messages.Request.{Request}
use Rattle.bip_table.specs.Reservations.{grant_of}

-- which answers an act can have: an entry is of the grant that was to be appended, and what comes
-- back is what was to be put
abbrev pub StationFits : StationAct → StationAnswer → Type 0
StationFits (Append g) (Appended entry) = IfSome entry (IsEntryOf g)
StationFits (Answer message) (Answered posted) = ⊤
StationFits (Share to message) (Shared back) = IfSome back (λ b. b ≡ message)
StationFits act answer = ⊥

module _ {T : Type 0} where
  -- what a station wants that decided on a request: that its grant is appended, or that its class
  -- is told of the refusal
  abbrev pub on_decided : Request → Decided T → Step StationAct
  on_decided q (Granted unsettled serial) = Act (Append (grant_of q))
  on_decided q (Refused settled c used) =
      Act (Answer (heard.Refused (reply.Refused q.class q.request q.inter c used)))

  -- what it waits for then
  abbrev pub deciding_on : Request → Decided T → Deciding T
  deciding_on q (Granted unsettled serial) = Appending unsettled q.request serial
  deciding_on q (Refused settled c used) = Answering settled

  -- which act that is: a grant's entry settles what decided
  abbrev pub AwaitsDecided : Deciding T → StationAct → Type 0
  AwaitsDecided (Appending unsettled request serial) act =
      (g : Grant) × (act ≡ Append g) × IsUnsettledBy g unsettled
  AwaitsDecided (Answering settled) act = (message : ToClass) × (act ≡ Answer message)

  -- how many acts of a decision can follow, and one more
  abbrev pub rank_decided : Deciding T → ℕ
  rank_decided (Appending unsettled request serial) = 2
  rank_decided (Answering settled) = 1
