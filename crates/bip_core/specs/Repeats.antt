-- Two runs of the same events: what they have in common.
use Rattle.std.specs.Prelude.{◌≡◌, ℕ, List, map}
use Rattle.bip_model.specs.declared.messages.Reply.TheVariants as reply
use Rattle.bip_partition.specs.Plans.{Planned}
use Rattle.bip_bank.specs.Laws.{MovesInOneWay}
use Rattle.bip_core.specs.Runs.{IsLossless, IsRunOfEvents}
use Rattle.bip_core.specs.Starting.{IsNewWorld}
use Rattle.bip_core.specs.Worlds.{WorldContent}
use Rattle.bip_core.specs.declared.events.Event.{Event}
use Rattle.bip_core.specs.declared.messages.Message.{Message}
use Rattle.bip_core.specs.declared.messages.Message.TheVariants.{NotifyComponent, OfferTo}
use Rattle.bip_core.specs.declared.messages.Message.TheVariants.{ReplyToClass, RequestToBank}
use Rattle.bip_core.specs.declared.runs.Report.{Report}

-- a message, but for the serial that the reply to a request tells
abbrev pub message_but_serial : Message → Message
message_but_serial (OfferTo k offer) = OfferTo k offer
message_but_serial (RequestToBank q) = RequestToBank q
message_but_serial (ReplyToClass (reply.Granted k request a serial)) =
    ReplyToClass (reply.Granted k request a 0)
message_but_serial (ReplyToClass (reply.Refused k request a c used)) =
    ReplyToClass (reply.Refused k request a c used)
message_but_serial (NotifyComponent n) = NotifyComponent n

-- worlds are alike: they differ in nothing but the serials that replies in flight tell
abbrev pub but_serials : WorldContent → WorldContent
but_serials w = record w { mail = map message_but_serial w.mail }

abbrev pub AreAlike : WorldContent → WorldContent → Type 0
AreAlike w v = but_serials w ≡ but_serials v

-- there is one new world of a plan above a base whose bank's stations share this
abbrev pub OneNewWorld : Type 0
OneNewWorld =
    (p : Planned) (base : ℕ) (w v : WorldContent) → IsNewWorld p base w → IsNewWorld p base v
    → w.bank.sharing ≡ v.bank.sharing → w ≡ v

-- two runs came to one: they left one trace, have one report, and left worlds that are alike
pub record AreOneRun (v x : WorldContent) (report other : Report) : Type 0 where
  pub traces : v.trace ≡ x.trace
  pub reports : report ≡ other
  pub worlds : AreAlike v x

-- so do two runs of the same events from one world, whose stations move what they share in one way,
-- where no event was skipped and no message lost
abbrev pub OneRun : Type 0
OneRun =
    (events : List Event) (w v x : WorldContent) (report other : Report)
    → MovesInOneWay w.bank.sharing
    → IsRunOfEvents events w v report → IsRunOfEvents events w x other
    → IsLossless report → IsLossless other → AreOneRun v x report other
