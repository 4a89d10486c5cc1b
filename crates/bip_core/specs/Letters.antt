-- Letters: a message in flight is its frame, with the address that it has.
use Rattle.std.specs.Prelude.{◌≡◌, ℕ, ◌≤◌, ◌<◌, List, [], Result, Ok, Err, All, IsSomeAnd}
use Rattle.std.specs.Prelude.{slice_get}
use Rattle.bip_model.specs.Messages.{IsOfferOf}
use Rattle.bip_model.specs.declared.messages.Notify.{Notify}
use Rattle.bip_model.specs.declared.messages.Offer.{Offer}
use Rattle.bip_model.specs.declared.messages.Reply.{Reply}
use Rattle.bip_model.specs.declared.messages.Request.{Request}
use Rattle.bip_model.specs.declared.wants.Want.{Want}
use Rattle.bip_partition.specs.Plans.{IsFit, Planned}
use Rattle.bip_frame.specs.Frames.{IsFrame, IsNumbered, Message as Spelled}
use Rattle.bip_frame.specs.Frames.{of_notify, of_offer, of_reply, of_request}
use Rattle.bip_frame.specs.Reading.{read_whole}
use Rattle.bip_frame.specs.Views.{reply_class}
use Rattle.bip_frame.specs.declared.faults.FrameFault.{FrameFault}
use Rattle.bip_core.specs.Accepting.{IsAccepted, IsNotifyOf}
use Rattle.bip_core.specs.declared.accepting.Address.{Address}
use Rattle.bip_core.specs.declared.accepting.Address.TheVariants.{Class, Comp, Layer}
use Rattle.bip_core.specs.declared.messages.Message.{Message}
use Rattle.bip_core.specs.declared.messages.Message.TheVariants.{NotifyComponent, OfferTo}
use Rattle.bip_core.specs.declared.messages.Message.TheVariants.{ReplyToClass, RequestToBank}

-- what the frame of a message spells
abbrev pub as_spelled : Message → Spelled
as_spelled (OfferTo k o) = of_offer o
as_spelled (RequestToBank q) = of_request q
as_spelled (ReplyToClass r) = of_reply r
as_spelled (NotifyComponent n) = of_notify n

-- for whom a message is
abbrev pub address_of : Message → Address
address_of (OfferTo k o) = Class k
address_of (RequestToBank q) = Layer
address_of (ReplyToClass r) = Class (reply_class r)
address_of (NotifyComponent n) = Comp n.comp

-- an address with bytes is the letter of a message: they are its frame, and it is for this
-- addressee
pub record IsLetterOf (m : Message) (to : Address) (bytes : List ℕ) : Type 0 where
  pub address : to ≡ address_of m
  pub frame : IsFrame (as_spelled m) bytes

-- the addressee of a message accepts it
abbrev pub CanBeHandedOn : Planned → Message → Type 0
CanBeHandedOn p m = IsAccepted p (address_of m) (as_spelled m)

-- What can be written, and is accepted then.

-- an offer that a component of the plan can make
pub record CanBeOffered (p : Planned) (o : Offer) : Type 0 where
  pub some : 1 ≤ o.number
  pub made : IsSomeAnd (slice_get p.model.components o.comp.0) (λ component.
      IsOfferOf component o)

-- a notification that a component of the plan can be given
pub record CanBeTold (p : Planned) (n : Notify) : Type 0 where
  pub some : 1 ≤ n.number
  pub port : n.port.0 < 16
  pub taken : IsSomeAnd (slice_get p.model.components n.comp.0) (λ component.
      IsNotifyOf component n)

-- a request that fits the plan
pub record CanBeSubmitted (p : Planned) (q : Request) : Type 0 where
  pub some : 1 ≤ q.request
  pub fit : IsFit p q

-- one of which each want has a number
pub record IsNumberedRequest (p : Planned) (q : Request) : Type 0 where
  pub some : 1 ≤ q.request
  pub fit : IsFit p q
  pub numbered : All (λ (w : Want). 1 ≤ w.number) q.wants

-- a reply to a class of the plan
pub record CanBeReplied (p : Planned) (r : Reply) : Type 0 where
  pub numbered : IsNumbered r
  pub accepted : CanBeHandedOn p (ReplyToClass r)

-- What contracts of private functions say.

-- the message that a frame with an address is
abbrev pub message_at : Address → Spelled → Message
message_at (Class k) (of_offer o) = OfferTo k o
message_at to (of_offer o) = OfferTo (record { 0 = 0 }) o
message_at to (of_request q) = RequestToBank q
message_at to (of_reply r) = ReplyToClass r
message_at to (of_notify n) = NotifyComponent n

abbrev pub message_read : Address → Result Spelled FrameFault → Message
message_read to (Ok m) = message_at to m
message_read to (Err fault) =
    NotifyComponent (record {
      number = 0;
      values = [];
      comp = record { 0 = 0 };
      port = record { 0 = 0 };
    })

-- and that bytes with an address are
abbrev pub message_in : Address → List ℕ → Message
message_in to bytes = message_read to (read_whole bytes)

-- they are the letter of some message
abbrev pub IsLetter : Address → List ℕ → Type 0
IsLetter to bytes = (m : Message) × IsLetterOf m to bytes
