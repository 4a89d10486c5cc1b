-- What views show: the message that their frame spells, and parts of their source.
use Rattle.std.specs.Prelude.{◌≡◌, ℕ, ◌+◌, ◌*◌, List, take, drop, if◌then◌else◌}
use Rattle.std.specs.Prelude.{Option, None, Some}
use Rattle.std.specs.Int.{w16, w64, from_be_bytes}
use Rattle.bip_model.specs.declared.messages.Notify.{Notify}
use Rattle.bip_model.specs.declared.messages.Offer.{Offer}
use Rattle.bip_model.specs.declared.messages.Reply.TheVariants.{Granted, Refused}
use Rattle.bip_model.specs.declared.messages.Reply.{Reply}
use Rattle.bip_model.specs.declared.messages.Request.{Request}
use Rattle.bip_model.specs.declared.numbering.ClassId.{ClassId}
use Rattle.bip_model.specs.declared.numbering.CompId.{CompId}
use Rattle.bip_model.specs.declared.numbering.InterId.{InterId}
use Rattle.bip_model.specs.declared.wants.Want.{Want}
use Rattle.bip_frame.specs.Frames.{Message, of_offer, of_request, of_reply, of_notify}
use Rattle.bip_frame.specs.Lent.{behind_entries, values_in, reasons_in, want_in, wants_in}
use Rattle.bip_frame.specs.declared.frames.EntryPart.{EntryPart}
use Rattle.bip_frame.specs.declared.frames.Frame.TheVariants as frames
use Rattle.bip_frame.specs.declared.frames.Frame.{Frame}
use Rattle.bip_frame.specs.declared.frames.NotifyFrame.{NotifyFrame}
use Rattle.bip_frame.specs.declared.frames.OfferFrame.{OfferFrame}
use Rattle.bip_frame.specs.declared.frames.ReplyFrame.{ReplyFrame}
use Rattle.bip_frame.specs.declared.frames.ReserveFrame.{ReserveFrame}

abbrev pub offer_shown : OfferFrame → Offer
offer_shown f =
    record {
      comp = f.comp;
      number = f.number;
      ports = f.ports;
      values = values_in f.count f.vars.now;
    }

abbrev pub notify_shown : NotifyFrame → Notify
notify_shown f =
    record {
      comp = f.comp;
      number = f.number;
      port = f.port;
      values = values_in f.count f.vars.now;
    }

abbrev pub request_shown : ReserveFrame → Request
request_shown f =
    record {
      class = f.class;
      request = f.request;
      inter = f.inter;
      wants = wants_in f.count f.parts.now;
      reasons = reasons_in f.count f.parts.now;
    }

-- a serial, or a component with its used number, as the source has them
abbrev pub reply_shown : ReplyFrame → Reply
reply_shown f =
    if f.granted then Granted f.class f.request f.inter (from_be_bytes w64 f.answer.now)
    else Refused f.class f.request f.inter
    (record { 0 = from_be_bytes w16 (take 2 f.answer.now) })
    (from_be_bytes w64 (drop 2 f.answer.now))

abbrev pub message_shown : Frame → Message
message_shown (frames.Offer f) = of_offer (offer_shown f)
message_shown (frames.Reserve f) = of_request (request_shown f)
message_shown (frames.Reply f) = of_reply (reply_shown f)
message_shown (frames.Notify f) = of_notify (notify_shown f)

-- the want that an entry shows
abbrev pub want_shown : EntryPart → Want
want_shown part = want_in part.bytes.now

abbrev pub reply_class : Reply → ClassId
reply_class (Granted class request inter serial) = class
reply_class (Refused class request inter comp used) = class

abbrev pub reply_request : Reply → ℕ
reply_request (Granted class request inter serial) = request
reply_request (Refused class request inter comp used) = request

abbrev pub reply_inter : Reply → InterId
reply_inter (Granted class request inter serial) = inter
reply_inter (Refused class request inter comp used) = inter

-- the serial that a grant tells, and the component with its used number that a refusal names
abbrev pub reply_serial : Reply → Option ℕ
reply_serial (Granted class request inter serial) = Some serial
reply_serial (Refused class request inter comp used) = None

abbrev pub reply_comp : Reply → Option CompId
reply_comp (Granted class request inter serial) = None
reply_comp (Refused class request inter comp used) = Some comp

abbrev pub reply_used : Reply → Option ℕ
reply_used (Granted class request inter serial) = None
reply_used (Refused class request inter comp used) = Some used

-- The bytes that views lend.

-- the values as they lie in the source
abbrev pub offer_lent : OfferFrame → List ℕ
offer_lent f = f.vars.now

abbrev pub notify_lent : NotifyFrame → List ℕ
notify_lent f = f.vars.now

-- the entries as they lie in the source, and behind them what reasons there are
abbrev pub entries_lent : ReserveFrame → List ℕ
entries_lent f = f.parts.now

-- the reasons as they lie in the source
abbrev pub reasons_lent : ReserveFrame → List ℕ
reasons_lent f = behind_entries f.count f.parts.now

-- an entry as it lies in the source
abbrev pub entry_lent : EntryPart → List ℕ
entry_lent part = part.bytes.now

-- what a view lends are the bytes of its source from their place on; a reply's lends nothing
abbrev pub IsLent : Frame → List ℕ → Type 0
IsLent (frames.Offer f) bytes = offer_lent f ≡ drop 14 bytes
IsLent (frames.Reserve f) bytes =
    (entries_lent f ≡ drop 14 bytes) × (reasons_lent f ≡ drop (15 + 11 * f.count) bytes)
IsLent (frames.Reply f) bytes = Unit {0}
IsLent (frames.Notify f) bytes = notify_lent f ≡ drop 13 bytes
