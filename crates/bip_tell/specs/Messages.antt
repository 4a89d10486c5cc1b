-- How a message in flight is told.
use Rattle.std.specs.Prelude.{List, codes, ℕ, ◌++◌}
use Rattle.bip_core.specs.declared.messages.Message.TheVariants.{NotifyComponent, OfferTo}
use Rattle.bip_core.specs.declared.messages.Message.TheVariants.{ReplyToClass, RequestToBank}
use Rattle.bip_core.specs.declared.messages.Message.{Message}
use Rattle.bip_model.specs.declared.messages.Notify.{Notify}
use Rattle.bip_model.specs.declared.messages.Offer.{Offer}
use Rattle.bip_model.specs.declared.messages.Reply.TheVariants.{Granted, Refused}
use Rattle.bip_model.specs.declared.messages.Reply.{Reply}
use Rattle.bip_model.specs.declared.messages.Request.{Request}
use Rattle.bip_partition.specs.Plans.{Planned}
use Rattle.bip_tell.specs.Words.{asked_text, named, move_named, port_named}

-- ` offer A:1 to P`
abbrev pub offer_text : Planned → ℕ → Offer → List ℕ
offer_text p k offer =
    codes " offer" ++ (move_named p.model offer.comp.0 offer.number
    ++ (codes " to" ++ named p.classes.names k))

-- ` request P x 1`
abbrev pub request_text : Planned → Request → List ℕ
request_text p q = codes " request" ++ asked_text p q.class.0 q.inter.0 q.request

-- ` granted P x 1` or ` refused P x 1`
abbrev pub reply_text : Planned → Reply → List ℕ
reply_text p (Granted k n a serial) = codes " granted" ++ asked_text p k.0 a.0 n
reply_text p (Refused k n a c used) = codes " refused" ++ asked_text p k.0 a.0 n

-- ` notify A:1 p`
abbrev pub notify_text : Planned → Notify → List ℕ
notify_text p notify =
    codes " notify" ++ (move_named p.model notify.comp.0 notify.number
    ++ port_named p.model notify.comp.0 notify.port.0)

-- a message
abbrev pub message_text : Planned → Message → List ℕ
message_text p (OfferTo k offer) = offer_text p k.0 offer
message_text p (RequestToBank q) = request_text p q
message_text p (ReplyToClass reply) = reply_text p reply
message_text p (NotifyComponent notify) = notify_text p notify
