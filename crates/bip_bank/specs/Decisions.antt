-- Decisions on requests, as those who ask a bank see them; and the replies that they give.
pub use Rattle.bip_table.specs.Reservations.{IsDecision, IsUsedUp, grant_of}
pub use Rattle.bip_table.specs.declared.reservations.Decision
use Rattle.bip_table.specs.declared.reservations.Decision.TheVariants as decision
use Rattle.bip_model.specs.declared.messages.Reply.{Reply}
use Rattle.bip_model.specs.declared.messages.Reply.TheVariants as reply
use Rattle.bip_model.specs.declared.messages.Request.{Request}

-- the reply to a request, by the decision on it
abbrev pub reply_to : Request → Decision.Decision → Reply
reply_to q (decision.Granted serial) = reply.Granted q.class q.request q.inter serial
reply_to q (decision.Refused c used) = reply.Refused q.class q.request q.inter c used
