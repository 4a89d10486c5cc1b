-- What events did, in a word: the answers of nodes.
use Rattle.std.specs.Prelude.{List, None, Option, Some, codes, ℕ, ◌++◌}
use Rattle.bip_bank.specs.Decisions.Decision.TheVariants as decision
use Rattle.bip_bank.specs.declared.banks.Acted.TheVariants as acted
use Rattle.bip_bank.specs.declared.banks.Acted.{Acted}
use Rattle.bip_component.specs.declared.components.Notified.TheVariants as notified
use Rattle.bip_component.specs.declared.components.Notified.{Notified}
use Rattle.bip_core.specs.declared.events.Did.{Did}
use Rattle.bip_core.specs.declared.events.What.TheVariants.{Acts, Hears, Learns, Moves, Nothing}
use Rattle.bip_core.specs.declared.events.What.TheVariants.{Submits, Tries}
use Rattle.bip_core.specs.declared.events.What.{What}
use Rattle.bip_ip.specs.declared.nodes.Answered.TheVariants as answered
use Rattle.bip_ip.specs.declared.nodes.Answered.{Answered}
use Rattle.bip_ip.specs.declared.nodes.Tried.TheVariants as tried
use Rattle.bip_ip.specs.declared.nodes.Tried.{Tried}
use Rattle.bip_model.specs.declared.parts.System.{System}
use Rattle.bip_observe.specs.declared.offers.Receipt.TheVariants as receipt
use Rattle.bip_observe.specs.declared.offers.Receipt.{Receipt}
use Rattle.bip_observe.specs.declared.verdicts.Verdict.TheVariants as verdict
use Rattle.bip_observe.specs.declared.verdicts.Verdict.{Verdict}
use Rattle.bip_sequence.specs.declared.deeds.Deed.TheVariants as deed
use Rattle.bip_sequence.specs.declared.deeds.Deed.{Deed}
use Rattle.bip_tell.specs.Words.{named}

-- a class's answer to an offer
abbrev pub receipt_deed : Receipt → Deed
receipt_deed receipt.Held = deed.Held
receipt_deed receipt.Old = deed.Old
receipt_deed receipt.Stranger = deed.Stranger

-- a class's to a reply
abbrev pub learned_deed : Answered → Deed
learned_deed (answered.Told notifies) = deed.Told
learned_deed answered.Dropped = deed.Dropped
learned_deed answered.Stale = deed.Stale

-- a component's to a notification
abbrev pub notified_deed : Notified → Deed
notified_deed (notified.Moved offer) = deed.Moved
notified_deed notified.Spent = deed.Spent
notified_deed notified.Stale = deed.Stale

-- why an interaction isn't ready
abbrev pub verdict_deed : Verdict → Deed
verdict_deed verdict.Ready = deed.Ready
verdict_deed (verdict.NotReady c) = deed.NotReady
verdict_deed (verdict.PortOff c) = deed.PortOff
verdict_deed verdict.GuardFalse = deed.GuardFalse
verdict_deed (verdict.Below b) = deed.Below

-- a class's to a try: a local grant names its interaction
abbrev pub tried_deed : Tried → Deed
tried_deed tried.Foreign = deed.Foreign
tried_deed (tried.Pending b) = deed.Pending
tried_deed (tried.Not why) = verdict_deed why
tried_deed (tried.Local g notifies) = deed.Granted g.inter
tried_deed tried.Ended = deed.Ended
tried_deed (tried.Sent q) = deed.Sent

-- the bank's to a step: a grant and a refusal name the interaction of the request
abbrev pub acted_deed : Acted → Deed
acted_deed acted.Nothing = deed.NothingToDo
acted_deed acted.Moved = deed.Shared
acted_deed (acted.Answered q (decision.Granted serial)) = deed.Granted q.inter
acted_deed (acted.Answered q (decision.Refused c used)) = deed.Refused q.inter

-- an answer; where there is no such message or node, there is none
abbrev pub what_deed : What → Deed
what_deed Nothing = deed.NothingThere
what_deed (Hears receipt) = receipt_deed receipt
what_deed Submits = deed.Submitted
what_deed (Learns answer) = learned_deed answer
what_deed (Moves answer) = notified_deed answer
what_deed (Tries answer) = tried_deed answer
what_deed (Acts answer) = acted_deed answer

-- what an event did, or that it was skipped for want of memory
abbrev pub deed_of : Option Did → Deed
deed_of None = deed.Skipped
deed_of (Some did) = what_deed did.what

-- the word for it
abbrev pub deed_word : Deed → List ℕ
deed_word deed.NothingThere = codes "nothing there"
deed_word deed.Held = codes "held"
deed_word deed.Old = codes "old"
deed_word deed.Stranger = codes "stranger"
deed_word deed.Submitted = codes "submitted"
deed_word deed.Told = codes "told"
deed_word deed.Dropped = codes "dropped"
deed_word deed.Stale = codes "stale"
deed_word deed.Moved = codes "moved"
deed_word deed.Shared = codes "moved"
deed_word deed.Spent = codes "spent"
deed_word deed.Foreign = codes "foreign"
deed_word deed.Pending = codes "pending"
deed_word deed.Ready = codes "ready"
deed_word deed.NotReady = codes "not ready"
deed_word deed.PortOff = codes "port off"
deed_word deed.GuardFalse = codes "guard false"
deed_word deed.Below = codes "below"
deed_word deed.Ended = codes "ended"
deed_word deed.Sent = codes "sent"
deed_word (deed.Granted a) = codes "granted"
deed_word (deed.Refused a) = codes "refused"
deed_word deed.NothingToDo = codes "nothing to do"
deed_word deed.Skipped = codes "skipped"

-- the same, with the interaction of a grant or of a refusal
abbrev pub deed_text : System → Deed → List ℕ
deed_text m (deed.Granted a) = codes "granted" ++ named m.interaction_names a.0
deed_text m (deed.Refused a) = codes "refused" ++ named m.interaction_names a.0
deed_text m other = deed_word other
