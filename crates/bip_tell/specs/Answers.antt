-- How the answer is told of the node that an event addresses.
use Rattle.std.specs.List.{flat_map}
use Rattle.std.specs.Prelude.{List, None, Option, Some, [], codes, ℕ, ◌++◌}
use Rattle.bip_bank.specs.Decisions.Decision.TheVariants as decision
use Rattle.bip_bank.specs.Decisions.Decision.{Decision}
use Rattle.bip_bank.specs.declared.banks.Acted.TheVariants as acted
use Rattle.bip_bank.specs.declared.banks.Acted.{Acted}
use Rattle.bip_bank.specs.declared.idleness.WhyIdle.TheVariants as why_idle
use Rattle.bip_bank.specs.declared.idleness.WhyIdle.{WhyIdle}
use Rattle.bip_component.specs.declared.components.Notified.TheVariants as notified
use Rattle.bip_component.specs.declared.components.Notified.{Notified}
use Rattle.bip_core.specs.declared.events.What.TheVariants.{Acts, Hears, Learns, Moves, Nothing}
use Rattle.bip_core.specs.declared.events.What.TheVariants.{Submits, Tries}
use Rattle.bip_core.specs.declared.events.What.{What}
use Rattle.bip_ip.specs.declared.nodes.Answered.TheVariants as answered
use Rattle.bip_ip.specs.declared.nodes.Answered.{Answered}
use Rattle.bip_ip.specs.declared.nodes.Tried.TheVariants as tried
use Rattle.bip_ip.specs.declared.nodes.Tried.{Tried}
use Rattle.bip_model.specs.declared.numbering.InterId.{InterId}
use Rattle.bip_model.specs.declared.parts.System.{System}
use Rattle.bip_model.specs.declared.wants.Want.{Want}
use Rattle.bip_observe.specs.declared.offers.Receipt.TheVariants as receipt
use Rattle.bip_observe.specs.declared.offers.Receipt.{Receipt}
use Rattle.bip_observe.specs.declared.verdicts.Verdict.TheVariants as verdict
use Rattle.bip_observe.specs.declared.verdicts.Verdict.{Verdict}
use Rattle.bip_tell.specs.Reasons.{told_reason}
use Rattle.bip_tell.specs.declared.hints.Hint.{Hint}
use Rattle.bip_tell.specs.Words.{counted, named, each_want_text}

-- a class's to an offer
abbrev pub receipt_text : Receipt → List ℕ
receipt_text receipt.Held = codes " held"
receipt_text receipt.Old = codes " old"
receipt_text receipt.Stranger = codes " stranger"

-- a class's to a reply
abbrev pub learned_text : Answered → List ℕ
learned_text (answered.Told notifies) = codes " told"
learned_text answered.Dropped = codes " dropped"
learned_text answered.Stale = codes " stale"

-- a component's to a notification
abbrev pub notified_text : Notified → List ℕ
notified_text (notified.Moved offer) = codes " moved"
notified_text notified.Spent = codes " spent"
notified_text notified.Stale = codes " stale"

-- ` of y above`: the interaction above for whose sake one isn't ready, if it is for the sake of one
abbrev pub above_text : System → Option InterId → List ℕ
above_text m None = []
above_text m (Some b) = codes " of" ++ (named m.interaction_names b.0 ++ codes " above")

-- why an interaction isn't ready, for which component or interaction, and for the sake of which one
-- above
abbrev pub why_not_text : System → Option InterId → Verdict → List ℕ
why_not_text m above verdict.Ready = codes " ready"
why_not_text m above (verdict.NotReady c) =
    codes " not ready for" ++ (named m.component_names c.0 ++ above_text m above)
why_not_text m above (verdict.PortOff c) = codes " port off at" ++ named m.component_names c.0
why_not_text m above verdict.GuardFalse = codes " guard false"
why_not_text m above (verdict.Below b) = codes " below" ++ named m.interaction_names b.0

-- a class's to a try of what isn't ready for the sake of this one above, if of one; a request is
-- told with its reasons, in their order
abbrev pub tried_text : System → Option InterId → Tried → List ℕ
tried_text m above tried.Foreign = codes " foreign"
tried_text m above (tried.Pending b) = codes " pending" ++ named m.interaction_names b.0
tried_text m above (tried.Not why) = why_not_text m above why
tried_text m above (tried.Local g notifies) = codes " granted" ++ each_want_text m g.wants
tried_text m above tried.Ended = codes " ended"
tried_text m above (tried.Sent q) =
    codes " sent" ++ (counted q.request ++ (each_want_text m q.wants
    ++ flat_map (told_reason m) q.reasons))

-- what the bank decides on wants: ` granted 0 A:1 R:1`, with the serial of the grant, or
-- ` refused A:1 R:1 since R used 1`, with the component that isn't fresh and its used number
abbrev pub decision_text : System → List Want → Decision → List ℕ
decision_text m wants (decision.Granted serial) =
    codes " granted" ++ (counted serial ++ each_want_text m wants)
decision_text m wants (decision.Refused c used) =
    codes " refused" ++ (each_want_text m wants ++ (codes " since" ++ (named m.component_names c.0
    ++ (codes " used" ++ counted used))))

-- why a step of the bank does nothing; where there is no reason no serial is left
abbrev pub idle_words : Option WhyIdle → List ℕ
idle_words None = codes "no serial left"
idle_words (Some why_idle.NoneOfIt) = codes "this resolver has none of it"
idle_words (Some why_idle.NothingThere) = codes "nothing in flight there"
idle_words (Some why_idle.NothingOpen) = codes "nothing open"
idle_words (Some why_idle.Lacking) = codes "a fork isn't here"
idle_words (Some why_idle.TokenInFlight) = codes "the token is in flight"
idle_words (Some why_idle.TokenElsewhere) = codes "the token isn't here"
idle_words (Some why_idle.NotNext) = codes "that station isn't next"
idle_words (Some why_idle.NoFork) = codes "no such fork"
idle_words (Some why_idle.ForkElsewhere) = codes "the fork isn't here"
idle_words (Some why_idle.ForkClean) = codes "the fork is clean"
idle_words (Some why_idle.NotAskedFor) = codes "the fork wasn't asked for"
idle_words (Some why_idle.ForkHere) = codes "the fork is here"
idle_words (Some why_idle.NoRequestToken) = codes "the request token isn't here"

-- the bank's to a step, which does nothing for this reason where it does nothing
abbrev pub acted_text : System → Option WhyIdle → Acted → List ℕ
acted_text m idle acted.Nothing = codes " nothing to do: " ++ idle_words idle
acted_text m idle acted.Moved = codes " moved"
acted_text m idle (acted.Answered q d) = decision_text m q.wants d

-- an answer; where there is no such message or node, there is none
abbrev pub what_text : System → Hint → What → List ℕ
what_text m hint Nothing = codes " nothing there"
what_text m hint (Hears receipt) = receipt_text receipt
what_text m hint Submits = codes " submitted"
what_text m hint (Learns answer) = learned_text answer
what_text m hint (Moves answer) = notified_text answer
what_text m hint (Tries answer) = tried_text m hint.above answer
what_text m hint (Acts answer) = acted_text m hint.idle answer
