-- Marks stand where events granted or refused, and rows stand apart.
use Rattle.std.proofs.Common.{◌≡◌, None, Some, arith, refl}
use Rattle.bip_bank.specs.Decisions.Decision.TheVariants as decision
use Rattle.bip_bank.specs.declared.banks.Acted.TheVariants as acted
use Rattle.bip_component.specs.declared.components.Notified.TheVariants as notified
use Rattle.bip_core.specs.Runs.{is_grant, is_refusal}
use Rattle.bip_core.specs.declared.events.What.TheVariants.{Acts, Hears, Learns, Moves, Nothing}
use Rattle.bip_core.specs.declared.events.What.TheVariants.{Submits, Tries}
use Rattle.bip_core.specs.declared.events.What.{What}
use Rattle.bip_ip.specs.declared.nodes.Answered.TheVariants as answered
use Rattle.bip_ip.specs.declared.nodes.Tried.TheVariants as tried
use Rattle.bip_observe.specs.declared.offers.Receipt.TheVariants as receipt
use Rattle.bip_observe.specs.declared.verdicts.Verdict.TheVariants as verdict
use Rattle.bip_sequence.specs.Deeds.{what_deed}
use Rattle.bip_sequence.specs.Figures.{mark_of}
use Rattle.bip_sequence.specs.Laws.{GrantsAreMarked, RefusalsAreMarked, RowsStandApart}
use Rattle.bip_sequence.specs.Laws.{is_grant_mark, is_refusal_mark}

grant_marked : (what : What) → is_grant_mark (mark_of (what_deed what)) ≡ is_grant what
grant_marked Nothing = refl
grant_marked (Hears receipt.Held) = refl
grant_marked (Hears receipt.Old) = refl
grant_marked (Hears receipt.Stranger) = refl
grant_marked Submits = refl
grant_marked (Learns (answered.Told notifies)) = refl
grant_marked (Learns answered.Dropped) = refl
grant_marked (Learns answered.Stale) = refl
grant_marked (Moves (notified.Moved offer)) = refl
grant_marked (Moves notified.Spent) = refl
grant_marked (Moves notified.Stale) = refl
grant_marked (Tries tried.Foreign) = refl
grant_marked (Tries (tried.Pending b)) = refl
grant_marked (Tries (tried.Not verdict.Ready)) = refl
grant_marked (Tries (tried.Not (verdict.NotReady c))) = refl
grant_marked (Tries (tried.Not (verdict.PortOff c))) = refl
grant_marked (Tries (tried.Not verdict.GuardFalse)) = refl
grant_marked (Tries (tried.Not (verdict.Below b))) = refl
grant_marked (Tries (tried.Local g notifies)) = refl
grant_marked (Tries tried.Ended) = refl
grant_marked (Tries (tried.Sent q)) = refl
grant_marked (Acts acted.Nothing) = refl
grant_marked (Acts acted.Moved) = refl
grant_marked (Acts (acted.Answered q (decision.Granted serial))) = refl
grant_marked (Acts (acted.Answered q (decision.Refused c used))) = refl

pub grants_are_marked : GrantsAreMarked
grants_are_marked None = refl
grants_are_marked (Some did) = grant_marked did.what

refusal_marked : (what : What) → is_refusal_mark (mark_of (what_deed what)) ≡ is_refusal what
refusal_marked Nothing = refl
refusal_marked (Hears receipt.Held) = refl
refusal_marked (Hears receipt.Old) = refl
refusal_marked (Hears receipt.Stranger) = refl
refusal_marked Submits = refl
refusal_marked (Learns (answered.Told notifies)) = refl
refusal_marked (Learns answered.Dropped) = refl
refusal_marked (Learns answered.Stale) = refl
refusal_marked (Moves (notified.Moved offer)) = refl
refusal_marked (Moves notified.Spent) = refl
refusal_marked (Moves notified.Stale) = refl
refusal_marked (Tries tried.Foreign) = refl
refusal_marked (Tries (tried.Pending b)) = refl
refusal_marked (Tries (tried.Not verdict.Ready)) = refl
refusal_marked (Tries (tried.Not (verdict.NotReady c))) = refl
refusal_marked (Tries (tried.Not (verdict.PortOff c))) = refl
refusal_marked (Tries (tried.Not verdict.GuardFalse)) = refl
refusal_marked (Tries (tried.Not (verdict.Below b))) = refl
refusal_marked (Tries (tried.Local g notifies)) = refl
refusal_marked (Tries tried.Ended) = refl
refusal_marked (Tries (tried.Sent q)) = refl
refusal_marked (Acts acted.Nothing) = refl
refusal_marked (Acts acted.Moved) = refl
refusal_marked (Acts (acted.Answered q (decision.Granted serial))) = refl
refusal_marked (Acts (acted.Answered q (decision.Refused c used))) = refl

pub refusals_are_marked : RefusalsAreMarked
refusals_are_marked None = refl
refusals_are_marked (Some did) = refusal_marked did.what

pub rows_stand_apart : RowsStandApart
rows_stand_apart g i j first before last = omega (arith, first, before, last)
