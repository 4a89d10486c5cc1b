use Rattle.std.proofs.Common.{◌≡◌, ◌≤◌, length, take}
use Rattle.bip_observe.specs.Offers.{observed}
use Rattle.bip_observe.specs.Verdicts.{offers_of}
use Rattle.bip_ip.proofs.AskingLemmas.{named_wants}
use Rattle.bip_ip.proofs.asking.wants_by.Given as goal

abbrev pub invariant-loop-comp : goal.invariant-loop-comp
invariant-loop-comp l =
    (length l.wants ≡ 32) × (l.count ≤ l.comp-index)
    × (take l.count l.wants ≡ named_wants l.offers.plan.model
    (offers_of (observed l.offers)) l.inter.0 l.reasons (take l.comp-index l.touched))
