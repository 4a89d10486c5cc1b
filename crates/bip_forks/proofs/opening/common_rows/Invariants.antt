use Rattle.bip_forks.specs.Opening.{BothTouch}
use Rattle.bip_forks.proofs.OpeningLemmas.{AreRowsBefore}
use Rattle.bip_forks.proofs.opening.common_rows.Given as goal

abbrev pub invariant-loop-comp : goal.invariant-loop-comp
invariant-loop-comp l = AreRowsBefore (BothTouch l.plan l.fn.inter.0 l.fn.other.0) l.base l.own
    l.others l.comp-index l.passed l.rows
