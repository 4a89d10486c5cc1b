use Rattle.std.proofs.Common.{arith, length-set, ◌∙◌}
use Rattle.bip_frame.specs.Lent.{whys_lent}
use Rattle.bip_frame.proofs.LentLemmas.{one_more_part, whys_counted}
use Rattle.bip_frame.proofs.lent.copy_reasons.Goals as goal

pub loop-i-preserved : goal.loop-i-preserved
loop-i-preserved c = (
  length-set c.loop-i.whys c.loop-i.i c.why_at.result ∙ c.loop-i.invariant.0,
  one_more_part c.loop-i.whys (whys_lent c.args.count c.args.reasons.now) c.loop-i.i c.why_at.result
      (omega (arith, c.loop-i.invariant.0)) (omega (
        arith,
        whys_counted c.args.count c.args.reasons.now,
      )) c.loop-i.invariant.1 c.why_at.ensures,
)
