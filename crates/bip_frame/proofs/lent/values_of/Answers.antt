use Rattle.std.proofs.Common.{arith, length-set, ◌∙◌}
use Rattle.bip_frame.specs.Lent.{values_in}
use Rattle.bip_frame.proofs.LentLemmas.{one_more_part, values_counted}
use Rattle.bip_frame.proofs.lent.values_of.Goals as goal

pub loop-i-preserved : goal.loop-i-preserved
loop-i-preserved c = (
  length-set c.loop-i.values c.loop-i.i c.word_at.result ∙ c.loop-i.invariant.0,
  one_more_part c.loop-i.values (values_in c.args.count c.args.vars.now) c.loop-i.i c.word_at.result
      (omega (arith, c.loop-i.invariant.0)) (omega (
        arith,
        values_counted c.args.count c.args.vars.now,
      )) c.loop-i.invariant.1 c.word_at.ensures,
)
