use Rattle.std.proofs.Common.{arith, length-set, ◌∙◌}
use Rattle.bip_frame.specs.Lent.{wants_in}
use Rattle.bip_frame.proofs.LentLemmas.{one_more_part, wants_counted}
use Rattle.bip_frame.proofs.lent.wants_of.Goals as goal

pub loop-i-preserved : goal.loop-i-preserved
loop-i-preserved c = (
  length-set c.loop-i.wants c.loop-i.i c.want_at.result ∙ c.loop-i.invariant.0,
  one_more_part c.loop-i.wants (wants_in c.args.count c.args.entries.now) c.loop-i.i
      c.want_at.result (omega (arith, c.loop-i.invariant.0))
      (omega (arith, wants_counted c.args.count c.args.entries.now)) c.loop-i.invariant.1
      c.want_at.ensures,
)
