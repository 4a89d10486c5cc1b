use Rattle.bip_model.proofs.AboveLemmas.{all_gone_on, gone_on_first, gone_on_more}
use Rattle.bip_model.proofs.priorities.set_above.Goals as goal

pub loop-next-init : goal.loop-next-init
loop-next-init c = λ pairs are. gone_on_first pairs c.args.inter.0 _
    (λ b. are.set c.args.inter.0 b c.requires)

pub loop-next-preserved : goal.loop-next-preserved
loop-next-preserved c = λ pairs are. gone_on_more pairs c.args.inter.0 c.loop-next.set
    c.loop-next.gone_on c.in-Some.next.0 _ _ _ (c.loop-next.invariant pairs are)
    c.in-Some.ensures.some.0 (λ b. are.set c.in-Some.next.0 b c.in-Some.ensures.within)
    c.joined-set.ensures c.with_inter-gone_on.ensures.has

pub returns : goal.returns
returns c = λ pairs are b. (
  (c.loop-next.invariant pairs are).within b,
  all_gone_on pairs c.args.inter.0 c.loop-next.set c.loop-next.gone_on
      (c.loop-next.invariant pairs are) c.in_default.ensures.none b,
)
