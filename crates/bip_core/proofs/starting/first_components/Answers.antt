use Rattle.bip_component.specs.Components.{IsFirst}
use Rattle.bip_core.proofs.StartLemmas.{one_more}
use Rattle.bip_core.proofs.starting.first_components.Goals as goal

pub loop-number-preserved : goal.loop-number-preserved
loop-number-preserved c = rw c.in_ok-push.ensures.items
    (one_more (λ k node. IsFirst c.args.plan.now k c.args.base node) c.loop-number.number
    c.loop-number.nodes.items c.start.result c.loop-number.invariant c.start.ensures)
