use Rattle.std.proofs.Common.{◌≡◌}
use Rattle.bip_ip.specs.Nodes.{first_node, node_of}
use Rattle.bip_core.specs.Starting.{first_request}
use Rattle.bip_core.proofs.StartLemmas.{one_more}
use Rattle.bip_core.proofs.starting.first_classes.Goals as goal

pub loop-number-preserved : goal.loop-number-preserved
loop-number-preserved c = rw c.in_ok-push.ensures.items
    (one_more (λ k node. node_of node ≡ first_node c.args.plan.now k c.args.base first_request)
    c.loop-number.number c.loop-number.nodes.items c.in_ok-new.field-0 c.loop-number.invariant
    c.in_ok-new.ensures)
