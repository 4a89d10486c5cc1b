use Rattle.std.proofs.Common.{◌≡◌}
use Rattle.bip_ip.specs.Nodes.{first_node, node_of}
use Rattle.bip_core.specs.Starting.{first_request}
use Rattle.bip_core.proofs.StartLemmas.{AreEach}
use Rattle.bip_core.proofs.starting.first_classes.Given as goal

abbrev pub invariant-loop-number : goal.invariant-loop-number
invariant-loop-number l = AreEach (λ k node. node_of node
    ≡ first_node l.plan k l.base first_request) l.number l.nodes.items
