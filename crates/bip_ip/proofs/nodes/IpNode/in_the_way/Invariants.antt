use Rattle.std.proofs.Common.{◌≡◌, ℕ, false, true}
use Rattle.std.specs.Prelude.{IsSome}
use Rattle.bip_model.specs.Sets.{has}
use Rattle.bip_ip.specs.Nodes.{StandsInTheWay, node_of}
use Rattle.bip_ip.proofs.nodes.IpNode.in_the_way.Given as goal

abbrev pub invariant-loop-other : goal.invariant-loop-other
invariant-loop-other l = record {
  asked : (b : ℕ) → has l.left b ≡ true → IsSome ((node_of l.self).pending b);
  none : (b : ℕ) → has l.left b ≡ false → ¬ StandsInTheWay (node_of l.self) l.inter.0 b;
}

abbrev pub decreases-loop-other : goal.decreases-loop-other
decreases-loop-other l = l.left
