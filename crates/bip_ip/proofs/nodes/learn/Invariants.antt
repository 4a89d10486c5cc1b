use Rattle.std.proofs.Common.{◌≡◌, take}
use Rattle.bip_observe.specs.Offers.{observed}
use Rattle.bip_ip.specs.Nodes.{with_learned}
use Rattle.bip_ip.proofs.nodes.learn.Given as goal

abbrev pub invariant-loop-want : goal.invariant-loop-want
invariant-loop-want l = observed l.offers ≡ with_learned (take l.want-index l.wants)
    (observed l.initial.offers)
