use Rattle.std.proofs.Common.{◌≡◌, map, take}
use Rattle.bip_model.specs.Partitions.{in_order}
use Rattle.bip_model.proofs.partitions.members_of.Given as goal

abbrev pub invariant-loop-class : goal.invariant-loop-class
invariant-loop-class l = l.members ≡ map (λ c. in_order c.1.items) (take l.class-index l.classes)
