use Rattle.std.proofs.Common.{◌≡◌, map, take}
use Rattle.bip_model.proofs.partitions.names_of.Given as goal

abbrev pub invariant-loop-class : goal.invariant-loop-class
invariant-loop-class l = l.names ≡ map (λ c. c.0) (take l.class-index l.classes)
