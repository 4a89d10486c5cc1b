use Rattle.bip_partition.specs.Tables.{AreSetsTouched}
use Rattle.bip_partition.proofs.footprints.list_class_sets.Given as goal

abbrev pub invariant-loop-number : goal.invariant-loop-number
invariant-loop-number l = AreSetsTouched l.footprints l.classes.members l.number l.sets
