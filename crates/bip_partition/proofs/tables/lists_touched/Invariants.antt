use Rattle.bip_partition.specs.Tables.{AreListsTouched}
use Rattle.bip_partition.proofs.tables.lists_touched.Given as goal

abbrev pub invariant-loop-number : goal.invariant-loop-number
invariant-loop-number l = AreListsTouched l.model l.number l.lists
