use Rattle.bip_partition.specs.Tables.{IsListReservedBy}
use Rattle.bip_partition.proofs.tables.list_reserved.Given as goal

abbrev pub invariant-loop-number : goal.invariant-loop-number
invariant-loop-number l = IsListReservedBy l.touches l.set l.number l.list
