use Rattle.bip_partition.specs.Tables.{AreSeedsBelow}
use Rattle.bip_partition.proofs.tables.seeds.Given as goal

abbrev pub invariant-loop-number : goal.invariant-loop-number
invariant-loop-number l = AreSeedsBelow l.model l.touching l.number l.set
