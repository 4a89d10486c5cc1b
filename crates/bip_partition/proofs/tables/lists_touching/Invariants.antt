use Rattle.bip_partition.specs.Tables.{AreListsTouching}
use Rattle.bip_partition.proofs.tables.lists_touching.Given as goal

abbrev pub invariant-loop-number : goal.invariant-loop-number
invariant-loop-number l = AreListsTouching (record { model = l.model; classes = l.classes })
    l.number l.lists
