use Rattle.bip_partition.specs.Tables.{AreFootprints}
use Rattle.bip_partition.proofs.footprints.list_footprints.Given as goal

abbrev pub invariant-loop-number : goal.invariant-loop-number
invariant-loop-number l = AreFootprints (record { model = l.model; classes = l.classes }) l.number
    l.list
