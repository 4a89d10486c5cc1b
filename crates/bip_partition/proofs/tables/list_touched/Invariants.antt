use Rattle.bip_model.specs.declared.numbering.CompId.{CompId}
use Rattle.bip_partition.specs.Plans.{Touches}
use Rattle.bip_partition.specs.Tables.{IsListBelow, comp}
use Rattle.bip_partition.proofs.tables.list_touched.Given as goal

abbrev pub invariant-loop-number : goal.invariant-loop-number
invariant-loop-number l = IsListBelow (λ (c : CompId). c.0) comp
    (Touches l.model l.inter.0) l.number l.list
