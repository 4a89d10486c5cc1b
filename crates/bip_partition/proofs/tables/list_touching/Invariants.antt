use Rattle.bip_model.specs.declared.numbering.ClassId.{ClassId}
use Rattle.bip_partition.specs.Plans.{ClassTouches}
use Rattle.bip_partition.specs.Tables.{IsListBelow}
use Rattle.bip_partition.proofs.tables.list_touching.Given as goal

abbrev pub invariant-loop-number : goal.invariant-loop-number
invariant-loop-number l =
    IsListBelow (λ (k : ClassId). k.0) (λ n. record { 0 = n })
    (λ k. ClassTouches (record { model = l.model; classes = l.classes }) k l.comp.0) l.number
    l.list
