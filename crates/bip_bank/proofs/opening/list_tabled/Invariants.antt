use Rattle.bip_model.specs.declared.numbering.CompId.{CompId}
use Rattle.bip_partition.specs.Plans.{IsTabled}
use Rattle.bip_partition.specs.Tables.{IsListBelow, comp}
use Rattle.bip_bank.proofs.opening.list_tabled.Given as goal

abbrev pub invariant-loop-number : goal.invariant-loop-number
invariant-loop-number l = IsListBelow (λ (c : CompId). c.0) comp (IsTabled l.plan) l.number l.list
