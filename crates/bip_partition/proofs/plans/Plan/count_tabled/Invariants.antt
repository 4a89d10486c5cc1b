use Rattle.std.proofs.Common.{◌≡◌, ◌≤◌, List, length}
use Rattle.bip_model.specs.declared.numbering.CompId.{CompId}
use Rattle.bip_partition.specs.Plans.{IsTabled}
use Rattle.bip_partition.specs.Tables.{IsListBelow, comp}
use Rattle.bip_partition.proofs.plans.Plan.count_tabled.Given as goal

abbrev pub invariant-loop-number : goal.invariant-loop-number
invariant-loop-number l =
    (list : List CompId) × IsListBelow (λ (c : CompId). c.0) comp (IsTabled l.self) l.number list
    × (l.count ≡ length list) × (l.count ≤ l.number)
