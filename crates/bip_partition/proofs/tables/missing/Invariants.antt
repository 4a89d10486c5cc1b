use Rattle.std.proofs.Common.{◌≡◌, ℕ, ◌<◌, List, None, get_or}
use Rattle.bip_model.specs.declared.numbering.CompId.{CompId}
use Rattle.bip_partition.specs.Tables.{outside_beside}
use Rattle.bip_partition.proofs.tables.missing.Given as goal

abbrev pub invariant-loop-touched : goal.invariant-loop-touched
invariant-loop-touched l = (k : ℕ) (d : List CompId) → k < l.touched-index
    → outside_beside l.set (get_or l.touches k d) ≡ None
