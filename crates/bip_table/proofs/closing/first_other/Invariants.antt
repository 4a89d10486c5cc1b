use Rattle.std.proofs.Common.{take}
use Rattle.std.specs.Prelude.{All}
use Rattle.bip_table.specs.Closing.{IsAsTold}
use Rattle.bip_table.specs.declared.rows.Row.{Row}
use Rattle.bip_table.proofs.closing.first_other.Given as goal

abbrev pub invariant-loop-row : goal.invariant-loop-row
invariant-loop-row g l = All (λ (r : Row). IsAsTold l.opening l.passes l.table r.comp.0)
    (take l.row-index l.rows)
