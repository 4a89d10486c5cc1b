use Rattle.std.proofs.Common.{◌≡◌, drop}
use Rattle.bip_table.specs.Rows.{used_at}
use Rattle.bip_table.proofs.closing.number_in.Given as goal

abbrev pub invariant-loop-row : goal.invariant-loop-row
invariant-loop-row l = used_at l.rows l.comp.0 ≡ used_at (drop l.row-index l.rows) l.comp.0
