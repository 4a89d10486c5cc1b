use Rattle.std.proofs.Common.{◌≡◌, drop}
use Rattle.bip_table.specs.Rows.{has_row}
use Rattle.bip_table.proofs.closing.have_one_of.Given as goal

abbrev pub invariant-loop-row : goal.invariant-loop-row
invariant-loop-row l = has_row l.rows l.comp.0 ≡ has_row (drop l.row-index l.rows) l.comp.0
