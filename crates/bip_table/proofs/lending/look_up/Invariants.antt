use Rattle.std.proofs.Common.{◌≡◌, drop}
use Rattle.std.specs.Prelude.{None}
use Rattle.bip_table.specs.Lending.{met}
use Rattle.bip_table.proofs.lending.look_up.Given as goal

abbrev pub invariant-loop-at : goal.invariant-loop-at
invariant-loop-at l = met l.rows l.wants None ≡ met l.rows (drop l.at l.wants) None
