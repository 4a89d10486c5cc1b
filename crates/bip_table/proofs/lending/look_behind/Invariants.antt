use Rattle.std.proofs.Common.{◌≡◌, drop}
use Rattle.std.specs.Prelude.{Some}
use Rattle.bip_table.specs.Lending.{met}
use Rattle.bip_table.proofs.lending.look_behind.Given as goal

abbrev pub invariant-loop-want : goal.invariant-loop-want
invariant-loop-want l = met l.rows l.wants (Some l.stale) ≡ met l.rows (drop l.want-index l.wants)
    (Some l.stale)
