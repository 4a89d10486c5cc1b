use Rattle.std.proofs.Common.{List, MutBor, subst, sym}
use Rattle.std.specs.List.Sorted.{IsStrictlyIncreasing}
use Rattle.bip_table.specs.Rows.{row_components}
use Rattle.bip_table.specs.declared.rows.Row.{Row}
use Rattle.bip_table.proofs.lending.RowLender.seek.Goals as goal

pub put_rows-requires : goal.put_rows-requires
put_rows-requires c =
    subst (λ (rows : MutBor (List Row)). IsStrictlyIncreasing (row_components rows.now))
    (sym c.take_rows-rows.ensures.rows) c.args.self.now.rising
