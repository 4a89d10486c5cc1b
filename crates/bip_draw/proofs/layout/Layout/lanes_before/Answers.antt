use Rattle.bip_draw.proofs.LayoutLemmas.{all_lanes}
use Rattle.bip_draw.proofs.layout.Layout.lanes_before.Goals as goal

pub returns-then-is_none-clause-before : goal.returns-then-is_none-clause-before
returns-then-is_none-clause-before c =
    all_lanes c.args.self.now.only c.args.comp (rw c.if-is_none.true at c.is_none.ensures)
