use Rattle.bip_table.proofs.RowLemmas.{no_one, place_used}
use Rattle.bip_table.proofs.rows.used_of.Goals as goal

pub returns : goal.returns
returns c = rw c.in-Some.ensures.some (place_used c.args.rows.now c.args.comp.0 no_one
    c.requires.row)
