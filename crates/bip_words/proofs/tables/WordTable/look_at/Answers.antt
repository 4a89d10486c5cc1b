use Rattle.std.proofs.Common.{arith, add-one, ap, sym, ◌∙◌, length}
use Rattle.bip_words.proofs.StepLemmas.{looks, row_back}
use Rattle.bip_words.specs.Tables.{Tabled}
use Rattle.bip_words.proofs.tables.WordTable.look_at.Goals as goal

pub load-requires : goal.load-requires
load-requires c =
    let t = c.self.inside in
    let is = c.self.view_is in
    let row = c.requires.row in
    let same = ap (λ (v : Tabled). length v.rows) is in
    let count = c.self.invariant.1 in (
      c.requires.seat ∙ sym (ap (λ (v : Tabled). v.id) is),
      omega (arith, row, same, count),
      rw (c.self.invariant.0, add-one c.args.row) (looks t.rows _ _ c.args.row _),
    )

pub returns-clause-noted : goal.returns-clause-noted
returns-clause-noted c = rw (row_back c.args.row) at c.load.ensures.2.0

pub returns-clause-most : goal.returns-clause-most
returns-clause-most c = rw (row_back c.args.row) at c.load.ensures.2.1
