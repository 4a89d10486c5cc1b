use Rattle.std.proofs.Common.{arith, add-one, refl, ap, sym, ◌∙◌, length}
use Rattle.bip_words.proofs.StepLemmas.{row_back, takes}
use Rattle.bip_words.specs.Tables.{Tabled}
use Rattle.bip_words.proofs.tables.WordTable.claim_at.Goals as goal

pub compare_exchange_with-requires : goal.compare_exchange_with-requires
compare_exchange_with-requires c =
    let t = c.self.inside in
    let is = c.self.view_is in
    let row = c.requires.row in
    let same = ap (λ (v : Tabled). length v.rows) is in
    let count = c.self.invariant.1 in (
      c.requires.seat ∙ sym (ap (λ (v : Tabled). v.id) is),
      omega (arith, row, same, count),
      rw (c.self.invariant.0, add-one c.args.row)
          (takes t.rows _ _ c.args.row c.args.used c.args.request.now _
          (omega (arith, row, same)) c.requires.idle),
    )

pub returns-clause-hit : goal.returns-clause-hit
returns-clause-hit c e = rw (row_back c.args.row) at
    (c.compare_exchange_with.ensures.2.0 e c.args.request.now refl)

pub returns-clause-miss : goal.returns-clause-miss
returns-clause-miss c e = rw (row_back c.args.row) at (c.compare_exchange_with.ensures.2.1 e)
