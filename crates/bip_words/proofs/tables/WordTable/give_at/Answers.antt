use Rattle.std.proofs.Common.{arith, add-one, ap, sym, ◌∙◌, subst, List, ℕ, length}
use Rattle.bip_words.proofs.StepLemmas.{gives, row_back}
use Rattle.bip_words.specs.Rows.{IsRowOf, row_comps}
use Rattle.bip_words.specs.Tables.{Tabled}
use Rattle.bip_words.proofs.tables.WordTable.give_at.Goals as goal

pub store-requires : goal.store-requires
store-requires c =
    let t = c.self.inside in
    let is = c.self.view_is in
    let row = c.requires.row in
    let same = ap (λ (v : Tabled). length v.rows) is in
    let count = c.self.invariant.1 in
    let comps = sym (ap (λ (v : Tabled). row_comps v.rows) is) in
    let m = c.requires.claim in (
      c.requires.seat ∙ sym (ap (λ (v : Tabled). v.id) is),
      omega (arith, row, same, count),
      rw (c.self.invariant.0, add-one c.args.row)
          (gives t.rows _ _ c.args.row m.2 c.args.number m.0 m.1 _ m.3 m.4
          (subst (λ (cs : List ℕ). IsRowOf cs c.args.row m.2) comps m.5) m.6),
    )

pub returns-clause-given : goal.returns-clause-given
returns-clause-given c = rw (row_back c.args.row) at c.store.ensures.2
