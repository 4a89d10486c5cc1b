use Rattle.std.proofs.Common.{◌<◌, [], get_or, length, inl, inr}
use Rattle.std.proofs.lemmas.Bool.{cases_lt}
use Rattle.bip_model.proofs.ListLemmas.{read_row}
use Rattle.bip_partition.proofs.plans.Plan.touches.Goals as goal

pub returns-clause-touches : goal.returns-clause-touches
returns-clause-touches c =
    let within : c.args.inter.0 < length c.self.inside.model.interactions =
    rw (← c.self.view_is) at c.requires in
    let lists = c.self.invariant.tables.lists_touched in
    let at = read_row c.self.inside.tables.touches c.as_slice.result.now c.args.inter.0
    c.index-as_slice-inter.result c.as_slice.ensures
    (rw lists.each within) c.index-as_slice-inter.is in
    rw (c.as_slice-2.ensures, at, ← c.self.view_is) (lists.list c.args.inter.0 within)

pub returns-clause-few : goal.returns-clause-few
returns-clause-few c =
    let within : c.args.inter.0 < length c.self.inside.model.interactions =
    rw (← c.self.view_is) at c.requires in
    let lists = c.self.invariant.tables.lists_touched in
    let at = read_row c.self.inside.tables.touches c.as_slice.result.now c.args.inter.0
    c.index-as_slice-inter.result c.as_slice.ensures
    (rw lists.each within) c.index-as_slice-inter.is in
    rw (c.as_slice-2.ensures, at) (elim (cases_lt 32
    (length (get_or c.self.inside.tables.touches c.args.inter.0 []))) [
      | inl many ↦ absurd (c.self.invariant.few c.args.inter.0
          (record {
            list = get_or c.self.inside.tables.touches c.args.inter.0 [];
            listed = lists.list c.args.inter.0 within;
            many = many;
          }))
      | inr few ↦ few
    ])
