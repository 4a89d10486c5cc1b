use Rattle.std.proofs.Common.{◌<◌, length}
use Rattle.bip_model.proofs.ListLemmas.{read_row}
use Rattle.bip_partition.proofs.plans.Plan.classes_of.Goals as goal

pub returns : goal.returns
returns c =
    let within : c.args.comp.0 < length c.self.inside.model.components =
    rw (← c.self.view_is) at c.requires in
    let lists = c.self.invariant.tables.lists_touching in
    let at = read_row c.self.inside.tables.touching c.as_slice.result.now c.args.comp.0
    c.index-as_slice-comp.result c.as_slice.ensures
    (rw lists.each within) c.index-as_slice-comp.is in
    rw (c.as_slice-2.ensures, at, ← c.self.view_is) (lists.list c.args.comp.0 within)
