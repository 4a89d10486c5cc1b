use Rattle.std.proofs.Common.{◌<◌, length}
use Rattle.bip_model.proofs.ListLemmas.{read_row}
use Rattle.bip_model.proofs.models.Model.looks.Goals as goal

pub returns-clause-looks : goal.returns-clause-looks
returns-clause-looks c =
    let within : c.args.inter.0 < length c.self.inside.system.interactions =
    rw c.self.view_is c.requires in
    let lists = c.self.invariant.lists_looked_at in
    let at = read_row c.self.inside.looks c.as_slice.result.now c.args.inter.0
    c.index-as_slice-inter.result c.as_slice.ensures
    (rw lists.each within) c.index-as_slice-inter.is in
    rw (c.as_slice-2.ensures, at, ← c.self.view_is) (lists.list c.args.inter.0 within)
