use Rattle.std.proofs.Common.{◌<◌, length, refl, arith}
use Rattle.bip_model.proofs.AboveLists.{AreListsLookedAt-more}
use Rattle.bip_model.proofs.ListLemmas.{read_row}
use Rattle.bip_model.proofs.parts.System.lists_looked_at.Goals as goal

pub list_looked_at-requires-clause-above : goal.list_looked_at-requires-clause-above
list_looked_at-requires-clause-above c =
    let i = c.loop-number.number in
    let within : i < length c.args.self.now.interactions = omega arith in
    let at = read_row c.args.above.now c.args.above.now i c.index-above-number.result refl
    (rw c.requires.above.each within) c.index-above-number.is in
    rw (c.as_slice.ensures, at) (c.requires.above.list i within)

pub loop-number-preserved : goal.loop-number-preserved
loop-number-preserved c =
    rw (c.in_ok-push.ensures.ok, c.of.ensures)
    (AreListsLookedAt-more c.args.self.now c.loop-number.number c.loop-number.lists
    c.in_ok-list.list.items c.loop-number.invariant c.in_ok-list.ensures)
