use Rattle.bip_model.proofs.AboveLists.{AreListsAbove-more, list-above}
use Rattle.bip_model.proofs.priorities.Above.lists.Goals as goal

pub loop-number-preserved : goal.loop-number-preserved
loop-number-preserved c =
    rw (c.in_ok-push.ensures.ok, c.of.ensures)
    (AreListsAbove-more c.args.self.now.pairs.now c.loop-number.number c.loop-number.lists
    c.in_ok-list.list.items c.loop-number.invariant
    (rw c.in_ok-list.ensures (list-above c.args.self.now.pairs.now c.args.self.now.count
    c.loop-number.number _ c.requires.known
    (λ b. c.requires.set c.loop-number.number b c.loop-number-test.true))))
