use Rattle.std.proofs.Common.{sym}
use Rattle.bip_tell.proofs.LineLemmas.{placed_one}
use Rattle.bip_tell.specs.Lines.{one_put}
use Rattle.bip_tell.proofs.lines.write_put.Goals as goal

pub loop-place-preserved : goal.loop-place-preserved
loop-place-preserved g c =
    placed_one (one_put c.args.plan.now) c.loop-place.place c.in-Some.message c.args.world.now.mail _
    c.loop-place.text.items c.write_one_put.new.text.items
    (rw (← c.mails-place-end.ensures) c.loop-place-test.true)
    (sym c.in-Some.ensures) c.in_ok-write_one_put.ensures c.loop-place.invariant
