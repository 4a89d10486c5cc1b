use Rattle.std.proofs.Common.{sym}
use Rattle.bip_tell.proofs.LineLemmas.{placed_one}
use Rattle.bip_tell.specs.Lines.{first_line}
use Rattle.bip_tell.proofs.lines.tell_first.Goals as goal

pub loop-place-preserved : goal.loop-place-preserved
loop-place-preserved g c =
    placed_one (first_line c.args.world.now.plan) c.loop-place.place c.in-Some.message
    c.args.world.now.mail _ c.loop-place.text.items c.write_first.new.text.items
    (rw (← c.mails-place-end.ensures) c.loop-place-test.true)
    (sym c.in-Some.ensures) (rw c.plan-plan.ensures at c.in_ok-write_first.ensures)
    c.loop-place.invariant
