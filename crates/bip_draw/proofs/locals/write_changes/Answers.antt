use Rattle.std.proofs.Common.{refl, ◌∙◌}
use Rattle.bip_reader.proofs.WritingLemmas.{more_written}
use Rattle.bip_model.specs.States.{state_of}
use Rattle.bip_draw.specs.Locals.{change_part}
use Rattle.bip_draw.proofs.locals.write_changes.Goals as goal

pub loop-comp-preserved : goal.loop-comp-preserved
loop-comp-preserved c = c.in_ok-write_change_part.ensures
    ∙ more_written (change_part c.args.layout.now c.args.model.now (state_of c.args.before.now)
    (state_of c.args.after.now)) c.loop-comp.comp c.args.text.now.items c.loop-comp.text.items _
    c.loop-comp.invariant refl
