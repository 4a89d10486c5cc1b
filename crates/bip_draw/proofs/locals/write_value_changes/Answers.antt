use Rattle.std.proofs.Common.{refl, ◌∙◌}
use Rattle.bip_reader.proofs.WritingLemmas.{more_written}
use Rattle.bip_model.specs.States.{state_of}
use Rattle.bip_draw.specs.Locals.{value_change}
use Rattle.bip_draw.proofs.locals.write_value_changes.Goals as goal

pub loop-number-preserved : goal.loop-number-preserved
loop-number-preserved c = c.in_ok-write_value_change.ensures
    ∙ more_written (value_change c.args.layout.now c.args.component.now c.args.comp
    (state_of c.args.before.now) (state_of c.args.after.now)) c.loop-number.number
    c.args.text.now.items c.loop-number.text.items _ c.loop-number.invariant refl
