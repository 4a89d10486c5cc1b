use Rattle.std.proofs.Common.{refl, ◌∙◌}
use Rattle.bip_reader.proofs.WritingLemmas.{more_written}
use Rattle.bip_draw.specs.Drawing.{variable_text}
use Rattle.bip_draw.proofs.drawing.write_variables.Goals as goal

pub loop-number-preserved : goal.loop-number-preserved
loop-number-preserved c = c.in_ok-write_variable.ensures
    ∙ more_written (variable_text c.args.component.now) c.loop-number.number c.args.text.now.items
    c.loop-number.text.items _ c.loop-number.invariant refl
