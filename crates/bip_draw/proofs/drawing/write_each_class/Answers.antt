use Rattle.std.proofs.Common.{refl, ◌∙◌}
use Rattle.bip_reader.proofs.WritingLemmas.{more_written}
use Rattle.bip_draw.specs.Drawing.{class_text}
use Rattle.bip_draw.proofs.drawing.write_each_class.Goals as goal

pub loop-number-preserved : goal.loop-number-preserved
loop-number-preserved c = c.in_ok-write_class.ensures
    ∙ more_written (class_text c.args.classes.now) c.loop-number.number c.args.text.now.items
    c.loop-number.text.items _ c.loop-number.invariant refl
