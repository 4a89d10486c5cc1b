use Rattle.std.proofs.Common.{refl, ◌∙◌}
use Rattle.bip_reader.proofs.WritingLemmas.{more_written}
use Rattle.bip_draw.specs.Selections.{class_part}
use Rattle.bip_draw.proofs.selections.write_each_class.Goals as goal

pub loop-number-preserved : goal.loop-number-preserved
loop-number-preserved c = c.in_ok-write_class_part.ensures
    ∙ more_written (class_part c.args.cut.now.model.now c.args.cut.now.classes.now
    c.args.cut.now.selection.now) c.loop-number.number c.args.text.now.items
    c.loop-number.text.items _ c.loop-number.invariant refl
