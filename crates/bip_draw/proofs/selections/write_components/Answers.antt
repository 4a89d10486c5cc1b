use Rattle.std.proofs.Common.{refl, ◌∙◌}
use Rattle.bip_reader.proofs.WritingLemmas.{more_written}
use Rattle.bip_draw.specs.Selections.{component_part}
use Rattle.bip_draw.proofs.selections.write_components.Goals as goal

pub loop-comp-preserved : goal.loop-comp-preserved
loop-comp-preserved c = c.in_ok-write_component_part.ensures
    ∙ more_written (component_part c.args.cut.now.model.now c.args.cut.now.classes.now
    c.args.cut.now.selection.now) c.loop-comp.comp c.args.text.now.items
    c.loop-comp.text.items _ c.loop-comp.invariant refl
