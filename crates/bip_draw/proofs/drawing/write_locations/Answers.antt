use Rattle.std.proofs.Common.{refl, ◌∙◌}
use Rattle.bip_reader.proofs.WritingLemmas.{more_written}
use Rattle.bip_draw.specs.Drawing.{location_text}
use Rattle.bip_draw.proofs.drawing.write_locations.Goals as goal

pub loop-number-preserved : goal.loop-number-preserved
loop-number-preserved c = c.in_ok-write_location.ensures
    ∙ more_written (location_text c.args.comp c.args.component.now) c.loop-number.number
    c.args.text.now.items c.loop-number.text.items _ c.loop-number.invariant refl
