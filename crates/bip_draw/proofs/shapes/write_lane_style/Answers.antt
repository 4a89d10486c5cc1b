use Rattle.bip_draw.specs.Shapes.{lane_style}
use Rattle.bip_draw.proofs.PartLemmas.{three_parts}
use Rattle.bip_draw.proofs.shapes.write_lane_style.Goals as goal

pub returns : goal.returns
unfolding lane_style
returns c =
    rw (c.in_ok-write_part-3.ensures, c.in_ok-write_part-2.ensures, c.in_ok-write_part.ensures)
    (three_parts c.args.text.now.items _ _ _)
