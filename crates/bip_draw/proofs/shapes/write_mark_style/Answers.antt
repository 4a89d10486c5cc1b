use Rattle.bip_draw.specs.Shapes.{mark_style, text_style}
use Rattle.bip_draw.proofs.PartLemmas.{three_parts}
use Rattle.bip_draw.proofs.shapes.write_mark_style.Goals as goal

pub returns : goal.returns
unfolding mark_style
returns c =
    rw (c.in_ok-write_text_style.ensures, c.in_ok-write_part-2.ensures, c.in_ok-write_part.ensures)
    (three_parts c.args.text.now.items _ _ text_style)
