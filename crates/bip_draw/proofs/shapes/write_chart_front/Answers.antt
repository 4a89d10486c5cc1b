use Rattle.bip_draw.specs.Shapes.{chart_front, style_text}
use Rattle.bip_draw.proofs.PartLemmas.{three_parts}
use Rattle.bip_draw.proofs.shapes.write_chart_front.Goals as goal

pub returns : goal.returns
unfolding chart_front
returns c =
    rw (c.in_ok-write_style.ensures, c.in_ok-write_between-2.ensures, c.in_ok-write_between.ensures)
    (three_parts c.args.text.now.items _ _ style_text)
