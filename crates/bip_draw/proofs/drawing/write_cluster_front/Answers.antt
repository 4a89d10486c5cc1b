use Rattle.std.specs.Prelude.{codes}
use Rattle.std.specs.Fmt.{decimal}
use Rattle.bip_draw.specs.Drawing.{cluster_front}
use Rattle.bip_draw.proofs.PartLemmas.{three_parts}
use Rattle.bip_draw.proofs.drawing.write_cluster_front.Goals as goal

pub returns : goal.returns
unfolding cluster_front
returns c =
    rw (
      c.in_ok-extend_from_slice-2.ensures.items,
      c.in_ok-write_number.ensures,
      c.in_ok-extend_from_slice.ensures.items,
    )
    (three_parts c.args.text.now.items (codes "subgraph cluster_c") (decimal c.args.comp)
    (codes " {\nlabel=\""))
