use Rattle.bip_sequence.proofs.TextLemmas.{four_parts}
use Rattle.bip_sequence.specs.Styles.{line_style}
use Rattle.bip_sequence.proofs.styles.write_line_style.Goals as goal

pub returns : goal.returns
unfolding line_style
returns c =
    rw (
      c.in_ok-write_part-4.ensures,
      c.in_ok-write_part-3.ensures,
      c.in_ok-write_part-2.ensures,
      c.in_ok-write_part.ensures,
    )
    (four_parts c.args.text.now.items _ _ _ _)
