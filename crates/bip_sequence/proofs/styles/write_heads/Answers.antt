use Rattle.bip_sequence.proofs.TextLemmas.{five_parts}
use Rattle.bip_sequence.specs.Styles.{heads_text}
use Rattle.bip_sequence.proofs.styles.write_heads.Goals as goal

pub returns : goal.returns
unfolding heads_text
returns c =
    rw (
      c.in_ok-write_part-5.ensures,
      c.in_ok-write_part-4.ensures,
      c.in_ok-write_part-3.ensures,
      c.in_ok-write_part-2.ensures,
      c.in_ok-write_part.ensures,
    )
    (five_parts c.args.text.now.items _ _ _ _ _)
