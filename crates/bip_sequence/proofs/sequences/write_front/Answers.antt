use Rattle.bip_sequence.proofs.TextLemmas.{three_parts}
use Rattle.bip_sequence.specs.Sequences.{picture_front}
use Rattle.bip_sequence.proofs.sequences.write_front.Goals as goal

pub returns : goal.returns
unfolding picture_front
returns c =
    rw (
      c.in_ok-write_groups.ensures,
      c.in_ok-write_sequence_style.ensures,
      c.in_ok-write_paired.ensures,
      c.width.ensures,
    )
    (three_parts c.args.text.now.items _ _ _)
