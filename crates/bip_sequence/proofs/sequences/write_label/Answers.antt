use Rattle.bip_sequence.proofs.TextLemmas.{four_parts}
use Rattle.bip_sequence.specs.Sequences.{label_text}
use Rattle.bip_sequence.proofs.sequences.write_label.Goals as goal

pub returns : goal.returns
unfolding label_text
returns c =
    rw (
      c.in_ok-write_words.ensures,
      c.in_ok-write_with_number.ensures,
      c.in_ok-write_paired-2.ensures,
      c.in_ok-write_paired.ensures,
      c.width.ensures,
    )
    (four_parts c.args.text.now.items _ _ _ _)
