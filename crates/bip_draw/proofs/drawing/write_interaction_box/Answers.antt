use Rattle.std.proofs.Common.{◌≡◌, ℕ, List, ◌++◌, ◌∙◌, append_assoc}
use Rattle.bip_model.specs.Partitions.{class_in}
use Rattle.bip_reader.specs.Writing.{shared_word}
use Rattle.bip_draw.specs.Clauses.{clauses_text}
use Rattle.bip_draw.specs.Drawing.{box_of, box_text, interaction_node}
use Rattle.bip_draw.proofs.drawing.write_interaction_box.Goals as goal

four_parts : (o a b d e : List ℕ) → (((o ++ a) ++ b) ++ d) ++ e ≡ o ++ (a ++ (b ++ (d ++ e)))
four_parts o a b d e = append_assoc ((o ++ a) ++ b) d e
    ∙ (append_assoc (o ++ a) b (d ++ e) ∙ append_assoc o a (b ++ (d ++ e)))

pub returns : goal.returns
unfolding box_of
returns c =
    let m = c.args.model.now in
    let i = c.args.interaction.now in
    rw (
      c.in_ok-write_clauses.ensures,
      c.in_ok-extend_from_slice.ensures.items,
      c.in_ok-write_box.ensures,
      c.in_ok-write_interaction_node.ensures,
      c.class_of.ensures,
      c.as_bytes.ensures.bytes,
      c.as_slice-participants.ensures,
      c.as_slice.ensures,
      c.as_slice-2.ensures,
    )
    (four_parts c.args.text.now.items (interaction_node c.args.inter.0)
    (box_text (class_in c.args.classes.now c.args.inter.0)) c.args.name.now
    (clauses_text (shared_word m i.participants) i.guard i.transfer))
