use Rattle.std.proofs.Common.{◌++◌, ◌∙◌, map}
use Rattle.std.specs.Prelude.{codes}
use Rattle.bip_reader.specs.Writing.{participant_word, shared_word, words_of_assignments}
use Rattle.bip_reader.specs.Writing.{words_of_guard}
use Rattle.bip_reader.proofs.WritingLemmas.{written_line}
use Rattle.bip_reader.proofs.writing.write_interaction.Goals as goal

pub returns-clause-text : goal.returns-clause-text
returns-clause-text c =
    let m = c.args.model.now in
    let i = c.args.interaction.now in
    c.in_ok-push.ensures.items
    ∙ rw (
      c.in_ok-write_clauses.ensures.text,
      c.in_ok-write_participants.ensures,
      c.in_ok-write_word.ensures,
      c.in_ok-extend_from_slice.ensures.items,
      c.as_bytes.ensures.bytes,
      c.as_slice-participants.ensures,
      c.as_slice.ensures,
      c.as_slice-2.ensures,
    )
    (written_line c.args.text.now.items (codes "interaction") c.args.name.now
    (map (participant_word m) i.participants)
    (words_of_guard (shared_word m i.participants) i.guard ++ words_of_assignments
    (shared_word m i.participants) i.transfer))
