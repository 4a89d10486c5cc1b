use Rattle.bip_tell.proofs.LineLemmas.{if_err}
use Rattle.bip_sequence.proofs.notes.note_event.Goals as goal

pub returns-clause-noted : goal.returns-clause-noted
returns-clause-noted g c = (
  c.watch_event-did.result,
  record {
    steps = c.watch_event-did.ensures.done;
    notes = rw (
      ← c.handed_on-handed.ensures,
      ← c.handed_brief-brief.ensures,
      ← c.mails.ensures,
      ← c.count_left-left.ensures,
    )
        c.in_ok-note.ensures.noted;
  },
  c.watch_event-did.ensures.counted,
)

pub returns-in_err-note-clause-unnoted : goal.returns-in_err-note-clause-unnoted
returns-in_err-note-clause-unnoted g c = if_err c.from_residual.result _
    (record {
      did = c.watch_event-did.result;
      steps = c.watch_event-did.ensures.done;
      sums = c.watch_event-did.ensures.counted;
    })
