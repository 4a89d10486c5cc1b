use Rattle.bip_sequence.proofs.sequences.chart_events.Goals as goal

pub note_events-requires-clause-spelled : goal.note_events-requires-clause-spelled
note_events-requires-clause-spelled g c =
    rw c.in_ok-notes.ensures.plan c.requires.spelled

pub returns-clause-charted : goal.returns-clause-charted
returns-clause-charted g c =
    let noted = c.in_ok-report.ensures.noted in (
      noted.0,
      record {
        first = c.in_ok-notes.notes;
        last = c.note_events.new.notes;
        begun = c.in_ok-notes.ensures;
        noted = noted.1;
        drawn = c.in_ok-text.ensures;
      },
      noted.2,
    )
