use Rattle.bipr.specs.Commands.{wordless, worded}
use Rattle.bipr.proofs.EndingLemmas.{ends_keeping}
use Rattle.bipr.proofs.end_program.Goals as goal

pub returns-in-Ok : goal.returns-in-Ok
returns-in-Ok g c =
    worded _ c.in-Ok.ensures.ok (rw (← c.as_slice.ensures.value) c.carry_out.ensures)

pub returns-in-Err : goal.returns-in-Err
returns-in-Err g c =
    wordless c.in-Err.error c.in-Err.ensures.err (ends_keeping _ _ _ _ _ c.refuse_words.ensures)
