use Rattle.std.proofs.lemmas.Result.{err_from_is_err_and}
use Rattle.bip_reader.specs.Reading.{draft_with}
use Rattle.bip_reader.proofs.AnswerLemmas.{answered, is_said_to_draft}
use Rattle.bip_reader.proofs.reading.Reading.take.Goals as goal

pub returns-in_err-build-in-Some : goal.returns-in_err-build-in-Some
returns-in_err-build-in-Some c =
    let p = err_from_is_err_and c.from_residual-in_err-build-in-Some.result
    c.from_residual-in_err-build-in-Some.ensures.1 in
    rw (
      p.1,
      p.2,
      is_said_to_draft c.args.statement c.args.self.now c.in_default.not-Header
          c.in_default.not-Class,
      c.in-Some.is,
    )
    (answered c.args.self.now (draft_with c.args.statement c.in-Some.builder)
    c.in_err-build-in-Some.field-0.0 c.in_err-build-in-Some.ensures)
