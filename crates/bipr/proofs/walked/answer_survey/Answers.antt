use Rattle.bipr.specs.Walked.{surveyed}
use Rattle.bipr.proofs.walked.answer_survey.Goals as goal

pub returns : goal.returns
returns c =
    rw (c.said.ensures, c.in_ok-text.ensures, c.model.ensures)
    (surveyed c.args.seeds c.in_ok-tally.tally c.in_ok-tally.ensures)
