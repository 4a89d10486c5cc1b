use Rattle.std.proofs.Common.{refl}
use Rattle.bipr.proofs.EndingLemmas.{outcomes_quiet}
use Rattle.bipr.proofs.invocations.Invocation.replay.Goals as goal

pub returns-clause-says : goal.returns-clause-says
returns-clause-says g c =
    outcomes_quiet g.E.Stream.writes _ _ c.answer_viewed.result _ refl
    (rw c.verdict_view-view.ensures at c.answer_viewed.ensures)
