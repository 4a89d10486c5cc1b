use Rattle.bipr.proofs.EndingLemmas.{ends_keeping}
use Rattle.bipr.proofs.invocations.Invocation.end.Goals as goal

pub returns-in-Err : goal.returns-in-Err
returns-in-Err g c = rw c.in-Err.is (ends_keeping _ _ _ _ _ c.end_stopped.ensures)
