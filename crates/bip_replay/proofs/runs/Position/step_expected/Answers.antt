use Rattle.bip_replay.proofs.NextLemmas.{expected_is_next}
use Rattle.bip_replay.specs.Runs.{standing_of}
use Rattle.bip_replay.proofs.runs.Position.step_expected.Goals as goal

pub returns-clause-next : goal.returns-clause-next
returns-clause-next c = λ g is. expected_is_next
    (standing_of c.args.self.now) c.args.inter.0 g c.in_ok-may_run.ensures.may is
