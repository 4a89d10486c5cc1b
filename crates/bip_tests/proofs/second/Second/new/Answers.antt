use Rattle.std.proofs.Common.{ap}
use Rattle.bip_tests.proofs.SecondLemmas.{lacking_as}
use Rattle.bip_tests.proofs.second.Second.new.Goals as goal

pub returns-clause-content : goal.returns-clause-content
returns-clause-content c = ap (lacking_as c.in_ok-lacks.lacks.items) c.in_ok-central.ensures.content
