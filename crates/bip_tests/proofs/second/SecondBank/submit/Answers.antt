use Rattle.std.proofs.Common.{ap, ◌∙◌}
use Rattle.bip_bank.specs.Banks.{content_of, with_request}
use Rattle.bip_tests.specs.Second.{KeptSecond, kept_second}
use Rattle.bip_tests.proofs.SecondLemmas.{lacking_as}
use Rattle.bip_tests.proofs.second.SecondBank.submit.Goals as goal

pub returns-in-Ok-clause-ok : goal.returns-in-Ok-clause-ok
returns-in-Ok-clause-ok c =
    ap (lacking_as c.self.inside.lacks.items) c.in-Ok.ensures.ok
    ∙ ap (λ (k : KeptSecond). with_request c.args.request (content_of (kept_second k)))
    c.self.view_is

pub returns-in-Err-clause-err : goal.returns-in-Err-clause-err
returns-in-Err-clause-err c =
    ap (lacking_as c.self.inside.lacks.items) c.in-Err.ensures.err
    ∙ ap (λ (k : KeptSecond). content_of (kept_second k)) c.self.view_is
