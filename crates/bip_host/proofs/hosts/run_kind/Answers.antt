use Rattle.bip_host.proofs.ReportLemmas.{ended_by, figures_of}
use Rattle.bip_host.proofs.hosts.run_kind.Goals as goal

pub returns-in-Ok-clause-figures : goal.returns-in-Ok-clause-figures
returns-in-Ok-clause-figures g c =
    figures_of c.args.plan.now c.args.asked c.in-Ok.totals _ _ c.report.result
    c.in-Ok.ensures c.requires.threads c.report.ensures.all

pub returns-in-Ok-clause-ended : goal.returns-in-Ok-clause-ended
returns-in-Ok-clause-ended g c =
    ended_by c.args.asked c.in-Ok.totals _ _ c.report.result c.in-Ok.ensures
    c.report.ensures.all
