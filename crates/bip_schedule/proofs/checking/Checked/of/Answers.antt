use Rattle.std.proofs.Common.{length, refl}
use Rattle.bip_schedule.proofs.FigureLemmas.{figures_of_one}
use Rattle.bip_schedule.proofs.checking.Checked.of.Goals as goal

pub returns-clause-checked : goal.returns-clause-checked
returns-clause-checked c = (
  c.in_ok-is_stuck.is_stuck,
  c.in_ok-is_stuck.ensures.run,
  figures_of_one (length c.args.model.now.interactions) _ _ refl c.of.ensures,
)
