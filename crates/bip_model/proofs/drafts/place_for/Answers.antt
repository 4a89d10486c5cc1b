use Rattle.std.proofs.Common.{rules}
use Rattle.bip_model.specs.Priorities.{is_before}
use Rattle.bip_model.proofs.PriorityLemmas.{place_or_end}
use Rattle.bip_model.proofs.drafts.place_for.Goals as goal

pub returns : goal.returns
returns c = rw (← place_or_end (is_before c.args.pair) c.args.pairs.now) (search rules)
