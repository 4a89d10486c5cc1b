use Rattle.std.proofs.Common.{◌∙◌}
use Rattle.bip_core.proofs.machines.recall_unused.Goals as goal

pub returns : goal.returns
returns g c = λ none. c.grants-granted.ensures.unused (c.grants-granted.ensures.grants ∙ none)
