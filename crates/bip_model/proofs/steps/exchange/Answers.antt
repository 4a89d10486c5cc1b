use Rattle.std.proofs.Common.{sym}
use Rattle.bip_model.specs.States.{state_of}
use Rattle.bip_model.proofs.ListLemmas.{empty_is}
use Rattle.bip_model.proofs.StepLemmas.{told_same}
use Rattle.bip_model.proofs.steps.exchange.Goals as goal

pub returns-then-is_empty : goal.returns-then-is_empty
returns-then-is_empty c = λ k.
    rw (empty_is c.args.interaction.now.transfer c.if-is_empty.ensures)
    (sym (told_same (state_of c.args.state.now) c.args.interaction.now.participants k))
