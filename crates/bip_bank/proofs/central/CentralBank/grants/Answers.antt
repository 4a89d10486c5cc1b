use Rattle.std.proofs.Common.{List, ap, ◌∙◌}
use Rattle.bip_model.specs.Grants.{used_by}
use Rattle.bip_model.specs.declared.grants.Grant.{Grant}
use Rattle.bip_bank.proofs.central.CentralBank.grants.Goals as goal

pub returns-clause-unused : goal.returns-clause-unused
returns-clause-unused c = λ none. rw (← c.self.view_is)
    (c.self.invariant.explained ∙ ap (λ (gs : List Grant). used_by (λ k. c.self.inside.base) gs)
    (rw c.journal.ensures.journal at none))
