use Rattle.std.proofs.Common.{rules}
use Rattle.bip_model.proofs.DraftLemmas.{end_keeps}
use Rattle.bip_model.proofs.building.Builder.end.Goals as goal

pub invariant_of-self-in_default-push : goal.invariant_of-self-in_default-push
invariant_of-self-in_default-push c = end_keeps c.self.inside.draft _ c.self.invariant
    (rw c.self.view_is c.requires) (search rules)
