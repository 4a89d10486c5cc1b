use Rattle.std.proofs.Common.{rules}
use Rattle.bip_model.proofs.DraftLemmas.{component_keeps}
use Rattle.bip_model.proofs.building.Builder.component.Goals as goal

pub invariant_of-self-2 : goal.invariant_of-self-2
invariant_of-self-2 c = component_keeps c.self.inside.draft _ c.args.name c.self.invariant
    (rw c.self.view_is c.requires) (search rules)
