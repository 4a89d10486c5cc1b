use Rattle.bip_model.specs.Components.{var_line}
use Rattle.bip_model.proofs.DraftLemmas.{inside_ends, var_keeps}
use Rattle.bip_model.proofs.building.Builder.var.Goals as goal

pub invariant_of-self : goal.invariant_of-self
invariant_of-self c =
    inside_ends (var_line c.args.name c.args.value)
    (var_keeps c.args.name c.args.value) c.self.inside.draft c.in-Some.component _
    c.add_variable.result
    c.self.invariant c.in-Some.is c.add_variable.ensures.said c.add_variable.ensures.err
