use Rattle.bip_model.specs.Components.{port_line}
use Rattle.bip_model.proofs.DraftLemmas.{inside_ends, port_keeps}
use Rattle.bip_model.proofs.building.Builder.port.Goals as goal

pub invariant_of-self : goal.invariant_of-self
invariant_of-self c =
    inside_ends (port_line c.args.name) (port_keeps c.args.name) c.self.inside.draft
    c.in-Some.component _ c.add_port.result
    c.self.invariant c.in-Some.is c.add_port.ensures.said c.add_port.ensures.err
