use Rattle.bip_model.specs.Components.{loc_line}
use Rattle.bip_model.proofs.DraftLemmas.{inside_ends, loc_keeps}
use Rattle.bip_model.proofs.building.Builder.loc.Goals as goal

pub invariant_of-self : goal.invariant_of-self
invariant_of-self c =
    inside_ends (loc_line c.args.name) (loc_keeps c.args.name) c.self.inside.draft
    c.in-Some.component _ c.add_location.result
    c.self.invariant c.in-Some.is c.add_location.ensures.said c.add_location.ensures.err
