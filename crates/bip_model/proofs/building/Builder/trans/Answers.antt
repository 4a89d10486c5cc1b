use Rattle.bip_model.specs.Components.{trans_line}
use Rattle.bip_model.proofs.DraftLemmas.{inside_ends, trans_keeps}
use Rattle.bip_model.proofs.building.Builder.trans.Goals as goal

pub invariant_of-self : goal.invariant_of-self
invariant_of-self c =
    inside_ends (trans_line c.args.port c.args.source c.args.target c.args.guard.now
    c.args.update.now) (trans_keeps c.args.port c.args.source c.args.target c.args.guard.now
    c.args.update.now) c.self.inside.draft c.in-Some.component _ c.add_named_transition.result
    c.self.invariant c.in-Some.is c.add_named_transition.ensures.said
    c.add_named_transition.ensures.err
