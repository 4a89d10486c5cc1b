use Rattle.std.proofs.Common.{sym, ◌∙◌}
use Rattle.bip_model.specs.States.{state_of}
use Rattle.bip_explain.proofs.HindranceLemmas.{component_at, local_of_it, no_local, offered_in}
use Rattle.bip_explain.proofs.HindranceLemmas.{unoffered_in}
use Rattle.bip_explain.proofs.hindrances.find_unoffered.Goals as goal

pub unreachable-requires : goal.unreachable-requires
unreachable-requires c = no_local c.args.model.now
    (state_of c.args.state.now) c.args.comp.0 c.requires.state c.requires.component
    (sym c.local.ensures ∙ c.in-None.is)

pub find_in-requires-clause-local : goal.find_in-requires-clause-local
find_in-requires-clause-local c =
    let k = c.index-components-comp in
    local_of_it c.args.model.now (state_of c.args.state.now) c.args.comp.0 k.result c.in-Some.local
    c.requires.state
    (component_at c.args.model.now c.args.comp.0 c.components.result.now k.result
    c.components.ensures.components c.requires.component k.is)
    (sym c.local.ensures ∙ c.in-Some.is)

pub returns-clause-some : goal.returns-clause-some
returns-clause-some c =
    let k = c.index-components-comp in
    unoffered_in c.args.model.now (state_of c.args.state.now) c.args.comp c.args.port k.result
    c.in-Some.local
    (component_at c.args.model.now c.args.comp.0 c.components.result.now k.result
    c.components.ensures.components c.requires.component k.is)
    (sym c.local.ensures ∙ c.in-Some.is) c.find_in.result c.find_in.ensures.some

pub returns-clause-none : goal.returns-clause-none
returns-clause-none c =
    let k = c.index-components-comp in
    offered_in c.args.model.now (state_of c.args.state.now) c.args.comp c.args.port k.result
    c.in-Some.local
    (component_at c.args.model.now c.args.comp.0 c.components.result.now k.result
    c.components.ensures.components c.requires.component k.is)
    (sym c.local.ensures ∙ c.in-Some.is) c.find_in.result c.find_in.ensures.none
