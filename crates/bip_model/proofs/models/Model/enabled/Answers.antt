use Rattle.std.proofs.Common.{sym, ◌∙◌}
use Rattle.bip_model.proofs.StepLemmas.{enabled_by_guard, interaction_at, not_enabled}
use Rattle.bip_model.specs.States.{state_of}
use Rattle.bip_model.proofs.models.Model.enabled.Goals as goal

pub returns-then-all_offered : goal.returns-then-all_offered
returns-then-all_offered c =
    let m = c.args.self.now in
    let i = c.in-Some.interaction.now in
    let at = interaction_at m c.args.inter.0 c.interactions.result.now i
    c.interactions.ensures.interactions (rw c.interactions.ensures.interactions at
    c.in-Some.ensures.lookup.3.0) c.in-Some.ensures.lookup.1 in
    enabled_by_guard m (state_of c.args.state.now) c.args.inter.0 i c.guard_holds.result at
    (rw c.as_slice.ensures at (sym c.all_offered.ensures ∙ c.if-all_offered.true))
    c.guard_holds.ensures

pub returns-else-all_offered : goal.returns-else-all_offered
returns-else-all_offered c =
    let m = c.args.self.now in
    let i = c.in-Some.interaction.now in
    let at = interaction_at m c.args.inter.0 c.interactions.result.now i
    c.interactions.ensures.interactions (rw c.interactions.ensures.interactions at
    c.in-Some.ensures.lookup.3.0) c.in-Some.ensures.lookup.1 in
    not_enabled m (state_of c.args.state.now) c.args.inter.0 i c.all_offered.result at
    (rw c.as_slice.ensures at (sym c.all_offered.ensures ∙ c.if-all_offered.false))
    c.if-all_offered.false
