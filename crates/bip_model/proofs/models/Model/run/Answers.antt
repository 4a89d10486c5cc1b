use Rattle.std.proofs.Common.{◌∙◌}
use Rattle.std.proofs.Math.Path.{fun_ext}
use Rattle.bip_model.specs.Parts.{IsInteraction}
use Rattle.bip_model.specs.States.{state_of}
use Rattle.bip_model.proofs.ExpressionLemmas.{counts-transferred}
use Rattle.bip_model.proofs.ListLemmas.{All-slice_get}
use Rattle.bip_model.proofs.StateLemmas.{states_lead_to_states}
use Rattle.bip_model.proofs.StepLemmas.{counts_offered, fired, interaction_at, offered_of}
use Rattle.bip_model.proofs.StepLemmas.{told_counts}
use Rattle.bip_model.proofs.models.Model.run.Goals as goal

pub exchange-requires-clause-there : goal.exchange-requires-clause-there
exchange-requires-clause-there c =
    let m = c.args.self.now in
    let i = c.index-interactions-inter.result in
    let at = interaction_at m c.args.inter.0 c.interactions.result.now i
    c.interactions.ensures.interactions c.requires.enabled.declared
    c.index-interactions-inter.is in
    rw (counts_offered m (state_of c.args.state.now) i.participants
    (offered_of m (state_of c.args.state.now) c.args.inter.0 i at c.requires.enabled))
    (All-slice_get (IsInteraction m.components) m.interactions c.args.inter.0 i
    c.interactions.ensures.valid.so_far.interactions at).transfer.there

pub lead_all-requires-clause-values : goal.lead_all-requires-clause-values
lead_all-requires-clause-values c =
    let m = c.args.self.now in
    let s = state_of c.args.state.now in
    let i = c.index-interactions-inter.result in
    let at = interaction_at m c.args.inter.0 c.interactions.result.now i
    c.interactions.ensures.interactions c.requires.enabled.declared
    c.index-interactions-inter.is in
    let same = counts_offered m s i.participants
    (offered_of m s c.args.inter.0 i at c.requires.enabled) in
    rw (c.as_slice.ensures, fun_ext c.exchange.ensures)
    (told_counts m.components s i.participants _ i.participants
    (counts-transferred i.transfer _ ∙ same) same)

pub returns-clause-fired : goal.returns-clause-fired
returns-clause-fired c =
    let m = c.args.self.now in
    let i = c.index-interactions-inter.result in
    let at = interaction_at m c.args.inter.0 c.interactions.result.now i
    c.interactions.ensures.interactions c.requires.enabled.declared
    c.index-interactions-inter.is in
    fired m (state_of c.args.state.now) (state_of c.exchange.new.state)
    (state_of c.lead_all.new.state) c.args.inter.0 i at c.exchange.ensures
    (λ k. rw c.as_slice.ensures at (c.lead_all.ensures k))

pub returns-clause-of_model : goal.returns-clause-of_model
returns-clause-of_model c = λ own.
    rw (returns-clause-fired c) (states_lead_to_states c.args.self.now c.interactions.ensures.valid
    (state_of c.args.state.now) c.args.inter.0 own)
