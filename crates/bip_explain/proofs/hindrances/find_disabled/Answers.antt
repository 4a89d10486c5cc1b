use Rattle.std.proofs.Common.{◌∙◌}
use Rattle.bip_model.specs.States.{state_of}
use Rattle.bip_model.proofs.StepLemmas.{interaction_at}
use Rattle.bip_explain.proofs.HindranceLemmas.{enabled_there, failed_there, guard_over}
use Rattle.bip_explain.proofs.hindrances.find_disabled.Goals as goal

pub find_failed-requires : goal.find_failed-requires
find_failed-requires c =
    let i = c.index-interactions-inter in
    guard_over c.args.model.now (state_of c.args.state.now) c.args.inter.0 i.result
    c.participants-participants.result.now c.as_slice.result.now c.as_slice-guard.result.now
    (interaction_at c.args.model.now c.args.inter.0 c.interactions.result.now i.result
    c.interactions.ensures.interactions c.requires.declared i.is)
    c.participants-participants.ensures.participants c.in_default.ensures.none
    (c.as_slice.ensures.value ∙ c.values_of-values.ensures)
    (rw (← i.is) at c.as_slice-guard.ensures) c.interactions.ensures.valid

pub returns-in_err-find_failed-clause-none : goal.returns-in_err-find_failed-clause-none
returns-in_err-find_failed-clause-none c =
    let i = c.index-interactions-inter in
    rw c.from_residual.ensures
    (enabled_there c.args.model.now (state_of c.args.state.now) c.args.inter.0 i.result
    c.participants-participants.result.now c.as_slice.result.now c.as_slice-guard.result.now
    (interaction_at c.args.model.now c.args.inter.0 c.interactions.result.now i.result
    c.interactions.ensures.interactions c.requires.declared i.is)
    c.participants-participants.ensures.participants c.in_default.ensures.none
    (c.as_slice.ensures.value ∙ c.values_of-values.ensures)
    (rw (← i.is) at c.as_slice-guard.ensures) c.in_err-find_failed.ensures.none)

pub returns-clause-some : goal.returns-clause-some
returns-clause-some c =
    let i = c.index-interactions-inter in
    failed_there c.args.model.now (state_of c.args.state.now) c.args.inter.0 i.result
    c.participants-participants.result.now c.as_slice.result.now c.as_slice-guard.result.now
    (interaction_at c.args.model.now c.args.inter.0 c.interactions.result.now i.result
    c.interactions.ensures.interactions c.requires.declared i.is)
    c.participants-participants.ensures.participants c.in_default.ensures.none
    (c.as_slice.ensures.value ∙ c.values_of-values.ensures)
    (rw (← i.is) at c.as_slice-guard.ensures) c.in_ok-find_failed.field-0
    c.in_ok-find_failed.ensures.some
