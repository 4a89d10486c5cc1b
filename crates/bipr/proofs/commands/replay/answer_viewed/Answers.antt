use Rattle.std.proofs.Common.{[]}
use Rattle.bipr.specs.Commands.{IsReplayBy}
use Rattle.bipr.specs.Loading.{IsModelText, IsNoModel, Silently, lacking, silent}
use Rattle.bip_answers.specs.Views.{IsViewed}
use Rattle.bipr.proofs.EndingLemmas.{outcome_answered, outcome_lacking, outcome_stopped}
use Rattle.bipr.proofs.LoadingLemmas.{both_said, first_refused, first_stopped, other_stopped}
use Rattle.bip_answers.proofs.ViewLemmas.{refused_view}
use Rattle.bipr.proofs.commands.replay.answer_viewed.Goals as goal

pub returns-in_err-text : goal.returns-in_err-text
returns-in_err-text g c =
    let is = IsReplayBy (IsViewed c.args.view.now c.args.asked.now.base)
    (g.I.Inputs.gives c.args.inputs.now) c.args.asked.now [] in
    outcome_stopped c.from_residual.result is c.in_err-text.field-0.0 c.from_residual.ensures.1
    (first_stopped _ _ _ _ _ _ _ c.in_err-text.ensures.unread) lacking

pub returns-in_err-trace-in-Ok : goal.returns-in_err-trace-in-Ok
returns-in_err-trace-in-Ok g c =
    let is = IsReplayBy (IsViewed c.args.view.now c.args.asked.now.base)
    (g.I.Inputs.gives c.args.inputs.now) c.args.asked.now [] in
    outcome_stopped c.from_residual-in_err-trace-in-Ok.result is
    c.in_err-trace-in-Ok.field-0.0 c.from_residual-in_err-trace-in-Ok.ensures.1
    (other_stopped _ _ _ _ _ _ _ _ _ _ c.in_ok-text.ensures.read
    (rw (← c.as_slice.ensures) c.parts.ensures) (_, _, c.in-Ok.ensures.model)
    c.in_err-trace-in-Ok.ensures.unread) lacking

pub returns-in_err-answer_trace-in-Ok : goal.returns-in_err-answer_trace-in-Ok
returns-in_err-answer_trace-in-Ok g c =
    outcome_lacking c.from_residual-in_err-answer_trace-in-Ok.result _
    c.from_residual-in_err-answer_trace-in-Ok.ensures.1 lacking

pub returns-in-Ok : goal.returns-in-Ok
returns-in-Ok g c =
    let is = IsReplayBy (IsViewed c.args.view.now c.args.asked.now.base)
    (g.I.Inputs.gives c.args.inputs.now) c.args.asked.now [] in
    outcome_answered is c.in_ok-answer_trace-in-Ok.field-0
    (both_said _ _ _ _ _ _ _ _ _ _ _ _ c.in_ok-text.ensures.read
    (rw (← c.as_slice.ensures) c.parts.ensures) (_, _, c.in-Ok.ensures.model)
    c.in_ok-trace-in-Ok.ensures.read
    (silent _ (rw (← c.as_slice-trace.ensures)
    (c.in_ok-answer_trace-in-Ok.ensures _ c.in-Ok.ensures.model))))

pub returns-in_err-answer_fault-in-Err : goal.returns-in_err-answer_fault-in-Err
returns-in_err-answer_fault-in-Err g c =
    outcome_lacking c.from_residual-in_err-answer_fault-in-Err.result _
    c.from_residual-in_err-answer_fault-in-Err.ensures.1 lacking

pub returns : goal.returns
returns g c =
    let is = IsReplayBy (IsViewed c.args.view.now c.args.asked.now.base)
    (g.I.Inputs.gives c.args.inputs.now) c.args.asked.now [] in
    let answered = c.in_ok-answer_fault-in-Err.ensures.answered in
    let has = c.in-Err.ensures.fault answered.0 in
    outcome_answered is c.in_ok-answer_fault-in-Err.field-0
    (first_refused (g.I.Inputs.gives c.args.inputs.now) IsModelText IsNoModel
    (λ m t. Silently (IsViewed c.args.view.now c.args.asked.now.base m t))
    c.args.asked.now.model.now
    c.args.asked.now.trace.now c.in_ok-text.text c.parts.result.0.now c.parts.result.1
    c.in_ok-answer_fault-in-Err.field-0 c.in_ok-text.ensures.read
    (rw (← c.as_slice.ensures) c.parts.ensures)
    (c.in-Err.fault, answered.0, has, answered.1)
    (λ rest refused. silent _ (refused_view c.args.view.now c.args.asked.now.base
    c.parts.result.0.now rest c.in-Err.fault c.in_ok-answer_fault-in-Err.field-0 answered.0
    answered.1 has)))
