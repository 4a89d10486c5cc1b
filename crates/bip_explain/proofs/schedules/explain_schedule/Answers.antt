use Rattle.std.proofs.Common.{sym, ◌∙◌}
use Rattle.bip_model.specs.Texts.{line_at}
use Rattle.bip_explain.specs.Schedules.{IsScheduleReasonOf, schedule_parts}
use Rattle.bip_explain.specs.declared.schedules.ScheduleReason.TheVariants.{Unexplained}
use Rattle.bip_explain.proofs.SayLemmas.{tells}
use Rattle.bip_explain.proofs.schedules.explain_schedule.Goals as goal

pub returns-in-None : goal.returns-in-None
returns-in-None c =
    tells ⊥ (IsScheduleReasonOf c.args.plan.now
    (line_at c.args.text.now c.args.number) c.args.fault.now) schedule_parts
    c.args.explanation.now c.say-in-None.new.explanation
    Unexplained (sym c.is_open.ensures ∙ c.if-is_open.true)
    (rw c.line_at.ensures at c.in-None.ensures.none, tt) c.say-in-None.ensures
