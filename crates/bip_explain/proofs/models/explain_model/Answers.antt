use Rattle.std.proofs.Common.{sym, ◌∙◌}
use Rattle.bip_explain.specs.Models.{IsReasonOf, model_parts}
use Rattle.bip_explain.specs.declared.models.ModelReason.TheVariants.{NoMemoryToTell, Unexplained}
use Rattle.bip_explain.proofs.SayLemmas.{tells}
use Rattle.bip_explain.proofs.models.explain_model.Goals as goal

pub returns-in-Err : goal.returns-in-Err
returns-in-Err c =
    tells ⊥ (IsReasonOf c.args.text.now c.args.fault.now) model_parts c.args.explanation.now
    c.say-in-Err.new.explanation
    NoMemoryToTell (sym c.is_open.ensures ∙ c.if-is_open.true)
    (tt, c.in-Err.ensures.memory) c.say-in-Err.ensures

pub returns-in-Ok-None : goal.returns-in-Ok-None
returns-in-Ok-None c =
    tells ⊥ (IsReasonOf c.args.text.now c.args.fault.now) model_parts c.args.explanation.now
    c.say-in-Ok-None.new.explanation
    Unexplained (sym c.is_open.ensures ∙ c.if-is_open.true)
    (rw c.in-Ok-None.field-0-is at c.in-Ok-None.ensures.none, tt) c.say-in-Ok-None.ensures
