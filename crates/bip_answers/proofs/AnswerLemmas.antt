-- Answers that were written out are those that the texts have.
use Rattle.std.proofs.Common.{◌≡◌, ◌≢◌, ◌++◌, ℕ, Bool, false, true, List, Result, Ok, Err, sym, ap}
use Rattle.std.proofs.Common.{◌∙◌, subst}
use Rattle.bip_model.specs.declared.parts.System.{System}
use Rattle.bip_model.specs.declared.partitions.Partition.{Partition}
use Rattle.bip_reader.specs.Texts.{HasFault, Means}
use Rattle.bip_reader.specs.declared.faults.ReadFault.{ReadFault}
use Rattle.bip_reader.specs.declared.faults.Why.TheVariants.{Memory}
use Rattle.std.specs.Prelude.{IfErr, IfOk}
use Rattle.bip_replay.specs.Replays.{IsReplayFault, IsRunOf}
use Rattle.bip_replay.specs.declared.faults.ReplayFault.{ReplayFault}
use Rattle.bip_replay.specs.declared.faults.ReplayFault.TheVariants as replay_fault
use Rattle.bip_answers.specs.Answers.{AreCountsOf, HasPlan, IsAnswer, IsCheckAnswer, IsCheckShowing}
use Rattle.bip_answers.specs.Answers.{IsRefusedModel, IsSaidOf, plain, refused, shown, unchecked}
use Rattle.bip_answers.specs.Answers.{complaining, no_model, no_plan, no_text, no_trace, not_a_run}
use Rattle.bip_answers.specs.Answers.{planned, run, saying}
use Rattle.bip_answers.specs.Wording.{counts_text, model_refusal, plan_refusal}
use Rattle.bip_partition.specs.Faults.{IsLowestTooMany}
use Rattle.bip_partition.specs.Plans.{Planned}
use Rattle.bip_review.specs.Writing.{IsPlanText}
use Rattle.bip_answers.specs.declared.wording.Counts.{Counts}
use Rattle.bip_answers.specs.declared.answers.Answer.{Answer}
use Rattle.bip_answers.specs.declared.answers.Status.TheVariants.{Done, NotARun, Refused}

-- a refusal isn't done, and neither is what says that a trace is no run
pub refused_undone : ¬ (Refused ≡ Done)
refused_undone is = cc

stopped_undone : ¬ (NotARun ≡ Done)
stopped_undone is = cc

-- what is said of a trace is the answer to it
pub said_answers : (base : ℕ) (m : System) (trace : List ℕ) (r : Result ℕ (ℕ × ReplayFault))
    (answer : Answer)
    → IfOk r (IsRunOf m base trace) → IfErr r (λ e. IsReplayFault m base trace e.0 e.1)
    → IsSaidOf m trace r answer
    → (text : List ℕ) (classes : Partition) → Means text m classes → IsAnswer base text trace answer
said_answers base m trace (Ok count) answer is fault said text classes means =
    subst (IsAnswer base text trace) (sym said) (run m classes count means is)
said_answers base m trace (Err (number, replay_fault.NotARun why)) answer is fault said text classes
    means =
    subst (IsAnswer base text trace) (sym said) (not_a_run m classes number why means fault)
said_answers base m trace (Err (number, replay_fault.Syntax)) answer is fault said text classes
    means =
    subst (IsAnswer base text trace) (sym said)
    (no_trace m classes number replay_fault.Syntax means tt fault)
said_answers base m trace (Err (number, replay_fault.Unknown)) answer is fault said text classes
    means =
    subst (IsAnswer base text trace) (sym said)
    (no_trace m classes number replay_fault.Unknown means tt fault)
said_answers base m trace (Err (number, replay_fault.Memory)) answer is fault said text classes
    means = absurd said

-- what is said of a trace that isn't a run's isn't done
pub said_undone : (m : System) (trace : List ℕ) (e : ℕ × ReplayFault) (answer : Answer)
    → IsSaidOf m trace (Err e) answer → answer.status ≢ Done
said_undone m trace (number, replay_fault.NotARun why) answer said done =
    stopped_undone (sym (ap (λ (a : Answer). a.status) said) ∙ done)
said_undone m trace (number, replay_fault.Syntax) answer said done =
    refused_undone (sym (ap (λ (a : Answer). a.status) said) ∙ done)
said_undone m trace (number, replay_fault.Unknown) answer said done =
    refused_undone (sym (ap (λ (a : Answer). a.status) said) ∙ done)
said_undone m trace (number, replay_fault.Memory) answer said done = said

pub has_answered-no_model : (base : ℕ) (text trace : List ℕ) (answer : Answer) (fault : ReadFault)
    → (fault.why ≢ Memory) → answer ≡ complaining Refused (model_refusal fault)
    → HasFault text fault
    → IsAnswer base text trace answer
has_answered-no_model base text trace answer fault other same has =
    subst (IsAnswer base text trace) (sym same) (no_model fault other has)

pub has_answered-planned : (text output : List ℕ) (answer : Answer) (p : Planned) (counts : Counts)
    → answer ≡ saying Done output → output ≡ counts_text counts → HasPlan text p
    → AreCountsOf p counts → IsCheckAnswer text answer
has_answered-planned text output answer p counts same written has counted =
    subst (IsCheckAnswer text) (sym (same ∙ ap (saying Done) written))
    (planned p counts has counted)

-- a refusal is what a check answers, whether a plan is asked for or not
pub refused_check : (text : List ℕ) (with_plan : Bool) (answer : Answer)
    → IsRefusedModel text answer
    → IsCheckShowing text with_plan answer
refused_check text false answer is = plain answer (unchecked answer is)
refused_check text true answer is = refused answer is

-- a plan that is shown behind its counts
pub has_shown : (text output : List ℕ) (answer : Answer) (p : Planned) (counts : Counts)
    (shown_text : List ℕ)
    → answer ≡ saying Done output → output ≡ counts_text counts ++ shown_text → HasPlan text p
    → AreCountsOf p counts → IsPlanText p shown_text → IsCheckShowing text true answer
has_shown text output answer p counts shown_text same written has counted of_plan =
    subst (IsCheckShowing text true) (sym (same ∙ ap (saying Done) written))
    (shown p counts shown_text has counted of_plan)

pub is_refused-no_text : (text : List ℕ) (answer : Answer) (fault : ReadFault)
    → (fault.why ≢ Memory) → answer ≡ complaining Refused (model_refusal fault)
    → HasFault text fault
    → IsRefusedModel text answer
is_refused-no_text text answer fault other same has =
    subst (IsRefusedModel text) (sym same) (no_text fault other has)

pub is_refused-no_plan : (text : List ℕ) (answer : Answer) (m : System) (classes : Partition)
    (a : ℕ)
    → answer ≡ complaining Refused (plan_refusal m a) → Means text m classes → IsLowestTooMany m a
    → IsRefusedModel text answer
is_refused-no_plan text answer m classes a same means lowest =
    subst (IsRefusedModel text) (sym same) (no_plan m classes a means lowest)
