-- Answers to schedules that were written out are those that the texts have.
use Rattle.std.proofs.Common.{◌≡◌, ◌≢◌, ◌++◌, ℕ, List, Result, Ok, Err, length, sym, ap, ◌∙◌, subst}
use Rattle.std.specs.Prelude.{IfOk}
use Rattle.std.specs.declared.alloc.AllocError.{AllocError}
use Rattle.bip_bank.specs.Banks.{BankContent}
use Rattle.bip_core.specs.Laws.{WorldsKeepTheirPlan}
use Rattle.bip_model.specs.declared.grants.Grant.{Grant}
use Rattle.bip_model.specs.declared.parts.System.{System}
use Rattle.bip_replay.specs.Replays.{IsRunOf}
use Rattle.bip_replay.specs.Runs.{IsModelRun}
use Rattle.bip_replay.specs.Traces.{grants_of}
use Rattle.bip_core.specs.Runs.{IsRunOfEvents}
use Rattle.bip_core.specs.Starting.{IsNewWorld}
use Rattle.bip_core.specs.Worlds.{WorldContent}
use Rattle.bip_core.specs.declared.events.Event.{Event}
use Rattle.bip_core.specs.declared.runs.Report.{Report}
use Rattle.bip_partition.specs.Plans.{Planned}
use Rattle.bip_replay.specs.Writing.{text_of}
use Rattle.bip_replay.specs.declared.faults.TraceFault.TheVariants.{Memory}
use Rattle.bip_replay.specs.declared.faults.TraceFault.{TraceFault}
use Rattle.bip_schedule.specs.Schedules.{IsEventText, IsScheduleFault}
use Rattle.bip_answers.specs.Answers.{HasPlan, IsAnswer, complaining, run, saying}
use Rattle.bipr.specs.Laws.{StepsReplay}
use Rattle.bipr.specs.Resolvers.{IsSharedAtFirst}
use Rattle.bipr.specs.Scheduled.{IsScheduleAnswer, IsScheduleAnswered, IsScheduleRefused, IsStepped}
use Rattle.bipr.specs.Scheduled.{IsToldAnswer, aloud, lacking, no_schedule, quietly, reporting}
use Rattle.bipr.specs.Scheduled.{stepped, told_lacking, told_stepped, unheard, untold}
use Rattle.bipr.specs.Streams.{Put}
use Rattle.bip_answers.specs.Wording.{run_text}
use Rattle.bipr.specs.Wording.{report_text, schedule_refusal}
use Rattle.bip_answers.specs.declared.answers.Answer.{Answer}
use Rattle.bip_answers.specs.declared.answers.Status.TheVariants.{Done, Refused}
use Rattle.bipr.specs.declared.resolvers.Resolver.{Resolver}

pub has_refused : (p : Planned) (schedule complaint : List ℕ) (answer : Answer) (number : ℕ)
    (fault : TraceFault)
    → answer ≡ complaining Refused complaint → complaint ≡ schedule_refusal number fault
    → (fault ≢ Memory)
    → IsScheduleFault p schedule number fault → IsScheduleRefused p schedule answer
has_refused p schedule complaint answer number fault same written other is =
    record {
      number = number;
      fault = fault;
      other = other;
      why = is;
      is = same ∙ ap (complaining Refused) written;
    }

abbrev pub has_stepped : (p : Planned) (base : ℕ) (resolver : Resolver) (schedule : List ℕ)
    (answer : Answer) (events : List Event) (w v : WorldContent) (report : Report)
    → answer ≡ reporting (text_of p.model v.trace) (report_text report)
    → IsEventText p schedule events → IsNewWorld p base w
    → IsSharedAtFirst resolver p w.bank.sharing → IsRunOfEvents events w v report
    → IsRunOf p.model base (text_of p.model v.trace) report.grants
    → IsStepped p base resolver schedule report answer
has_stepped p base resolver schedule answer events w v report same is begins sharing steps leads =
    record {
      events = events;
      first = w;
      last = v;
      says = is;
      new = begins;
      shared = sharing;
      ran = steps;
      run = leads;
      is = same;
    }

-- two facts of an answer that was made
pub both_said : {R : Type 0} (result : Result Answer AllocError) (text : Answer)
    (Q : Answer → Type 0)
    → IfOk result (λ a. a ≡ text) → IfOk result (λ a. R) → ((a : Answer) → a ≡ text → R → Q a)
    → IfOk result Q
both_said (Ok a) text Q is also turn = turn a is also
both_said (Err e) text Q is also turn = tt

-- the trace of a world to which events lead from the new one is that of a run above its base
pub is_run : (p : Planned) (base : ℕ) (events : List Event) (w v : WorldContent) (report : Report)
    (text : List ℕ) → WorldsKeepTheirPlan → IsNewWorld p base w → IsRunOfEvents events w v report
    → IsModelRun v.plan.model v.bank.base v.trace
    → (grants : List Grant) × (v.trace ≡ w.trace ++ grants) × (report.grants ≡ length grants)
    → grants_of p.model text ≡ Ok v.trace → IsRunOf p.model base text report.grants
is_run p base events w v report text keep begins steps ran grown reads =
    let keeps = keep w v events steps.dids steps.steps in
    let model : v.plan.model ≡ p.model = ap (λ (q : Planned). q.model) (keeps.plan ∙ begins.plan) in
    let above : v.bank.base ≡ base = keeps.base ∙ ap (λ (b : BankContent). b.base) begins.bank in
    let whole : v.trace ≡ grown.0 =
    grown.1 ∙ ap (λ (gs : List Grant). gs ++ grown.0) begins.trace in
    record {
      grants = v.trace;
      reads = reads;
      run =
          subst (λ (b : ℕ). IsModelRun p.model b v.trace) above
          (subst (λ (m : System). IsModelRun m v.bank.base v.trace) model ran);
      counted = ap length whole ∙ sym grown.2;
    }

-- what is written is replayed as a run of as many grants as the report says that stands beside it
abbrev IsReplayed : ℕ → List ℕ → Answer → Type 0
IsReplayed base model a =
    (report : Report) × (a.complaint ≡ report_text report)
    × IsAnswer base model a.output (saying Done (run_text report.grants))

run_of_stepped : (base : ℕ) (resolver : Resolver) (model schedule : List ℕ) (p : Planned)
    (report : Report) (a : Answer) → HasPlan model p
    → IsStepped p base resolver schedule report a → IsReplayed base model a
run_of_stepped base resolver model schedule p report a has is = (
  report,
  ap (λ (x : Answer). x.complaint) is.is,
  subst (λ (text : List ℕ). IsAnswer base model text (saying Done (run_text report.grants)))
      (sym (ap (λ (x : Answer). x.output) is.is))
      (run p.model p.classes report.grants has.means is.run),
)

not_done : (p : Planned) (schedule : List ℕ) (a : Answer) → IsScheduleRefused p schedule a
    → a.status ≡ Done → ⊥
not_done p schedule a refused done =
    let both : Refused ≡ Done = sym (ap (λ (x : Answer). x.status) refused.is) ∙ done in cc

pub steps_replay : StepsReplay
steps_replay base resolver is_told model schedule p told answer has is done =
    by_answered told answer is done
  where
    by_answer : (a : Answer) → IsScheduleAnswer p base resolver schedule a → a.status ≡ Done
        → IsReplayed base model a
    by_answer a (stepped report _ is) done =
        run_of_stepped base resolver model schedule p report a has is
    by_answer a (no_schedule _ refused) done = absurd (not_done p schedule a refused done)

    by_told : (ts : List Put) (a : Answer) → IsToldAnswer p base resolver schedule ts a
        → a.status ≡ Done → IsReplayed base model a
    by_told ts a (told_stepped report _ _ is) done =
        run_of_stepped base resolver model schedule p report a has is.stepped
    by_told ts _ (unheard _ last until) done = cc
    by_told ts _ (told_lacking _ heard until) done = cc

    by_answered : (ts : List Put) (a : Answer)
        → IsScheduleAnswered p base resolver is_told schedule ts a → a.status ≡ Done
        → IsReplayed base model a
    by_answered _ a (quietly _ off is) done = by_answer a is done
    by_answered ts a (aloud _ _ on is) done = by_told ts a is done
    by_answered _ a (untold _ refused) done = absurd (not_done p schedule a refused done)
    by_answered _ _ lacking done = cc
