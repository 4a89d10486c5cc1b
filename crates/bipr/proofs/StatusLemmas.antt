-- What statuses tell.
use Rattle.std.proofs.Common.{◌≡◌, ◌↔◌, ◌⊎◌, ◌++◌, ℕ, List, [], ap, inl, inr, refl, sym, true, ◌∙◌}
use Rattle.std.proofs.lemmas.List.Elements.{All-nil}
use Rattle.bip_core.specs.declared.events.Event.{Event}
use Rattle.bip_partition.specs.Plans.{Planned}
use Rattle.bip_replay.specs.declared.faults.TraceFault.{TraceFault}
use Rattle.bip_schedule.specs.Laws.{EventsHaveNoFault, IsFault}
use Rattle.bip_schedule.specs.Schedules.{IsEventText}
use Rattle.bip_answers.specs.Answers.{HasPlan, IsAnswer, IsCheckAnswer, IsRefusedModel, no_model}
use Rattle.bip_answers.specs.Answers.{no_plan, no_text, no_trace, not_a_run, planned, run}
use Rattle.bip_answers.specs.Answers.{unchecked}
use Rattle.bipr.specs.Laws.{CheckStatusesTell, IsRunText, IsStoppedText, StatusTells, StatusesTell}
use Rattle.bipr.specs.Laws.{StepsStatusesTell}
use Rattle.bipr.specs.Scheduled.{IsScheduleAnswer, IsScheduleAnswered, IsScheduleRefused}
use Rattle.bipr.specs.Scheduled.{IsToldAnswer, aloud, lacking, no_schedule, quietly, stepped}
use Rattle.bipr.specs.Scheduled.{told_lacking, told_stepped, unheard, untold}
use Rattle.bipr.specs.Stops.{out_of_memory}
use Rattle.bipr.specs.Streams.{AreOut, Put}
use Rattle.bip_answers.specs.declared.answers.Answer.{Answer}
use Rattle.bip_answers.specs.declared.answers.Status.{Status}
use Rattle.bip_answers.specs.declared.answers.Status.TheVariants.{Done, NotARun, Refused}
use Rattle.bip_answers.proofs.OneAnswerLemmas.{AreExact, has_one_answer}
use Rattle.bip_answers.proofs.OneCheckLemmas.{planned_or_refused}

done_of_run : AreExact → (base : ℕ) (model trace : List ℕ) (answer : Answer)
    → IsAnswer base model trace answer → IsRunText base model trace → answer.status ≡ Done
done_of_run exact base model trace answer is text =
    ap (λ (a : Answer). a.status)
    (has_one_answer exact base model trace answer _ is (run text.0 text.1 text.2 text.3 text.4))

stopped_of_text : AreExact → (base : ℕ) (model trace : List ℕ) (answer : Answer)
    → IsAnswer base model trace answer → IsStoppedText base model trace → answer.status ≡ NotARun
stopped_of_text exact base model trace answer is text =
    ap (λ (a : Answer). a.status)
    (has_one_answer exact base model trace answer _ is
    (not_a_run text.0 text.1 text.2 text.3 text.4 text.5))

pub statuses_tell : AreExact → StatusesTell
statuses_tell exact base model trace answer is = by_answer answer is
  where
    by_answer : (a : Answer) → IsAnswer base model trace a → StatusTells base model trace a.status
    by_answer a (run m classes count means is_run) = record {
      done = (λ same. (m, classes, count, means, is_run), λ text. refl);
      stopped = (
        λ same. cc,
        λ text.
            stopped_of_text exact base model trace _ (run m classes count means is_run) text,
      );
      others = λ no_run no_stop. absurd (no_run (m, classes, count, means, is_run));
    }
    by_answer a (not_a_run m classes number fault means first) = record {
      done = (
        λ same. cc,
        λ text.
            done_of_run exact base model trace _ (not_a_run m classes number fault means first)
            text,
      );
      stopped = (λ same. (m, classes, number, fault, means, first), λ text. refl);
      others = λ no_run no_stop. absurd (no_stop (m, classes, number, fault, means, first));
    }
    by_answer a (no_trace m classes number fault means says first) = record {
      done = (
        λ same. cc,
        λ text.
            done_of_run exact base model trace _ (no_trace m classes number fault means says first)
            text,
      );
      stopped = (
        λ same. cc,
        λ text.
            stopped_of_text exact base model trace _
            (no_trace m classes number fault means says first)
            text,
      );
      others = λ no_run no_stop. refl;
    }
    by_answer a (no_model fault other has) = record {
      done = (
        λ same. cc,
        λ text.
            done_of_run exact base model trace _ (no_model fault other has) text,
      );
      stopped = (
        λ same. cc,
        λ text.
            stopped_of_text exact base model trace _ (no_model fault other has) text,
      );
      others = λ no_run no_stop. refl;
    }

refused_status : (model : List ℕ) (a : Answer) → IsRefusedModel model a → a.status ≡ Refused
refused_status model a (no_plan m classes i means lowest) = refl
refused_status model a (no_text fault other has) = refl

not_done : (status : Status) → status ≡ Refused → status ≡ Done → ⊥
not_done status one other =
    let both : Refused ≡ Done = sym one ∙ other in
    cc

pub check_statuses_tell : AreExact → CheckStatusesTell
check_statuses_tell exact model answer is = by_answer answer is
  where
    by_answer : (a : Answer) → IsCheckAnswer model a
        → ((a.status ≡ Done) ↔ ((p : Planned) × HasPlan model p))
        × ((a.status ≡ Refused) ↔ IsRefusedModel model a)
    by_answer a (planned p counts has are) = (
      (λ same. (p, has), λ has'. refl),
      (λ same. cc, λ refused. absurd (planned_or_refused exact model p _ has refused)),
    )
    by_answer a (unchecked b refused) = (
      (
        λ same. absurd (not_done b.status (refused_status model b refused) same),
        λ has. absurd (planned_or_refused exact model has.0 b has.1 refused),
      ),
      (λ same. refused, λ again. refused_status model b refused),
    )

-- Steps.

-- a schedule has no fault
no_fault : {A : Type 0} → EventsHaveNoFault
    → (p : Planned) (schedule : List ℕ) (events : List Event) → IsEventText p schedule events
    → (number : ℕ) (fault : TraceFault) → IsFault p schedule number fault → A
no_fault apart p schedule events says number fault is =
    absurd (apart p schedule events number fault says is)

refused_steps : (p : Planned) (schedule : List ℕ) (a : Answer) → IsScheduleRefused p schedule a
    → a.status ≡ Refused
refused_steps p schedule a refused = ap (λ (x : Answer). x.status) refused.is

abbrev Told : Planned → List ℕ → List Put → Answer → Type 0
Told p schedule ts a =
    (a.status ≡ Done → ((events : List Event) × IsEventText p schedule events) × AreOut ts)
    × ((number : ℕ) (fault : TraceFault) → IsFault p schedule number fault
    → (ts ≡ []) × ((a.status ≡ Refused) ⊎ (a ≡ out_of_memory)))

pub steps_statuses_tell : EventsHaveNoFault → StepsStatusesTell
steps_statuses_tell apart p base resolver is_told schedule told answer is =
    by_answered told answer is
  where
    none_out : AreOut []
    none_out = All-nil (λ (put : Put). put.is_out ≡ true)

    by_refused : (a : Answer) → IsScheduleRefused p schedule a → Told p schedule [] a
    by_refused a refused =
        let status = refused_steps p schedule a refused in
        (λ same. absurd (not_done a.status status same), λ number fault wrong. (refl, inl status))

    by_answer : (a : Answer) → IsScheduleAnswer p base resolver schedule a → Told p schedule [] a
    by_answer a (stepped report _ is) =
        (λ same. ((is.events, is.says), none_out), no_fault apart p schedule is.events is.says)
    by_answer a (no_schedule _ refused) = by_refused a refused

    by_told : (ts : List Put) (a : Answer) → IsToldAnswer p base resolver schedule ts a
        → Told p schedule ts a
    by_told ts a (told_stepped report _ _ is) = (
      λ same. ((is.stepped.events, is.stepped.says), is.heard),
      no_fault apart p schedule is.stepped.events is.stepped.says,
    )
    by_told ts _ (unheard _ last until) =
        (λ same. cc, no_fault apart p schedule (until.done ++ until.rest) until.says)
    by_told ts _ (told_lacking _ heard until) =
        (λ same. cc, no_fault apart p schedule (until.done ++ until.rest) until.says)

    by_answered : (ts : List Put) (a : Answer)
        → IsScheduleAnswered p base resolver is_told schedule ts a → Told p schedule ts a
    by_answered _ a (quietly _ off is) = by_answer a is
    by_answered ts a (aloud _ _ on is) = by_told ts a is
    by_answered _ a (untold _ refused) = by_refused a refused
    by_answered _ _ lacking = (λ same. cc, λ number fault wrong. (refl, inr refl))
