-- Events that are told one after another.
use Rattle.std.proofs.Common.{◌≡◌, ◌∙◌, ◌+◌, ◌++◌, ◌∷◌, ℕ, Bool, true, List, []}
use Rattle.std.proofs.Common.{Option, Some, None, Result, Ok, Err, ap, length, refl, subst}
use Rattle.std.proofs.Common.{sym}
use Rattle.std.specs.Prelude.{All, IsErr}
use Rattle.std.specs.declared.alloc.AllocError.{AllocError}
use Rattle.std.proofs.lemmas.List.{append-nil, length-append}
use Rattle.std.proofs.lemmas.List.Elements.{All-append, All-cons, All-nil}
use Rattle.bip_core.specs.Laws.{WorldsKeepTheirPlan}
use Rattle.bip_core.specs.Runs.{AddsUp, AreSteps, IsRunOfEvents, report_of, report_with}
use Rattle.bip_core.specs.Starting.{IsNewWorld}
use Rattle.bip_core.specs.Worlds.{WorldContent}
use Rattle.bip_core.specs.declared.events.Did.{Did}
use Rattle.bip_core.specs.declared.events.Event.{Event}
use Rattle.bip_core.specs.declared.runs.Report.{Report}
use Rattle.bip_core.proofs.RunLemmas.{report_more, steps_grow, steps_one}
use Rattle.bip_partition.specs.Plans.{Planned}
use Rattle.bip_replay.specs.Runs.{IsModelRun}
use Rattle.bip_replay.specs.Traces.{grants_of}
use Rattle.bip_replay.specs.Writing.{text_of}
use Rattle.bip_schedule.specs.Schedules.{IsEventText}
use Rattle.bip_tell.specs.Lines.{AreTold, AreToldFrom, IsLeftUntold, IsToldEvent, done_untold}
use Rattle.bip_tell.specs.Lines.{none_told, not_done, one_told}
use Rattle.bip_answers.specs.Answers.{complaining}
use Rattle.bipr.specs.Resolvers.{IsSharedAtFirst}
use Rattle.bipr.specs.Scheduled.{IsAtMostOneDone, IsScheduleAnswered, IsTelling, IsToldUntil, aloud}
use Rattle.bipr.specs.Scheduled.{all_told, lacking, none_more, nothing_told, one_more, one_unheard}
use Rattle.bipr.specs.Scheduled.{reporting, some_told, told_lacking, told_stepped, unheard}
use Rattle.bipr.specs.Stops.{out_of_memory, unwritten_text}
use Rattle.bipr.specs.Streams.{AreOut, Put, PutsEach, texts}
use Rattle.bipr.specs.Wording.{report_text}
use Rattle.bip_answers.specs.declared.answers.Answer.{Answer}
use Rattle.bip_answers.specs.declared.answers.Status.TheVariants.{Refused}
use Rattle.bipr.specs.declared.resolvers.Resolver.{Resolver}
use Rattle.bipr.proofs.ScheduledLemmas.{has_stepped, is_run}
use Rattle.bipr.proofs.StreamLemmas.{texts_append}

-- as many outcomes as events
told_length : {w v : WorldContent} {es : List Event} {ds : List (Option Did)} {ls : List (List ℕ)}
    → AreTold w es ds ls v → length ds ≡ length es
told_length none_told = refl
told_length (one_told {es = es} {ds = ds} e d line before is) =
    length-append ds (d ∷ [])
    ∙ (ap (λ n. n + 1) (told_length before) ∙ sym (length-append es (e ∷ [])))

-- they lead from the one world to the other
told_steps : {w v : WorldContent} {es : List Event} {ds : List (Option Did)} {ls : List (List ℕ)}
    → AreTold w es ds ls v → AreSteps es ds w v
told_steps none_told = refl
told_steps {w = w} (one_told {es = es} {ds = ds} {v = u} {x = x} e d line before is) =
    steps_one es ds w u x e d (told_steps before) is.steps

-- a report counts the events that were told
pub told_count : (w v : WorldContent) (es : List Event) (ds : List (Option Did))
    (ls : List (List ℕ)) (report : Report) → AreTold w es ds ls v → report ≡ report_of ds
    → report.events ≡ length es
told_count w v es ds ls report told is = ap (λ (r : Report). r.events) is ∙ told_length told

-- one more is told
pub told_on : (w v x : WorldContent) (es : List Event) (ds : List (Option Did)) (told : List Put)
    (report later : Report) (e : Event) (d : Option Did) (line : List ℕ) (is_out : Bool)
    → AreTold w es ds (texts told) v → report ≡ report_of ds
    → IsToldEvent (report.events + 1) e d v x line → later ≡ report_with report d
    → AreTold w (es ++ e ∷ []) (ds ++ d ∷ [])
    (texts (told ++ record { text = line; is_out = is_out } ∷ [])) x
    × (later ≡ report_of (ds ++ d ∷ []))
told_on w v x es ds told report later e d line is_out before counted is more =
    let number : report.events + 1 ≡ length es + 1 =
    ap (λ n. n + 1) (told_count w v es ds (texts told) report before counted) in (
      subst (λ (ls : List (List ℕ)). AreTold w (es ++ e ∷ []) (ds ++ d ∷ []) ls x)
          (sym (texts_append told (record { text = line; is_out = is_out } ∷ [])))
          (one_told e d line before (subst (λ (n : ℕ). IsToldEvent n e d v x line) number is)),
      more ∙ (ap (λ (r : Report). report_with r d) counted ∙ report_more ds d),
    )

-- what was told so far, by whom a stream is written: the events that are done, what they did, and
-- the texts, each out
pub record HasTold {S : Type 0} (writes : S → List ℕ → Bool → S → Type 0) (before after : S)
    (all left : List Event) (w v : WorldContent) (report : Report) : Type 0 where
  pub done : List Event
  pub dids : List (Option Did)
  pub told : List Put
  pub puts : PutsEach writes before told after
  pub lines : AreTold w done dids (texts told) v
  pub heard : AreOut told
  pub sums : report ≡ report_of dids
  pub adds_up : AddsUp report
  pub parts : all ≡ done ++ left

-- want of memory is an error, whichever
pub err_telling : {events : List Event} {w v : WorldContent} {told : List Put}
    (result : Result (Option Report) AllocError) → IsErr result
    → ((e : AllocError) → IsTelling events w v told (Err e)) → IsTelling events w v told result
err_telling (Ok x) is each = cc
err_telling (Err e) is each = each e

-- where the line of the next event lacks memory, that event is done, or none is
pub next_untold : (rest more : List Event) (e : Event) (w v : WorldContent) (before after : Report)
    → rest ≡ e ∷ more → IsLeftUntold e w v before after → IsAtMostOneDone rest w v
next_untold rest more e w v before after is (not_done same _) = none_more same
next_untold rest more e w v before after is (done_untold did steps _) = one_more e more did is steps

-- what is answered where events are told
module _ (p : Planned) (base : ℕ) (resolver : Resolver) (is_told : Bool) (schedule : List ℕ)
    (events : List Event) (w v : WorldContent) (told : List Put) (on : is_told ≡ true)
    (says : IsEventText p schedule events) (new : IsNewWorld p base w)
    (shared : IsSharedAtFirst resolver p w.bank.sharing) where
  abbrev Answered : Answer → Type 0
  Answered = IsScheduleAnswered p base resolver is_told schedule told

  -- all of them
  pub told_all : (report : Report) → WorldsKeepTheirPlan
      → IsModelRun v.plan.model v.bank.base v.trace
      → IsTelling events w v told (Ok (Some report)) → (answer : Answer)
      → answer ≡ reporting (text_of p.model v.trace) (report_text report)
      → grants_of p.model (text_of p.model v.trace) ≡ Ok v.trace → Answered answer
  told_all report keep ran (all_told dids _ lines heard sums) answer is reads =
      let steps = told_steps lines.each in
      let run : IsRunOfEvents events w v report =
      record { dids = dids; steps = steps; sums = sums } in
      let more = steps_grow events dids w v steps in
      let whole = is_run p base events w v report (text_of p.model v.trace) keep new run ran
      (more.0, more.1, ap (λ (r : Report). r.grants) sums ∙ more.2) reads in
      aloud told answer on (told_stepped report told answer (record {
        stepped =
            has_stepped p base resolver schedule answer events w v report is says new shared run
            whole;
        dids = dids;
        lines = lines;
        heard = heard;
        sums = sums;
      }))

  -- so far as it is told
  until : (last : WorldContent) (done rest : List Event) (dids : List (Option Did))
      → events ≡ done ++ rest → AreToldFrom w done dids (texts told) last
      → IsToldUntil p base resolver schedule told
  until last done rest dids parts lines =
      record {
        done = done;
        rest = rest;
        dids = dids;
        first = w;
        last = last;
        says = subst (IsEventText p schedule) parts says;
        new = new;
        shared = shared;
        lines = lines;
      }

  -- want of memory, behind all that is told
  pub told_all_lacking : (report : Report) → IsTelling events w v told (Ok (Some report))
      → Answered out_of_memory
  told_all_lacking report (all_told dids _ lines heard sums) =
      aloud told out_of_memory on (told_lacking told heard
      (until v events [] dids (sym (append-nil events)) lines))

  -- and on the way
  pub told_err : (e : AllocError) → IsTelling events w v told (Err e) → Answered out_of_memory
  told_err e (nothing_told _ none _) =
      subst (λ (ts : List Put).
      IsScheduleAnswered p base resolver is_told schedule ts out_of_memory) (sym none) lacking
  told_err e (some_told done rest dids last _ parts lines heard _) =
      aloud told out_of_memory on (told_lacking told heard (until last done rest dids parts lines))

  -- where a line isn't out
  pub told_unheard : IsTelling events w v told (Ok None)
      → Answered (complaining Refused unwritten_text)
  told_unheard (one_unheard done rest dids parts lines last) =
      aloud told (complaining Refused unwritten_text) on
      (unheard told last (until v done rest dids parts lines))

-- one more is put, and is out
pub out_more : (told : List Put) (put : Put) → AreOut told → put.is_out ≡ true
    → AreOut (told ++ put ∷ [])
out_more told put heard out =
    All-append (λ (x : Put). x.is_out ≡ true) told (put ∷ []) heard
    (All-cons (λ (x : Put). x.is_out ≡ true) put [] out (All-nil (λ (x : Put). x.is_out ≡ true)))
