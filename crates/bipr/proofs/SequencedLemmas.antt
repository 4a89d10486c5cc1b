-- What comes of a schedule whose events are drawn.
use Rattle.std.proofs.Common.{◌≡◌, ◌<◌, ◌∙◌, ℕ, List, None, Ok, Option, Some, ap, false, refl, true}
use Rattle.std.specs.Prelude.{◌≢◌, is_some}
use Rattle.bip_core.specs.Laws.{WorldsKeepTheirPlan}
use Rattle.bip_core.specs.Runs.{IsRunOfEvents, report_of}
use Rattle.bip_core.specs.Starting.{IsNewWorld}
use Rattle.bip_core.specs.Worlds.{WorldContent}
use Rattle.bip_core.specs.declared.events.Did.{Did}
use Rattle.bip_core.specs.declared.events.Event.{Event}
use Rattle.bip_core.specs.declared.runs.Report.{Report}
use Rattle.bip_core.proofs.RunLemmas.{steps_grow}
use Rattle.bip_partition.specs.Plans.{Planned}
use Rattle.bip_replay.specs.Runs.{IsModelRun}
use Rattle.bip_replay.specs.Traces.{grants_of}
use Rattle.bip_replay.specs.Writing.{text_of}
use Rattle.bip_schedule.specs.Schedules.{IsEventText}
use Rattle.bip_sequence.specs.Sequences.{IsSequenceChart}
use Rattle.bip_answers.specs.Charted.{most_rows}
use Rattle.bip_answers.specs.declared.answers.Answer.{Answer}
use Rattle.bipr.specs.Resolvers.{IsSharedAtFirst}
use Rattle.bipr.specs.Scheduled.{IsStepped, reporting}
use Rattle.bipr.specs.Sequenced.{AreStepsDrawn, AreTooMany, events_before, last_noted, rows_asked}
use Rattle.bipr.specs.Wording.{report_text}
use Rattle.bipr.specs.declared.commands.steps.StepsArguments.{StepsArguments}
use Rattle.bipr.proofs.ScheduledLemmas.{has_stepped, is_run}

-- an option that is given, or isn't
pub is_given : {X : Type 0} (given : Option X) → is_some given ≡ true → given ≢ None
is_given None is = λ same. cc
is_given (Some x) is = λ same. cc

pub isnt_given : {X : Type 0} (given : Option X) → is_some given ≡ false → given ≡ None
isnt_given None is = refl
isnt_given (Some x) is = cc

module _ (p : Planned) (asked : StepsArguments) (schedule : List ℕ) (w v : WorldContent)
    (es : List Event) (report : Report) (answer : Answer) (keep : WorldsKeepTheirPlan)
    (new : IsNewWorld p asked.base w) (shared : IsSharedAtFirst asked.resolver p w.bank.sharing)
    (says : IsEventText p schedule es) (run : IsRunOfEvents es w v report)
    (ran : IsModelRun v.plan.model v.bank.base v.trace)
    (is : answer ≡ reporting (text_of p.model v.trace) (report_text report))
    (reads : grants_of p.model (text_of p.model v.trace) ≡ Ok v.trace) where
  abbrev stepped_so : IsStepped p asked.base asked.resolver schedule report answer
  stepped_so =
      let more = steps_grow es run.dids w v run.steps in
      has_stepped p asked.base asked.resolver schedule answer es w v report is says new shared run
      (is_run p asked.base es w v report (text_of p.model v.trace) keep new run ran
      (more.0, more.1, ap (λ (r : Report). r.grants) run.sums ∙ more.2) reads)

  -- it has this picture
  pub steps_drawn : (dids : List (Option Did)) (picture : List ℕ)
      → IsSequenceChart (events_before asked.rows) (last_noted asked.rows) w es dids v picture
      → report ≡ report_of dids → AreStepsDrawn p asked schedule report answer picture
  steps_drawn dids picture chart sums =
      record { stepped = stepped_so; dids = dids; chart = chart; sums = sums }

  -- or it is too much for one
  pub steps_too_many : most_rows < rows_asked asked.rows report.events
      → AreTooMany p asked schedule
  steps_too_many many =
      record { report = report; plain = answer; stepped = stepped_so; many = many }
