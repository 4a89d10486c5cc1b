-- The answer to a schedule: the trace of the world to which its events lead, and their report.
use Rattle.std.specs.Prelude.{Bool, Err, List, None, Ok, Option, Result, Some, [], false, true}
use Rattle.std.specs.Prelude.{ℕ, ◌++◌, ◌∷◌, ◌≡◌, ◌≢◌}
use Rattle.std.specs.declared.alloc.AllocError.{AllocError}
use Rattle.bip_core.specs.Runs.{AreSteps, IsRunOfEvents, report_of}
use Rattle.bip_core.specs.Starting.{IsNewWorld}
use Rattle.bip_core.specs.Worlds.{WorldContent}
use Rattle.bip_core.specs.declared.events.Did.{Did}
use Rattle.bip_core.specs.declared.events.Event.{Event}
use Rattle.bip_core.specs.declared.runs.Report.{Report}
use Rattle.bip_partition.specs.Plans.{Planned}
use Rattle.bip_replay.specs.Replays.{IsRunOf}
use Rattle.bip_replay.specs.Writing.{text_of}
use Rattle.bip_replay.specs.declared.faults.TraceFault.TheVariants.{Memory}
use Rattle.bip_replay.specs.declared.faults.TraceFault.{TraceFault}
use Rattle.bip_schedule.specs.Schedules.{IsEventText, IsScheduleFault}
use Rattle.bip_tell.specs.Lines.{AreToldFrom}
use Rattle.bip_answers.specs.Answers.{complaining}
use Rattle.bipr.specs.Resolvers.{IsSharedAtFirst}
use Rattle.bipr.specs.Stops.{out_of_memory, unwritten_text}
use Rattle.bipr.specs.Streams.{AreOut, IsLastUnheard, Put, texts}
use Rattle.bipr.specs.Wording.{report_text, schedule_refusal}
use Rattle.bip_answers.specs.declared.answers.Answer.{Answer}
use Rattle.bip_answers.specs.declared.answers.Status.TheVariants.{Done, Refused}
use Rattle.bipr.specs.declared.commands.steps.StepsArguments.{StepsArguments}
use Rattle.bipr.specs.declared.resolvers.Resolver.{Resolver}

-- a trace on standard output, and a report on standard error
abbrev pub reporting : List ℕ → List ℕ → Answer
reporting trace report =
    record { status = Done; output = trace; complaint = report; file = None }

-- the events of a schedule lead from the new world of a plan above a base, whose bank is the
-- resolver's, to one with this trace, and this is their report; the trace is that of a run of the
-- model, of as many grants; and both are answered
pub record IsStepped (p : Planned) (base : ℕ) (resolver : Resolver) (schedule : List ℕ)
    (report : Report) (answer : Answer) : Type 0 where
  pub events : List Event
  pub first : WorldContent
  pub last : WorldContent
  pub says : IsEventText p schedule events
  pub new : IsNewWorld p base first
  pub shared : IsSharedAtFirst resolver p first.bank.sharing
  pub ran : IsRunOfEvents events first last report
  pub run : IsRunOf p.model base (text_of p.model last.trace) report.grants
  pub is : answer ≡ reporting (text_of p.model last.trace) (report_text report)

-- the same, where what is in flight at first was told, and each event on the way by its line
pub record IsToldStepped (p : Planned) (base : ℕ) (resolver : Resolver) (schedule : List ℕ)
    (report : Report) (told : List Put) (answer : Answer) : Type 0 where
  pub stepped : IsStepped p base resolver schedule report answer
  pub dids : List (Option Did)
  pub lines : AreToldFrom stepped.first stepped.events dids (texts told) stepped.last
  pub heard : AreOut told
  pub sums : report ≡ report_of dids

-- the first events of a schedule are done, each told by its line, behind what is in flight at first
pub record IsToldUntil (p : Planned) (base : ℕ) (resolver : Resolver) (schedule : List ℕ)
    (told : List Put) : Type 0 where
  pub done : List Event
  pub rest : List Event
  pub dids : List (Option Did)
  pub first : WorldContent
  pub last : WorldContent
  pub says : IsEventText p schedule (done ++ rest)
  pub new : IsNewWorld p base first
  pub shared : IsSharedAtFirst resolver p first.bank.sharing
  pub lines : AreToldFrom first done dids (texts told) last

-- a text that is no schedule is refused by its first fault
pub record IsScheduleRefused (p : Planned) (schedule : List ℕ) (answer : Answer) : Type 0 where
  pub number : ℕ
  pub fault : TraceFault
  pub other : fault ≢ Memory
  pub why : IsScheduleFault p schedule number fault
  pub is : answer ≡ complaining Refused (schedule_refusal number fault)

-- the answer to the text of a schedule for a plan, with a resolver's bank, from a base
pub data IsScheduleAnswer (p : Planned) (base : ℕ) (resolver : Resolver) (schedule : List ℕ)
    : Answer → Type 0 where
  -- its events are done
  stepped : (report : Report) (answer : Answer) → IsStepped p base resolver schedule report answer
      → IsScheduleAnswer p base resolver schedule answer
  -- the text is none
  no_schedule : (answer : Answer) → IsScheduleRefused p schedule answer
      → IsScheduleAnswer p base resolver schedule answer

-- the same, where each event is told on the way
pub data IsToldAnswer (p : Planned) (base : ℕ) (resolver : Resolver) (schedule : List ℕ)
    : List Put → Answer → Type 0 where
  -- all its events are done and told
  told_stepped : (report : Report) (told : List Put) (answer : Answer)
      → IsToldStepped p base resolver schedule report told answer
      → IsToldAnswer p base resolver schedule told answer
  -- a text isn't out, and no more events are done
  unheard : (told : List Put) → IsLastUnheard told → IsToldUntil p base resolver schedule told
      → IsToldAnswer p base resolver schedule told (complaining Refused unwritten_text)
  -- memory is out on the way
  told_lacking : (told : List Put) → AreOut told → IsToldUntil p base resolver schedule told
      → IsToldAnswer p base resolver schedule told out_of_memory

-- the answer where events are told, if that is asked for
pub data IsScheduleAnswered (p : Planned) (base : ℕ) (resolver : Resolver) (is_told : Bool)
    (schedule : List ℕ) : List Put → Answer → Type 0 where
  quietly : (answer : Answer) → is_told ≡ false
      → IsScheduleAnswer p base resolver schedule answer
      → IsScheduleAnswered p base resolver is_told schedule [] answer
  aloud : (told : List Put) (answer : Answer) → is_told ≡ true
      → IsToldAnswer p base resolver schedule told answer
      → IsScheduleAnswered p base resolver is_told schedule told answer
  -- the text is none, so nothing is told
  untold : (answer : Answer) → IsScheduleRefused p schedule answer
      → IsScheduleAnswered p base resolver is_told schedule [] answer
  -- memory is out before the first event
  lacking : IsScheduleAnswered p base resolver is_told schedule [] out_of_memory

-- What contracts of private functions say.

-- the answer to a schedule by what is asked of it
abbrev pub IsScheduleOf : Planned → StepsArguments → List ℕ → List Put → Answer → Type 0
IsScheduleOf p asked schedule told answer =
    IsScheduleAnswered p asked.base asked.resolver asked.is_told schedule told answer

-- of the events that are left none is done, or the first one is, or was skipped
pub data IsAtMostOneDone (rest : List Event) (w v : WorldContent) : Type 0 where
  none_more : v ≡ w → IsAtMostOneDone rest w v
  one_more : (next : Event) (more : List Event) (did : Option Did) → rest ≡ next ∷ more
      → AreSteps (next ∷ []) (did ∷ []) w v → IsAtMostOneDone rest w v

-- what telling events comes to
pub data IsTelling (events : List Event) (w v : WorldContent) (told : List Put)
    : Result (Option Report) AllocError → Type 0 where
  all_told : (dids : List (Option Did)) (report : Report) → AreToldFrom w events dids (texts told) v
      → AreOut told → report ≡ report_of dids → IsTelling events w v told (Ok (Some report))
  one_unheard : (done rest : List Event) (dids : List (Option Did)) → events ≡ done ++ rest
      → AreToldFrom w done dids (texts told) v → IsLastUnheard told
      → IsTelling events w v told (Ok None)
  nothing_told : (e : AllocError) → told ≡ [] → v ≡ w → IsTelling events w v told (Err e)
  some_told : (done rest : List Event) (dids : List (Option Did)) (last : WorldContent)
      (e : AllocError) → events ≡ done ++ rest → AreToldFrom w done dids (texts told) last
      → AreOut told → IsAtMostOneDone rest last v → IsTelling events w v told (Err e)
