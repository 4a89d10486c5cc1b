-- The laws of answers, and of the replay of texts that are known.
use Rattle.std.specs.Prelude.{◌≡◌, ◌↔◌, ◌≤◌, ◌⊎◌, ℕ, Bool, false, true, List, [], Ok, Result}
use Rattle.std.specs.Prelude.{length}
use Rattle.bip_host.specs.declared.faults.HostFault.{HostFault}
use Rattle.bip_partition.specs.Plans.{Planned}
use Rattle.bip_core.specs.Runs.{IsLossless}
use Rattle.bip_core.specs.declared.events.Event.{Event}
use Rattle.bip_core.specs.declared.runs.Report.{Report}
use Rattle.bip_model.specs.declared.parts.System.{System}
use Rattle.bip_model.specs.declared.partitions.Partition.{Partition}
use Rattle.bip_reader.specs.Texts.{Means}
use Rattle.bip_replay.specs.Replays.{IsFirstFault, IsRunOf}
use Rattle.bip_replay.specs.Writing.{text_of}
use Rattle.bip_replay.specs.declared.faults.BookFault.{BookFault}
use Rattle.bip_replay.specs.declared.faults.ReplayFault.TheVariants as replay_fault
use Rattle.bip_replay.specs.declared.faults.TraceFault.{TraceFault}
use Rattle.bip_schedule.specs.Exploring.{IsSeedRun, SeedRun}
use Rattle.bip_schedule.specs.declared.drawing.Draws.{Draws}
use Rattle.bip_schedule.specs.Laws.{IsFault}
use Rattle.bip_schedule.specs.Schedules.{IsEventText}
use Rattle.bip_answers.specs.Answers.{HasPlan, IsAnswer, IsCheckAnswer, IsRefusedModel, complaining}
use Rattle.bip_answers.specs.Answers.{saying}
use Rattle.bipr.specs.Commands.{IsReplay}
use Rattle.bipr.specs.Dividing.{AreParts, after_mark, before_mark}
use Rattle.bipr.specs.Hosted.{IsHostAnswer}
use Rattle.bipr.specs.Inputs.{IsReading, Named, bytes, most_bytes}
use Rattle.bipr.specs.Loading.{IsModelText, are_joined}
use Rattle.bip_answers.specs.Renderings.{IsRenderingAnswer}
use Rattle.bipr.specs.Recorded.{IsRecord}
use Rattle.bipr.specs.Resolvers.{IsSharedAtFirst}
use Rattle.bipr.specs.Scheduled.{IsScheduleAnswered, IsStepped, IsToldStepped, reporting}
use Rattle.bipr.specs.Seeds.{IsSeedSchedule}
use Rattle.bipr.specs.Stops.{out_of_memory, unread_text}
use Rattle.bipr.specs.Streams.{AreOut, Put}
use Rattle.bip_answers.specs.Wording.{run_text}
use Rattle.bipr.specs.Wording.{report_text}
use Rattle.bip_answers.specs.declared.answers.Answer.{Answer}
use Rattle.bip_answers.specs.declared.answers.Status.{Status}
use Rattle.bip_answers.specs.declared.answers.Status.TheVariants.{Done, NotARun, Refused}
use Rattle.bipr.specs.declared.commands.replay.ReplayArguments.{ReplayArguments}
use Rattle.bipr.specs.declared.commands.seed.SeedArguments.{SeedArguments}
use Rattle.bipr.specs.declared.hosted.Hosted.{Hosted}
use Rattle.bip_answers.specs.declared.renderings.Rendering.{Rendering}
use Rattle.bipr.specs.declared.resolvers.Resolver.{Resolver}

-- two texts in one are parted by lines
abbrev pub PartedByLines : Type 0
PartedByLines = (text : List ℕ) → AreParts text (before_mark text) (after_mark text)

-- two texts and a base have one answer
abbrev pub OneAnswer : Type 0
OneAnswer = (base : ℕ) (model trace : List ℕ) (a b : Answer)
    → IsAnswer base model trace a → IsAnswer base model trace b → a ≡ b

-- a text has one answer to its check
abbrev pub OneCheckAnswer : Type 0
OneCheckAnswer =
    (text : List ℕ) (a b : Answer) → IsCheckAnswer text a → IsCheckAnswer text b → a ≡ b

-- a text has one answer to its drawing, and one to its canonical text
abbrev pub OneRenderingAnswer : Type 0
OneRenderingAnswer =
    (rendering : Rendering) (text : List ℕ) (a b : Answer)
    → IsRenderingAnswer rendering text a → IsRenderingAnswer rendering text b → a ≡ b

-- every two texts and base have an answer
abbrev pub SomeAnswer : Type 0
SomeAnswer = (base : ℕ) (model trace : List ℕ)
    → (answer : Answer) × IsAnswer base model trace answer

-- with each resolver, what `steps` writes where it ends as done is a trace of which `replay`, of
-- the same model from the same base, says that it is a run, of as many grants as the report beside
-- it says
abbrev pub StepsReplay : Type 0
StepsReplay =
    (base : ℕ) (resolver : Resolver) (is_told : Bool) (model schedule : List ℕ) (p : Planned)
    (told : List Put) (answer : Answer) → HasPlan model p
    → IsScheduleAnswered p base resolver is_told schedule told answer → answer.status ≡ Done
    → (report : Report) × (answer.complaint ≡ report_text report)
    × IsAnswer base model answer.output (saying Done (run_text report.grants))

-- and so it is with what `run` writes where it ends as done, from base 0, whatever a host gave: of
-- as many grants as those are
abbrev pub HostsReplay : Type 0
HostsReplay =
    (given : Result Hosted HostFault) (model : List ℕ) (p : Planned) (with_stats : Bool)
    (answer : Answer) → HasPlan model p → IsHostAnswer (λ gives. gives ≡ given) p with_stats answer
    → answer.status ≡ Done
    → (host : Hosted) × (given ≡ Ok host)
    × IsAnswer 0 model answer.output (saying Done (run_text (length host.report.grants.items)))

-- two answers of the same schedule, whose events are done, are one: with each resolver, where no
-- event was skipped and no message lost
abbrev pub OneStepsAnswer : Type 0
OneStepsAnswer =
    (p : Planned) (base : ℕ) (resolver : Resolver) (schedule : List ℕ) (report other : Report)
    (a b : Answer) → IsStepped p base resolver schedule report a
    → IsStepped p base resolver schedule other b → IsLossless report → IsLossless other → a ≡ b

-- and where each event is told, the answer is that of the same schedule where none is
abbrev pub ToldOrNot : Type 0
ToldOrNot =
    (p : Planned) (base : ℕ) (resolver : Resolver) (schedule : List ℕ) (report other : Report)
    (told : List Put) (a b : Answer) → IsToldStepped p base resolver schedule report told a
    → IsStepped p base resolver schedule other b → IsLossless report → IsLossless other → a ≡ b

-- with each resolver, a seed that is explored again does the same events, and comes to the same:
-- one trace with its end, and one report
abbrev pub OneTraceOfASeed : Type 0
OneTraceOfASeed =
    (p : Planned) (resolver : Resolver) (draws : Draws) (seed : ℕ) (m n : SeedRun)
    → (one : IsSeedRun (IsSharedAtFirst resolver p) p 0 draws seed m)
    → (other : IsSeedRun (IsSharedAtFirst resolver p) p 0 draws seed n)
    → (one.of_seed.events ≡ other.of_seed.events) × (m ≡ n)

-- the steps of a seed's schedule are the seed's: with its resolver they have its trace and its
-- report, where no event was skipped and no message lost
abbrev pub SeedsAreSteps : Type 0
SeedsAreSteps =
    (p : Planned) (asked : SeedArguments) (schedule : List ℕ) (report : Report) (answer : Answer)
    → (seed : IsSeedSchedule p asked schedule)
    → IsStepped p 0 asked.resolver schedule report answer → IsLossless report
    → answer ≡ reporting (text_of p.model seed.trace) (report_text seed.of_seed.report)

-- the steps of a record have the trace that was recorded, with the resolver of the run, where no
-- event was skipped and no message lost
abbrev pub RecordsAreSteps : Type 0
RecordsAreSteps =
    (p : Planned) (resolver : Resolver) (trace schedule : List ℕ) (report : Report)
    (answer : Answer) → IsRecord p resolver trace schedule
    → IsStepped p 0 resolver schedule report answer → IsLossless report → answer.output ≡ trace

-- a text is the trace of a run of the model that another text means; or its first line at fault has
-- a grant that can't be next
abbrev pub IsRunText : ℕ → List ℕ → List ℕ → Type 0
IsRunText base model trace =
    (m : System) × (classes : Partition) × (count : ℕ) × Means model m classes
    × IsRunOf m base trace count

abbrev pub IsStoppedText : ℕ → List ℕ → List ℕ → Type 0
IsStoppedText base model trace =
    (m : System) × (classes : Partition) × (number : ℕ) × (fault : BookFault)
    × Means model m classes × IsFirstFault m base trace number (replay_fault.NotARun fault)

-- the status of a replay tells which it is: 0 exactly where the trace is that of a run, 4 exactly
-- where it stops being one at a line, and 1 for all other texts
pub record StatusTells (base : ℕ) (model trace : List ℕ) (status : Status) : Type 0 where
  pub done : (status ≡ Done) ↔ IsRunText base model trace
  pub stopped : (status ≡ NotARun) ↔ IsStoppedText base model trace
  pub others : (¬ IsRunText base model trace) → (¬ IsStoppedText base model trace)
      → status ≡ Refused

abbrev pub StatusesTell : Type 0
StatusesTell =
    (base : ℕ) (model trace : List ℕ) (answer : Answer) → IsAnswer base model trace answer
    → StatusTells base model trace answer.status

-- the status of a check is 0 exactly where the text has a plan, and else 1
abbrev pub CheckStatusesTell : Type 0
CheckStatusesTell =
    (model : List ℕ) (answer : Answer) → IsCheckAnswer model answer
    → ((answer.status ≡ Done) ↔ ((p : Planned) × HasPlan model p))
    × ((answer.status ≡ Refused) ↔ IsRefusedModel model answer)

-- where the steps of a schedule end as done its text is events, and each line that was told is out;
-- where the text has a fault nothing is told, and it is refused, or memory is out
abbrev pub StepsStatusesTell : Type 0
StepsStatusesTell =
    (p : Planned) (base : ℕ) (resolver : Resolver) (is_told : Bool) (schedule : List ℕ)
    (told : List Put) (answer : Answer)
    → IsScheduleAnswered p base resolver is_told schedule told answer
    → (answer.status ≡ Done
    → ((events : List Event) × IsEventText p schedule events) × AreOut told)
    × ((number : ℕ) (fault : TraceFault) → IsFault p schedule number fault
    → (told ≡ []) × ((answer.status ≡ Refused) ⊎ (answer ≡ out_of_memory)))

-- what may be answered where the two paths name these texts, and nothing is told on the way
pub data IsOfTwo (asked : ReplayArguments) (model trace : List ℕ) : List Put → Answer → Type 0 where
  -- the answer of the two texts, neither of which is too long; the trace may be where the model's
  -- text is none
  answered : (answer : Answer) → length model ≤ most_bytes
      → (IsModelText model → length trace ≤ most_bytes)
      → IsAnswer asked.base model trace answer → IsOfTwo asked model trace [] answer
  model_unread : IsOfTwo asked model trace [] (complaining Refused (unread_text asked.model.now))
  trace_unread : IsModelText model
      → IsOfTwo asked model trace [] (complaining Refused (unread_text asked.trace.now))
  lacking : IsOfTwo asked model trace [] out_of_memory

-- what may be answered where one input has both texts, and nothing is told on the way
pub data IsOfOne (asked : ReplayArguments) (text : List ℕ) : List Put → Answer → Type 0 where
  one_answered : (answer : Answer) → length text ≤ most_bytes
      → IsAnswer asked.base (before_mark text) (after_mark text) answer
      → IsOfOne asked text [] answer
  one_unread : IsOfOne asked text [] (complaining Refused (unread_text asked.model.now))
  one_lacking : IsOfOne asked text [] out_of_memory

-- what paths name decides what is answered: the first path names the model, the second the trace
abbrev pub TwoTextsDecide : Type 0
TwoTextsDecide =
    (named : List ℕ → Named) (asked : ReplayArguments) (model trace : List ℕ) (told : List Put)
    (answer : Answer) → are_joined asked.model.now asked.trace.now ≡ false
    → named asked.model.now ≡ bytes model → named asked.trace.now ≡ bytes trace
    → IsReplay (λ path. IsReading (named path)) asked told answer
    → IsOfTwo asked model trace told answer

-- and so does the text of one input
abbrev pub OneTextDecides : Type 0
OneTextDecides =
    (named : List ℕ → Named) (asked : ReplayArguments) (text : List ℕ) (told : List Put)
    (answer : Answer) → are_joined asked.model.now asked.trace.now ≡ true
    → named asked.model.now ≡ bytes text
    → IsReplay (λ path. IsReading (named path)) asked told answer → IsOfOne asked text told answer
