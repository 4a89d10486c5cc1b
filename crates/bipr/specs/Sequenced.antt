-- The answer to a schedule whose steps are drawn in a file.
use Rattle.std.specs.Borrow.{Bor}
use Rattle.std.specs.Option.{option_map_or}
use Rattle.std.specs.Prelude.{List, None, Option, Some, [], min, ℕ, ◌+◌, ◌-◌, ◌<◌, ◌≡◌, ◌≤◌, ⊤}
use Rattle.std.specs.Prelude.{false}
use Rattle.bip_core.specs.Runs.{report_of}
use Rattle.bip_core.specs.declared.events.Did.{Did}
use Rattle.bip_core.specs.declared.runs.Report.{Report}
use Rattle.bip_partition.specs.Plans.{Planned}
use Rattle.bip_sequence.specs.Notes.{count_event_rows}
use Rattle.bip_sequence.specs.Sequences.{IsSequenceChart}
use Rattle.bip_answers.specs.Answers.{complaining}
use Rattle.bip_answers.specs.Charted.{most_rows}
use Rattle.bip_answers.specs.Wording.{chart_refusal}
use Rattle.bip_answers.specs.declared.answers.Answer.{Answer}
use Rattle.bip_answers.specs.declared.answers.Status.TheVariants.{Refused}
use Rattle.bipr.specs.Hosted.{Hosts}
use Rattle.bipr.specs.Recorded.{keeping}
use Rattle.bipr.specs.Scheduled.{IsScheduleAnswered, IsScheduleRefused, IsStepped}
use Rattle.bipr.specs.Stops.{out_of_memory, unwritten_text}
use Rattle.bipr.specs.Streams.{Put}
use Rattle.bipr.specs.declared.commands.steps.StepsArguments.{StepsArguments}
use Rattle.bipr.specs.declared.sequenced.StepRows.{StepRows}

-- the rows that are asked for end where they begin, or later; or before that
abbrev pub AreRowsIn : StepRows → Type 0
AreRowsIn rows = in_order rows.to
  where
    in_order : Option ℕ → Type 0
    in_order None = ⊤
    in_order (Some last) = rows.from ≤ last

abbrev pub AreRowsOut : StepRows → Type 0
AreRowsOut rows = out_of_order rows.to
  where
    out_of_order : Option ℕ → Type 0
    out_of_order None = ⊥
    out_of_order (Some last) = last < rows.from

-- the greatest number that an event can have
abbrev pub greatest_event : ℕ
greatest_event = 18446744073709551615

-- how many events come before the first one that is drawn, and up to which number they are asked
-- for
abbrev pub events_before : StepRows → ℕ
events_before rows = rows.from - 1

abbrev pub last_asked : StepRows → ℕ
last_asked rows = option_map_or (λ last. last) rows.to greatest_event

-- up to which number events are noted: no more than have room in a picture
abbrev pub last_noted : StepRows → ℕ
last_noted rows = min (last_asked rows) (min greatest_event (events_before rows + most_rows))

-- how many of so many events are asked to be drawn
abbrev pub rows_asked : StepRows → ℕ → ℕ
rows_asked rows events = count_event_rows (events_before rows) (last_asked rows) events

-- the events of a schedule lead from the new world to another one, with this answer, and this is
-- the sequence chart of those that are asked for
pub record AreStepsDrawn (p : Planned) (asked : StepsArguments) (schedule : List ℕ)
    (report : Report) (plain : Answer) (picture : List ℕ) : Type 0 where
  pub stepped : IsStepped p asked.base asked.resolver schedule report plain
  pub dids : List (Option Did)
  pub chart : IsSequenceChart (events_before asked.rows) (last_noted asked.rows) stepped.first
      stepped.events dids stepped.last picture
  pub sums : report ≡ report_of dids

-- the events of a schedule lead to an answer, and more of them are asked for than have room in a
-- picture
pub record AreTooMany (p : Planned) (asked : StepsArguments) (schedule : List ℕ) : Type 0 where
  pub report : Report
  pub plain : Answer
  pub stepped : IsStepped p asked.base asked.resolver schedule report plain
  pub many : most_rows < rows_asked asked.rows report.events

-- the answer to a schedule whose steps are drawn in the file that a path names
pub data IsScheduleDrawn (p : Planned) (hosts : Hosts) (asked : StepsArguments) (path : List ℕ)
    (schedule : List ℕ) : Answer → Type 0 where
  -- its events are done, and the picture of them is kept in the file
  drawn : (report : Report) (plain : Answer) (picture : List ℕ)
      → AreStepsDrawn p asked schedule report plain picture
      → rows_asked asked.rows report.events ≤ most_rows
      → IsScheduleDrawn p hosts asked path schedule (keeping plain path picture)
  -- they have too many rows
  too_many : AreTooMany p asked schedule
      → IsScheduleDrawn p hosts asked path schedule (complaining Refused (chart_refusal most_rows))
  -- the file can't be made
  unmade : hosts.makes path false
      → IsScheduleDrawn p hosts asked path schedule (complaining Refused unwritten_text)
  -- the text is no schedule
  undrawn : (answer : Answer) → IsScheduleRefused p schedule answer
      → IsScheduleDrawn p hosts asked path schedule answer
  -- memory is out
  undrawn_lacking : IsScheduleDrawn p hosts asked path schedule out_of_memory

-- the answer to a schedule, drawn where that is asked for; what is drawn isn't told
pub data IsScheduleShown (p : Planned) (hosts : Hosts) (asked : StepsArguments) (schedule : List ℕ)
    : List Put → Answer → Type 0 where
  not_drawn : (told : List Put) (answer : Answer) → asked.chart_in ≡ None
      → IsScheduleAnswered p asked.base asked.resolver asked.is_told schedule told answer
      → IsScheduleShown p hosts asked schedule told answer
  drawn_in : (path : Bor (List ℕ)) (answer : Answer) → asked.chart_in ≡ Some path
      → IsScheduleDrawn p hosts asked path.now schedule answer
      → IsScheduleShown p hosts asked schedule [] answer
