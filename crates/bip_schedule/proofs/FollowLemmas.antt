-- Schedules that are followed line by line: what the lines so far lead to, one line more, and the
-- end.
use Rattle.std.proofs.Common.{◌≡◌, ℕ, ◌-◌, ◌<◌, length, List, [], ◌∷◌, None, Some, Ok}
use Rattle.std.proofs.Common.{arith, subst, sym, take}
use Rattle.std.proofs.Math.Seq.{take-append_seam}
use Rattle.bip_core.proofs.RunLemmas.{events_counted, no_steps, run_more}
use Rattle.bip_core.specs.Runs.{AddsUp, IsEventCounted, IsRunOfEvents, report_of}
use Rattle.bip_core.specs.Worlds.{WorldContent}
use Rattle.bip_core.specs.declared.events.Event.{Event}
use Rattle.bip_core.specs.declared.runs.Report.{Report}
use Rattle.bip_model.proofs.LineLemmas.{line_read}
use Rattle.bip_model.specs.Texts.{lines, numbered_lines}
use Rattle.bip_partition.specs.Plans.{AreStations, Planned}
use Rattle.bip_replay.proofs.ItemLemmas.{has_read-below}
use Rattle.bip_replay.specs.Items.{items_from}
use Rattle.bip_schedule.specs.Following.{IsFollowedUntil}
use Rattle.bip_schedule.specs.Known.{StationedPlan}
use Rattle.bip_schedule.specs.Lines.{event_on}
use Rattle.bip_schedule.specs.Schedules.{IsEventText}
use Rattle.bip_schedule.specs.Writing.{HasSpelling}
use Rattle.bip_schedule.proofs.ScheduleLemmas.{HasTested, tested-events, tested-line}
use Rattle.bip_schedule.proofs.ScheduleLemmas.{tested-none}

-- the lines that are left of a text, and what the events of those before them lead to
pub record HasFollowed (p : Planned) (text : List ℕ) (by : StationedPlan)
    (left : List (ℕ × List ℕ)) (w v : WorldContent) (report : Report) : Type 0 where
  pub tested : HasTested p text by left
  pub ran : IsRunOfEvents tested.events w v report
  pub adds_up : AddsUp report

pub followed-none : (p : Planned) (text : List ℕ) (by : StationedPlan) (all : List (ℕ × List ℕ))
    (w : WorldContent) (report : Report) → by.plan ≡ p → AreStations by.plan by.stations
    → all ≡ numbered_lines text → report ≡ report_of [] → AddsUp report
    → HasFollowed p text by all w w report
unfolding tested-none
followed-none p text by all w report plan are whole is adds_up =
    subst (λ (ls : List (ℕ × List ℕ)). HasFollowed p text by ls w w report) (sym whole) (record {
      tested = tested-none p text by plan are;
      ran = no_steps w report is;
      adds_up = adds_up;
    })

pub followed-nothing : (p : Planned) (text line : List ℕ) (by then : StationedPlan) (n : ℕ)
    (left after : List (ℕ × List ℕ)) (w v : WorldContent) (report : Report)
    → HasFollowed p text by left w v report → left ≡ (n, line) ∷ after
    → Ok None ≡ event_on by.plan by.stations line → then ≡ by
    → HasFollowed p text then after w v report
unfolding tested-line
followed-nothing p text line by then n left after w v report so next says same =
    subst (λ (b : StationedPlan). HasFollowed p text b after w v report) (sym same) (record {
      tested = tested-line p text line by n left after None so.tested next says tt;
      ran = so.ran;
      adds_up = so.adds_up;
    })

pub followed-event : (p : Planned) (text line : List ℕ) (by then : StationedPlan) (n : ℕ)
    (left after : List (ℕ × List ℕ)) (w v x : WorldContent) (report later : Report) (e : Event)
    → HasFollowed p text by left w v report → left ≡ (n, line) ∷ after
    → Ok (Some e) ≡ event_on by.plan by.stations line → HasSpelling by.plan by.stations e
    → then ≡ by → IsEventCounted e v x report later → AddsUp later
    → HasFollowed p text then after w x later
unfolding tested-line
followed-event p text line by then n left after w v x report later e so next says spelled same
    counted adds_up =
    subst (λ (b : StationedPlan). HasFollowed p text b after w x later) (sym same) (record {
      tested = tested-line p text line by n left after (Some e) so.tested next says spelled;
      ran = run_more so.tested.events w v x report later e so.ran counted;
      adds_up = adds_up;
    })

-- there are fewer events than bytes
pub followed-below : (p : Planned) (text line : List ℕ) (by : StationedPlan) (n : ℕ)
    (left after : List (ℕ × List ℕ)) (w v : WorldContent) (report : Report)
    → HasFollowed p text by left w v report → left ≡ (n, line) ∷ after
    → report.events < length text
followed-below p text line by n left after w v report so next =
    let few = has_read-below (event_on by.plan by.stations) text line n left after so.tested.events
    so.tested.read next in
    let counted = events_counted so.tested.events w v report so.ran in
    omega (arith, few, counted)

-- the events before a line are done
pub followed-until : (p : Planned) (text line : List ℕ) (by : StationedPlan) (n : ℕ)
    (left after : List (ℕ × List ℕ)) (w v : WorldContent) (report : Report)
    → HasFollowed p text by left w v report → left ≡ (n, line) ∷ after
    → IsFollowedUntil p text n w v
followed-until p text line by n left after w v report so next =
    let read = so.tested.read in
    let is = line_read text read.front left after n line read.are_left next in
    let back : n - 1 ≡ length read.front = omega (arith, is.number) in
    let front : take (n - 1) (lines text) ≡ read.front =
    rw (back, is.split) (take-append_seam read.front (line ∷ is.rest)) in
    let on = event_on by.plan by.stations in
    let reads : items_from on 1 (take (n - 1) (lines text)) ≡ Ok so.tested.events =
    rw front read.reads in
    record {
      stations = by.stations;
      are = subst (λ (q : Planned). AreStations q by.stations) so.tested.plan so.tested.are;
      events = so.tested.events;
      reads = subst (λ (q : Planned). items_from (event_on q by.stations) 1
          (take (n - 1) (lines text)) ≡ Ok so.tested.events) so.tested.plan reads;
      report = report;
      ran = so.ran;
    }

pub followed-all : (p : Planned) (text : List ℕ) (by : StationedPlan) (left : List (ℕ × List ℕ))
    (w v : WorldContent) (report : Report) → HasFollowed p text by left w v report → left ≡ []
    → (events : List Event) × IsEventText p text events × IsRunOfEvents events w v report
followed-all p text by left w v report so none =
    (so.tested.events, tested-events p text by left so.tested none, so.ran)
