-- The answer to a chart: the picture of the run with which a trace begins, beside its verdict.
use Rattle.std.specs.Prelude.{◌≡◌, ◌<◌, ◌≤◌, ◌-◌, ◌&&◌, ℕ, Bool, true, List, length, nat_le, nat_lt}
use Rattle.std.specs.Prelude.{Err, Ok, Option, None, Result, Some, [], codes, false, map, take, ⊤}
use Rattle.std.specs.Borrow.{Bor}
use Rattle.std.specs.Option.{option_map_or}
use Rattle.bip_draw.specs.Charts.{HasDrawn, Sketch, chart_of, rows_of}
use Rattle.bip_draw.specs.Ends.{AddsRunnable}
use Rattle.bip_draw.specs.declared.charts.Excerpt.{Excerpt}
use Rattle.bip_draw.specs.declared.feet.Foot.TheVariants.{Fault, Nothing, Runnable}
use Rattle.bip_draw.specs.declared.feet.Foot.{Foot}
use Rattle.bip_model.specs.declared.grants.Grant.{Grant}
use Rattle.bip_model.specs.declared.numbering.CompId.{CompId}
use Rattle.bip_model.specs.declared.parts.System.{System}
use Rattle.bip_model.specs.declared.partitions.Partition.{Partition}
use Rattle.bip_reader.specs.Texts.{Means}
use Rattle.bip_replay.specs.Items.{one_more}
use Rattle.bip_replay.specs.Lines.{grant_on}
use Rattle.bip_replay.specs.Replays.{IsFirstFault, IsLineFault, IsRunOf}
use Rattle.bip_replay.specs.Runs.{state_after, used_after}
use Rattle.bip_replay.specs.Traces.{grants_of}
use Rattle.bip_replay.specs.declared.faults.BookFault.{BookFault}
use Rattle.bip_replay.specs.declared.faults.ReplayFault.{ReplayFault}
use Rattle.bip_replay.specs.declared.faults.ReplayFault.TheVariants as replay_fault
use Rattle.bip_answers.specs.Answers.{IsAnswer, complaining, saying}
use Rattle.bip_answers.specs.Selected.{AreFoundNames, IsFirstUnknown}
use Rattle.bip_answers.specs.Wording.{chart_refusal, run_text, unknown_text, verdict_text}
use Rattle.bip_answers.specs.declared.answers.Answer.{Answer}
use Rattle.bip_answers.specs.declared.answers.Status.{Status}
use Rattle.bip_answers.specs.declared.answers.Status.TheVariants.{Done, NotARun, Refused}
use Rattle.bip_answers.specs.declared.charted.Shown.{Shown}

-- the rows that are shown end where they begin, or later; or before that
abbrev pub AreRowsInOrder : Shown → Type 0
AreRowsInOrder shown = in_order shown.to
  where
    in_order : Option ℕ → Type 0
    in_order None = ⊤
    in_order (Some last) = shown.from ≤ last

abbrev pub AreRowsDisordered : Shown → Type 0
AreRowsDisordered shown = out_of_order shown.to
  where
    out_of_order : Option ℕ → Type 0
    out_of_order None = ⊥
    out_of_order (Some last) = last < shown.from

-- how many rows a chart has at most
abbrev pub most_rows : ℕ
most_rows = 2000

-- what a chart shows of a run, where these rows are asked for, and lanes for these components alone
-- or for all
abbrev pub excerpt_of : Shown → Option (Bor (List CompId)) → Excerpt
excerpt_of shown only =
    record {
      first = shown.from - 1;
      last = shown.to;
      most = most_rows;
      values = shown.values;
      only = only;
    }

-- these components have lanes: those that words name, or all where none are given
abbrev pub AreLanesOf : System → Option (Bor (List (Bor (List ℕ)))) → Option (Bor (List CompId))
    → Type 0
AreLanesOf m None None = ⊤
AreLanesOf m (Some words) (Some comps) =
    AreFoundNames m.component_names words.now (map (λ (c : CompId). c.0) comps.now)
AreLanesOf m words comps = ⊥

-- how many rows are shown
abbrev pub count_shown : System → Excerpt → List Grant → ℕ
count_shown m x grants = length (rows_of m x grants)

-- whether the row behind so many is shown
abbrev pub shows_behind : Excerpt → ℕ → Bool
shows_behind x count =
    nat_le x.first count && option_map_or (λ last. nat_lt count last) x.last true

-- why a run stops, where a trace has this verdict: the verdict without its line feed
abbrev pub reason_of : Answer → Option (List ℕ)
reason_of verdict = by_status verdict.status
  where
    by_status : Status → Option (List ℕ)
    by_status NotARun = Some (take (length verdict.output - 1) verdict.output)
    by_status status = None

-- the run with which a trace begins, by its grants: all of the trace, or what stands before the
-- first line whose grant can't be next; and the verdict on the trace
pub data IsFrontRun (m : System) (base : ℕ) (trace : List ℕ) : List Grant → Answer → Type 0 where
  whole : (count : ℕ) → (is : IsRunOf m base trace count)
      → IsFrontRun m base trace is.grants (saying Done (run_text count))
  stopped : (number : ℕ) (fault : BookFault)
      → (first : IsFirstFault m base trace number (replay_fault.NotARun fault))
      → IsFrontRun m base trace first.grants (saying NotARun (verdict_text m trace number fault))

-- what stands behind the rows of a run of so many grants, which has this verdict and behind which
-- this may run: nothing where the row behind all isn't shown; why the run stops there; or that
abbrev pub IsFootOf : Excerpt → ℕ → Answer → List ℕ → Foot → Type 0
IsFootOf x count verdict runnable Nothing = shows_behind x count ≡ false
IsFootOf x count verdict runnable (Fault why) =
    (shows_behind x count ≡ true) × (reason_of verdict ≡ Some why.now)
IsFootOf x count verdict runnable (Runnable text) =
    (shows_behind x count ≡ true) × (reason_of verdict ≡ None) × (text.now ≡ runnable)

-- what is answered of a run that has this verdict: its chart, of the rows that are shown and what
-- stands behind them, with the verdict beside it; or that it has too many rows
pub data IsPictured (m : System) (classes : Partition) (x : Excerpt) (grants : List Grant)
    (verdict : Answer) : Answer → Type 0 where
  -- what may run there may run in the state to which the grants lead
  fitting : (foot : Foot) (runnable : List ℕ) → count_shown m x grants ≤ most_rows
      → IsFootOf x (length grants) verdict runnable foot
      → AddsRunnable m (state_after m grants) [] runnable
      → IsPictured m classes x grants verdict
      (record {
        status = verdict.status;
        output = chart_of m classes x grants foot;
        complaint = verdict.output;
        file = None;
      })
  too_long : most_rows < count_shown m x grants
      → IsPictured m classes x grants verdict (complaining Refused (chart_refusal most_rows))

-- the answer to the chart of the texts of a model and a trace, from a base
pub data IsChartAnswer (base : ℕ) (shown : Shown) (model trace : List ℕ) : Answer → Type 0 where
  -- the run with which the trace begins is drawn
  charted : (m : System) (classes : Partition) (only : Option (Bor (List CompId)))
      (grants : List Grant) (verdict answer : Answer) → Means model m classes
      → AreLanesOf m shown.only only → IsFrontRun m base trace grants verdict
      → IsPictured m classes (excerpt_of shown only) grants verdict answer
      → IsChartAnswer base shown model trace answer
  -- this word, the first such of those that name lanes, names no component
  no_lane : (m : System) (classes : Partition) (words : Bor (List (Bor (List ℕ))))
      (word : List ℕ) → Means model m classes → shown.only ≡ Some words
      → IsFirstUnknown m.component_names words.now word
      → IsChartAnswer base shown model trace
      (complaining Refused (unknown_text (codes "component") word))
  -- a text is refused, as a replay refuses it
  uncharted : (answer : Answer) → IsAnswer base model trace answer → answer.status ≡ Refused
      → IsChartAnswer base shown model trace answer

-- What contracts of private functions say.

-- the answer where the model's text is one, and this is to be shown
pub data IsExcerptAnswer (base : ℕ) (m : System) (classes : Partition) (x : Excerpt)
    (model trace : List ℕ) : Answer → Type 0 where
  picture : (grants : List Grant) (verdict answer : Answer) → IsFrontRun m base trace grants verdict
      → IsPictured m classes x grants verdict answer
      → IsExcerptAnswer base m classes x model trace answer
  no_picture : (answer : Answer) → IsAnswer base model trace answer → answer.status ≡ Refused
      → IsExcerptAnswer base m classes x model trace answer

-- what a replay says of a trace, which has these grants, or has them before its first line at fault
abbrev pub IsFollowed : System → ℕ → List ℕ → Result ℕ (ℕ × ReplayFault) → List Grant → Type 0
IsFollowed m base trace (Ok count) gs = (grants_of m trace ≡ Ok gs) × (count ≡ length gs)
IsFollowed m base trace (Err (number, fault)) gs =
    (first : IsFirstFault m base trace number fault) × (first.grants ≡ gs)

-- what a line does to a chart that has drawn these grants: that of the line is drawn, too, if it
-- has one; or the line is at fault behind them
abbrev pub TakesLine : ℕ → List Grant → List ℕ → Result (Unit {0}) ReplayFault → Sketch → Type 0
TakesLine base gs line (Ok u) c =
    (said : Option Grant) × (grant_on c.model line ≡ Ok said) × HasDrawn base (one_more gs said) c
TakesLine base gs line (Err fault) c =
    IsLineFault c.model (state_after c.model gs) (used_after base gs) line fault
    × HasDrawn base gs c
