-- What the program may answer to the words of a command line.
use Rattle.std.specs.Borrow.{Bor}
use Rattle.std.specs.Prelude.{◌≡◌, ◌≢◌, ◌||◌, Bool, List, [], ℕ, Option, None, Some, false}
use Rattle.std.specs.Prelude.{Ok, Result, is_some}
use Rattle.std.specs.Prelude.{Err, codes, true}
use Rattle.std.specs.declared.io.Error as io_error
use Rattle.clap.specs.Words.{Row, Text}
use Rattle.clap.specs.declared.error.Error.{Error}
use Rattle.bip_host.specs.declared.hosts.Limits.{Limits}
use Rattle.bip_answers.specs.Answers.{IsAnswer, IsCheckShowing, IsRefusedModel, code_of}
use Rattle.bip_answers.specs.Charted.{AreRowsDisordered, AreRowsInOrder, IsChartAnswer}
use Rattle.bip_program.specs.Asked.{IsExplainAsked}
use Rattle.bipr.specs.CommandLine.{AreStepsAsked, IsCanonAsked, IsChartAsked, IsCheckAsked}
use Rattle.bipr.specs.CommandLine.{IsDrawingAsked, IsExploreAsked, IsRunAsked, IsSeedAsked}
use Rattle.bipr.specs.CommandLine.{IsVerdictAsked, IsWalkAsked}
use Rattle.bipr.specs.Endings.{Ends, EndsExplaining}
use Rattle.bipr.specs.Explored.{IsExploreAnswer}
use Rattle.bipr.specs.Hosted.{Hosts, IsPlanHosted, limits_of}
use Rattle.bipr.specs.Loading.{IsModelText, IsNoModel, IsPlannedText, OfPlan, OfText, OfTexts}
use Rattle.bipr.specs.Loading.{Silently}
use Rattle.bip_program.specs.Programs.{IsNoParse, IsParse, Parsed}
use Rattle.bipr.specs.Refusals.{IsErrorAnswer, IsWordsAnswer}
use Rattle.bip_answers.specs.Renderings.{IsDrawingShowing, IsRenderingAnswer}
use Rattle.bip_answers.specs.Selected.{IsPartAnswer}
use Rattle.bipr.specs.Resolvers.{NeedsCentral}
use Rattle.bipr.specs.Seeds.{IsSeedAnswer}
use Rattle.bipr.specs.Sources.{is_on_output}
use Rattle.bipr.specs.Sequenced.{AreRowsIn, AreRowsOut, IsScheduleShown}
use Rattle.bipr.specs.Stops.{bad_base, bad_chart, bad_limits, bad_part, bad_range, bad_record}
use Rattle.bipr.specs.Stops.{bad_seeds}
use Rattle.bipr.specs.Stops.{bad_showing, out_of_memory, words_need_central}
use Rattle.bipr.specs.Streams.{Put, Puts}
use Rattle.bip_answers.specs.Views.{IsViewed, verdict_view}
use Rattle.bipr.specs.Walked.{IsWalkAnswer, walks_of}
use Rattle.bip_answers.specs.declared.answers.Answer.{Answer}
use Rattle.bip_answers.specs.declared.answers.Status.{Status}
use Rattle.bipr.specs.declared.commands.Command.{Command}
use Rattle.bipr.specs.declared.commands.Command.TheVariants as command
use Rattle.bipr.specs.declared.commands.canon.CanonArguments.{CanonArguments}
use Rattle.bipr.specs.declared.commands.chart.ChartArguments.{ChartArguments}
use Rattle.bipr.specs.declared.commands.check.CheckArguments.{CheckArguments}
use Rattle.bipr.specs.declared.commands.draw.DrawArguments.{DrawArguments}
use Rattle.bipr.specs.declared.commands.explore.ExploreArguments.{ExploreArguments}
use Rattle.bipr.specs.declared.commands.replay.ReplayArguments.{ReplayArguments}
use Rattle.bipr.specs.declared.commands.replay.VerdictArguments.{VerdictArguments}
use Rattle.bipr.specs.declared.commands.run.RunArguments.{RunArguments}
use Rattle.bipr.specs.declared.commands.seed.SeedArguments.{SeedArguments}
use Rattle.bipr.specs.declared.commands.steps.StepsArguments.{StepsArguments}
use Rattle.bipr.specs.declared.commands.walk.WalkArguments.{WalkArguments}
use Rattle.bipr.specs.declared.inputs.InputFault.{InputFault}
use Rattle.bip_answers.specs.declared.renderings.Rendering.TheVariants.{Canonical}
use Rattle.bipr.specs.declared.walked.Walks.{Walks}

-- Below, reading the text that a path names may give what `gives` says, and running the nodes of a
-- plan in a form, for so many turns each, what `hosts` says.

-- what the check that is asked for may tell on the way and answer
abbrev pub IsCheck : (List ℕ → Result (List ℕ) InputFault → Type 0) → CheckArguments → List Put
    → Answer → Type 0
IsCheck gives asked =
    OfText gives asked.model.now (λ model. Silently (IsCheckShowing model asked.with_plan))

-- the canonical text
abbrev pub IsCanon : (List ℕ → Result (List ℕ) InputFault → Type 0) → CanonArguments → List Put
    → Answer → Type 0
IsCanon gives asked =
    OfText gives asked.model.now (λ model. Silently (IsRenderingAnswer Canonical model))

-- a part of a model is asked to be drawn
abbrev pub is_of_part : DrawArguments → Bool
is_of_part asked = is_some asked.only || is_some asked.only_class

-- the words that an option gives; none where it isn't given
abbrev pub words_of : Option (Bor (List (Bor Text))) → List (Bor Text)
words_of None = []
words_of (Some given) = given.now

-- the drawing, of the model or of its plan, or of a part of the model
pub data IsDraw (gives : List ℕ → Result (List ℕ) InputFault → Type 0) (asked : DrawArguments) :
    List Put → Answer → Type 0 where
  -- a part of a plan is asked for: no path is read
  plan_of_part : is_of_part asked ≡ true → asked.with_plan ≡ true → IsDraw gives asked [] bad_part
  -- of the components and the classes that words name
  of_part : (told : List Put) (answer : Answer) → is_of_part asked ≡ true
      → asked.with_plan ≡ false
      → OfText gives asked.model.now
      (λ model. Silently (IsPartAnswer (words_of asked.only) (words_of asked.only_class) model))
      told answer → IsDraw gives asked told answer
  of_whole : (told : List Put) (answer : Answer) → is_of_part asked ≡ false
      → OfText gives asked.model.now
      (λ model. Silently (IsDrawingShowing model asked.with_plan)) told answer
      → IsDraw gives asked told answer

-- what may be answered to a model's text and a trace's, where this answers both
abbrev pub IsReplayBy : (List ℕ → List ℕ → Answer → Type 0)
    → (List ℕ → Result (List ℕ) InputFault → Type 0) → ReplayArguments → List Put → Answer → Type 0
IsReplayBy answers gives asked =
    OfTexts IsModelText IsNoModel (λ model trace. Silently (answers model trace)) gives
    asked.model.now asked.trace.now

-- the replay: the verdict on the two texts
abbrev pub IsReplay : (List ℕ → Result (List ℕ) InputFault → Type 0) → ReplayArguments → List Put
    → Answer → Type 0
IsReplay gives asked = IsReplayBy (IsAnswer asked.base) gives asked

-- the same, and where the run leads, where that is asked for
abbrev pub IsReplayShowing : (List ℕ → Result (List ℕ) InputFault → Type 0) → VerdictArguments
    → List Put → Answer → Type 0
IsReplayShowing gives asked =
    IsReplayBy (IsViewed (verdict_view asked.with_end) asked.replay.base) gives asked.replay

-- the chart
pub data IsChart (gives : List ℕ → Result (List ℕ) InputFault → Type 0) (asked : ChartArguments) :
    List Put → Answer → Type 0 where
  -- the rows are out of order: no path is read
  disordered : AreRowsDisordered asked.shown → IsChart gives asked [] bad_range
  -- the chart of the two texts
  charted : (told : List Put) (answer : Answer) → AreRowsInOrder asked.shown
      → IsReplayBy (IsChartAnswer asked.replay.base asked.shown) gives asked.replay told answer
      → IsChart gives asked told answer

-- steps are to be drawn and told
abbrev pub AreDrawnAndTold : StepsArguments → Type 0
AreDrawnAndTold asked = (asked.chart_in ≢ None) × (asked.is_told ≡ true)

-- the steps of a schedule
pub data IsSteps (gives : List ℕ → Result (List ℕ) InputFault → Type 0) (hosts : Hosts)
    (asked : StepsArguments) : List Put → Answer → Type 0 where
  -- the rows are out of order: nothing is read
  of_no_rows : AreRowsOut asked.rows → IsSteps gives hosts asked [] bad_range
  -- they are to be drawn and told: nothing is read
  of_both : AreRowsIn asked.rows → AreDrawnAndTold asked → IsSteps gives hosts asked [] bad_showing
  -- a picture is asked for on standard output: nothing is read
  of_stream : AreRowsIn asked.rows → ¬ AreDrawnAndTold asked → is_on_output asked.chart_in ≡ true
      → IsSteps gives hosts asked [] bad_chart
  -- the schedule for the plan of the text that the path names is done
  of_schedule : (told : List Put) (answer : Answer) → AreRowsIn asked.rows
      → ¬ AreDrawnAndTold asked → is_on_output asked.chart_in ≡ false
      → OfTexts IsPlannedText IsRefusedModel
      (λ model schedule. OfPlan model (λ p. IsScheduleShown p hosts asked schedule)) gives
      asked.model.now asked.schedule.now told answer
      → IsSteps gives hosts asked told answer

-- the exploring
abbrev pub IsExplore : (List ℕ → Result (List ℕ) InputFault → Type 0) → ExploreArguments
    → List Put → Answer → Type 0
IsExplore gives asked =
    OfText gives asked.model.now (λ model. OfPlan model (λ p. IsExploreAnswer p asked))

-- the schedule of a seed
abbrev pub IsSeedWritten : (List ℕ → Result (List ℕ) InputFault → Type 0) → SeedArguments
    → List Put → Answer → Type 0
IsSeedWritten gives asked =
    OfText gives asked.model.now (λ model. OfPlan model (λ p. Silently (IsSeedAnswer p asked)))

-- the walks of the model
pub data AreWalksWritten (gives : List ℕ → Result (List ℕ) InputFault → Type 0)
    (asked : WalkArguments) : List Put → Answer → Type 0 where
  -- not just one of a seed and of how many seeds is said: no path is read
  unclear : walks_of asked.seed asked.seeds ≡ None → AreWalksWritten gives asked [] bad_seeds
  -- these walks of the plan of the text that the path names
  clear : (walks : Walks) (told : List Put) (answer : Answer)
      → walks_of asked.seed asked.seeds ≡ Some walks
      → OfText gives asked.model.now
      (λ model. OfPlan model (λ p. Silently (IsWalkAnswer p asked walks))) told answer
      → AreWalksWritten gives asked told answer

-- the run of nodes as threads
pub data IsThreadedRun (gives : List ℕ → Result (List ℕ) InputFault → Type 0) (hosts : Hosts)
    (asked : RunArguments) : List Put → Answer → Type 0 where
  -- not just one of turns and of grants is said: nothing is read
  of_no_limits : limits_of asked.turns asked.grants ≡ None
      → IsThreadedRun gives hosts asked [] bad_limits
  -- row words are asked for without the central bank: nothing is read
  of_no_bank : (limits : Limits) → limits_of asked.turns asked.grants ≡ Some limits
      → NeedsCentral asked.form → IsThreadedRun gives hosts asked [] words_need_central
  -- a record is asked for on standard output: nothing is read
  of_output : (limits : Limits) → limits_of asked.turns asked.grants ≡ Some limits
      → ¬ NeedsCentral asked.form → is_on_output asked.record_in ≡ true
      → IsThreadedRun gives hosts asked [] bad_record
  -- the plan of the text that the path names is run
  of_bank : (limits : Limits) (told : List Put) (answer : Answer)
      → limits_of asked.turns asked.grants ≡ Some limits → ¬ NeedsCentral asked.form
      → is_on_output asked.record_in ≡ false
      → OfText gives asked.model.now
      (λ model. OfPlan model (λ p. Silently (IsPlanHosted p hosts asked limits))) told answer
      → IsThreadedRun gives hosts asked told answer

-- ---- the commands

-- their names
abbrev pub spelled : Command → Text
spelled command.Canon = codes "canon"
spelled command.Chart = codes "chart"
spelled command.Check = codes "check"
spelled command.Draw = codes "draw"
spelled command.Replay = codes "replay"
spelled command.Steps = codes "steps"
spelled command.Explore = codes "explore"
spelled command.Seed = codes "seed"
spelled command.Run = codes "run"
spelled command.Walk = codes "walk"

-- what may be told on the way and then answered to a command that is asked for by some arguments;
-- or it is asked by none: the base is out of range
pub data IsAnsweredTo {A : Type 0} (asks : A → Type 0) (does : A → List Put → Answer → Type 0) :
    List Put → Answer → Type 0 where
  asked : (arguments : A) (told : List Put) (answer : Answer) → asks arguments
      → does arguments told answer → IsAnsweredTo asks does told answer
  unasked : ((arguments : A) → ¬ asks arguments) → IsAnsweredTo asks does [] bad_base

-- the same of each command, by the values behind it
abbrev pub IsSaidTo : Command → List Row → (List ℕ → Result (List ℕ) InputFault → Type 0)
    → Hosts → List Put → Answer → Type 0
IsSaidTo command.Canon values gives hosts =
    IsAnsweredTo (IsCanonAsked values) (IsCanon gives)
IsSaidTo command.Chart values gives hosts = IsAnsweredTo (IsChartAsked values) (IsChart gives)
IsSaidTo command.Check values gives hosts = IsAnsweredTo (IsCheckAsked values) (IsCheck gives)
IsSaidTo command.Draw values gives hosts = IsAnsweredTo (IsDrawingAsked values) (IsDraw gives)
IsSaidTo command.Replay values gives hosts =
    IsAnsweredTo (IsVerdictAsked values) (IsReplayShowing gives)
IsSaidTo command.Steps values gives hosts =
    IsAnsweredTo (AreStepsAsked values) (IsSteps gives hosts)
IsSaidTo command.Explore values gives hosts = IsAnsweredTo (IsExploreAsked values) (IsExplore gives)
IsSaidTo command.Seed values gives hosts =
    IsAnsweredTo (IsSeedAsked values) (IsSeedWritten gives)
IsSaidTo command.Run values gives hosts =
    IsAnsweredTo (IsRunAsked values) (IsThreadedRun gives hosts)
IsSaidTo command.Walk values gives hosts =
    IsAnsweredTo (IsWalkAsked values) (AreWalksWritten gives)

-- what words that name a command, with the values behind it, may tell on the way and answer; those
-- that name none are refused as if the base were out of range
pub data IsCarriedOutBy (parsed : Option (Text × List Row))
    (gives : List ℕ → Result (List ℕ) InputFault → Type 0) (hosts : Hosts)
    : List Put → Answer → Type 0 where
  named : (command : Command) (values : List Row) (told : List Put) (answer : Answer)
      → parsed ≡ Some (spelled command, values) → IsSaidTo command values gives hosts told answer
      → IsCarriedOutBy parsed gives hosts told answer
  unnamed : ((command : Command) (values : List Row) → parsed ≢ Some (spelled command, values))
      → IsCarriedOutBy parsed gives hosts [] bad_base

-- what the program may tell on the way and answer to words; and whether it is asked to explain what
-- it refuses
pub data IsCarriedOut (words : List Text)
    (gives : List ℕ → Result (List ℕ) InputFault → Type 0) (hosts : Hosts)
    : Bool → List Put → Answer → Type 0 where
  parsed : (said : Parsed) (is_asked : Bool) (told : List Put) (answer : Answer)
      → IsParse words said → IsExplainAsked said is_asked
      → IsCarriedOutBy said.command gives hosts told answer
      → IsCarriedOut words gives hosts is_asked told answer
  unparsed : (error : Error) (answer : Answer) → IsNoParse words error
      → IsErrorAnswer error answer → IsCarriedOut words gives hosts false [] answer
  lacking : IsCarriedOut words gives hosts false [] out_of_memory

-- how the program may end, where asking for its words may give these, and reading a path these
-- texts: the words can't be had, or they were carried out
pub data IsProgramEnd {S : Type 0} (asks : Result (List Text) io_error.Error → Type 0)
    (gives : List ℕ → Result (List ℕ) InputFault → Type 0) (hosts : Hosts)
    (says : List ℕ → Bool → Type 0)
    (writes : S → List ℕ → Bool → S → Type 0) (before after : S) (status : Status) : Type 0 where
  wordless : (error : io_error.Error) → asks (Err error)
      → Ends (IsWordsAnswer error) says hosts.keeps (Puts writes before after) status
      → IsProgramEnd asks gives hosts says writes before after status
  worded : (words : List Text) → asks (Ok words)
      → EndsExplaining (IsCarriedOut words gives hosts) says hosts.keeps writes before after
      status
      → IsProgramEnd asks gives hosts says writes before after status

-- the code with which the process ends is that of a status with which the program may end
abbrev pub IsExit : (Status → Type 0) → ℕ → Type 0
IsExit ends code = (status : Status) × ends status × (code ≡ code_of status)
