-- Exploring: many seeds, each of whose traces is checked to be a run of the model, as it is.
use Rattle.std.specs.Fmt.{decimal}
use Rattle.std.specs.Prelude.{Bool, List, Ok, Result, codes, length, map, ⊤, ℕ, ◌++◌, ◌+◌}
use Rattle.std.specs.Prelude.{◌≡◌, ◌≤◌, ◌*◌, ◌∷◌}
use Rattle.std.specs.List.{sum_by}
use Rattle.bip_bank.specs.Banks.{KeptBank}
use Rattle.bip_bank.specs.Sharing.{Sharing}
use Rattle.bip_core.specs.Runs.{AddsUp, IsLossless}
use Rattle.bip_core.specs.Starting.{IsNewWorld}
use Rattle.bip_core.specs.Worlds.{WorldContent}
use Rattle.bip_core.specs.declared.events.Event.{Event}
use Rattle.bip_core.specs.declared.runs.Report.{Report}
use Rattle.bip_model.specs.declared.grants.Grant.{Grant}
use Rattle.bip_model.specs.declared.parts.System.{System}
use Rattle.bip_partition.specs.Plans.{Planned}
use Rattle.bip_replay.specs.Faults.{IsFaultAt, text_of_step}
use Rattle.bip_replay.specs.Runs.{IsModelRun, standing_after}
use Rattle.bip_replay.specs.declared.faults.StepFault.{StepFault}
use Rattle.bip_schedule.specs.Seeding.{AreSeeded}
use Rattle.bip_schedule.specs.declared.drawing.Draws.{Draws}
use Rattle.bip_schedule.specs.declared.exploring.ExploreFault.TheVariants.{Memory, NotARun}
use Rattle.bip_schedule.specs.declared.exploring.ExploreFault.{ExploreFault}
use Rattle.bip_walk.specs.Tallies.{EachSeed, IsStuckAfter, Tallied, Traced, tally_of}

-- what stations share is what those of some bank do that may be made
abbrev pub IsSharedBy : {B E : Type 0} → (B → KeptBank) → (Result B E → Type 0) → Sharing → Type 0
IsSharedBy {B} kept made sharing = (bank : B) × made (Ok bank) × ((kept bank).sharing ≡ sharing)

-- the trace of a seed: that of a world to which the events drawn from it lead from the new one,
-- whose stations share this
pub record IsSeedTrace (shares : Sharing → Type 0) (p : Planned) (base : ℕ) (draws : Draws)
    (seed : ℕ) (trace : List Grant) : Type 0 where
  pub first : WorldContent
  pub last : WorldContent
  pub events : List Event
  pub report : Report
  pub new : IsNewWorld p base first
  pub shared : shares first.bank.sharing
  pub seeded : AreSeeded seed draws events first last report
  pub is : trace ≡ last.trace

-- what came of a seed: its trace with its end, and the report of its events
pub record SeedRun : Type 0 where
  pub traced : Traced
  pub report : Report

-- a seed came to this, all of its events were done, and its trace is a run of the model
pub record IsSeedRun (shares : Sharing → Type 0) (p : Planned) (base : ℕ) (draws : Draws) (seed : ℕ)
    (run : SeedRun) : Type 0 where
  pub named : run.traced.seed ≡ seed
  pub of_seed : IsSeedTrace shares p base draws seed run.traced.grants
  pub reported : run.report ≡ of_seed.report
  pub whole : IsLossless run.report
  pub is_run : IsModelRun p.model base run.traced.grants
  pub stuck : IsStuckAfter p.model run.traced.grants run.traced.is_stuck

-- the sums of reports
abbrev pub report_of_runs : List SeedRun → Report
report_of_runs runs =
    record {
      lost = sum_by (λ (run : SeedRun). run.report.lost) runs;
      events = sum_by (λ (run : SeedRun). run.report.events) runs;
      grants = sum_by (λ (run : SeedRun). run.report.grants) runs;
      refusals = sum_by (λ (run : SeedRun). run.report.refusals) runs;
      idle = sum_by (λ (run : SeedRun). run.report.idle) runs;
      skipped = sum_by (λ (run : SeedRun). run.report.skipped) runs;
    }

-- what seeds come to together: the sums of their reports, and the tally of their traces
pub record SeedFigures : Type 0 where
  pub report : Report
  pub tally : Tallied

-- over so many interactions
abbrev pub seed_figures : ℕ → List SeedRun → SeedFigures
seed_figures n runs =
    record {
      report = report_of_runs runs;
      tally = tally_of n (map (λ (run : SeedRun). run.traced) runs);
    }

-- figures join those of further seeds: of whatever seeds the two are, they are those of all
abbrev pub JoinsSeedFigures : SeedFigures → SeedFigures → SeedFigures → Type 0
JoinsSeedFigures old more new =
    (n : ℕ) (xs ys : List SeedRun) → old ≡ seed_figures n xs → more ≡ seed_figures n ys
    → new ≡ seed_figures n (xs ++ ys)

-- these are the figures of so many seeds, from the first one on
pub record AreSeedFigures (shares : Sharing → Type 0) (p : Planned) (base : ℕ) (draws : Draws)
    (first seeds : ℕ) (figures : SeedFigures) : Type 0 where
  pub runs : List SeedRun
  pub each : length runs ≡ seeds
  pub explored : EachSeed (IsSeedRun shares p base draws) first runs
  pub are : figures ≡ seed_figures (length p.model.interactions) runs

-- why a trace is no run: the grants before one of its grants are, and that has this fault then
pub record IsNoRun (m : System) (base : ℕ) (trace : List Grant) (fault : StepFault) : Type 0 where
  pub front : List Grant
  pub grant : Grant
  pub rest : List Grant
  pub whole : trace ≡ front ++ grant ∷ rest
  pub run : IsModelRun m base front
  pub why : IsFaultAt (standing_after m base front) grant fault

-- the number of a fault
abbrev pub number_of_explore : ExploreFault → ℕ
number_of_explore (NotARun seed fault) = 1
number_of_explore Memory = 2

-- the words of a fault
abbrev pub text_of_explore : ExploreFault → List ℕ
text_of_explore (NotARun seed fault) =
    codes "seed " ++ (decimal seed ++ (codes ": " ++ text_of_step fault))
text_of_explore Memory = codes "no memory"

-- What contracts of private functions say.

-- why the check of a seed's trace fails
abbrev pub IsCheckFault : System → ℕ → ℕ → List Grant → ExploreFault → Type 0
IsCheckFault m base seed trace (NotARun number fault) =
    (number ≡ seed) × IsNoRun m base trace fault
IsCheckFault m base seed trace Memory = ⊤

-- the sums of two reports
abbrev pub joined_report : Report → Report → Report
joined_report x y =
    record {
      lost = x.lost + y.lost;
      events = x.events + y.events;
      grants = x.grants + y.grants;
      refusals = x.refusals + y.refusals;
      idle = x.idle + y.idle;
      skipped = x.skipped + y.skipped;
    }

-- figures of seeds each of which has fewer than 2^32 events
pub record HaveFewEvents (figures : SeedFigures) : Type 0 where
  pub adds_up : AddsUp figures.report
  pub events : figures.report.events ≤ figures.tally.traces * 4294967295

-- what the check of a trace finds: a run behind which nothing may run, or something
pub record IsFoundRun (m : System) (base : ℕ) (trace : List Grant) (is_stuck : Bool) : Type 0 where
  pub run : IsModelRun m base trace
  pub stuck : IsStuckAfter m trace is_stuck
