-- The answer to exploring a plan by many seeds, and what is told on the way.
use Rattle.std.specs.Prelude.{List, [], ℕ, zero, suc, nat_lt, if◌then◌else◌, ◌&&◌, ◌*◌, ◌++◌}
use Rattle.std.specs.Prelude.{Bool, ◌-◌, ◌/◌, ◌∷◌, ◌≡◌, ◌≤◌, false, true}
use Rattle.bip_partition.specs.Plans.{Planned}
use Rattle.bip_draw.specs.Tallies.{tally_text}
use Rattle.bip_model.specs.declared.parts.System.{System}
use Rattle.bip_schedule.specs.Exploring.{AreSeedFigures, SeedFigures}
use Rattle.bip_schedule.specs.declared.exploring.ExploreFault.TheVariants as explore_fault
use Rattle.bip_schedule.specs.declared.exploring.ExploreFault.{ExploreFault}
use Rattle.bipr.specs.Resolvers.{IsSharedAtFirst}
use Rattle.bipr.specs.Scheduled.{reporting}
use Rattle.bipr.specs.Stops.{out_of_memory}
use Rattle.bipr.specs.Streams.{Put, texts}
use Rattle.bipr.specs.Wording.{progress_text, report_text, seeds_text, timed_text}
use Rattle.bip_answers.specs.declared.answers.Answer.{Answer}
use Rattle.bipr.specs.declared.commands.explore.ExploreArguments.{ExploreArguments}
use Rattle.bipr.specs.declared.stops.Stop.TheVariants as stop
use Rattle.bipr.specs.declared.stops.Stop.{Stop}

-- with this seed another hundredth of the seeds is done
abbrev pub ends_hundredth : ℕ → ℕ → Bool
ends_hundredth seeds seed = nat_lt ((seed - 1) * 100 / seeds) (seed * 100 / seeds)

-- the line that is told when a seed is done with which another hundredth is
abbrev pub told_at : ExploreArguments → ℕ → List (List ℕ)
told_at asked seed =
    if asked.is_told && ends_hundredth asked.seeds seed
    then progress_text seed asked.seeds ∷ [] else []

-- what may be told when a seed is done
pub data IsProgressAt (asked : ExploreArguments) (seed : ℕ) : List (List ℕ) → Type 0 where
  -- no more than that line
  by_count : IsProgressAt asked seed (told_at asked seed)
  -- between such lines one with the time: how many seeds are done, and how many events they did
  by_time : (rate left : ℕ) → asked.is_told ≡ true → ends_hundredth asked.seeds seed ≡ false
      → IsProgressAt asked seed
      (timed_text seed asked.seeds (seed * asked.draws.count) rate left ∷ [])

-- what may be told until so many seeds are done
pub data IsProgressUntil (asked : ExploreArguments) : ℕ → List (List ℕ) → Type 0 where
  no_progress : IsProgressUntil asked zero []
  more_progress : (done : ℕ) (told more : List (List ℕ)) → IsProgressUntil asked done told
      → IsProgressAt asked (suc done) more → IsProgressUntil asked (suc done) (told ++ more)

-- what is said beside the answer, where that is asked for: the sums of the reports of the seeds,
-- and the tally of their traces
abbrev pub exploring_stats : System → Bool → SeedFigures → List ℕ
exploring_stats m true figures = report_text figures.report ++ tally_text m figures.tally
exploring_stats m false figures = []

-- the answer to exploring a plan with a resolver's bank, and what is told on the way
pub data IsExploreAnswer (p : Planned) (asked : ExploreArguments) :
    List Put → Answer → Type 0 where
  -- the trace of each seed is a run of the model: that one is none can't be; and these are the
  -- figures of all
  explored : (figures : SeedFigures) (told : List Put)
      → AreSeedFigures (IsSharedAtFirst asked.resolver p) p 0 asked.draws 1 asked.seeds figures
      → IsProgressUntil asked asked.seeds (texts told)
      → IsExploreAnswer p asked told
      (reporting (seeds_text asked.seeds) (exploring_stats p.model asked.with_stats figures))
  -- so many seeds are explored, and memory is out
  ends_without_memory : (done : ℕ) (figures : SeedFigures) (told : List Put) → done ≤ asked.seeds
      → AreSeedFigures (IsSharedAtFirst asked.resolver p) p 0 asked.draws 1 done figures
      → IsProgressUntil asked done (texts told)
      → IsExploreAnswer p asked told out_of_memory

-- What contracts of private functions say.

-- what stops the exploring where a seed isn't explored: that its trace is no run, or want of memory
abbrev pub stop_of_fault : ExploreFault → Stop
stop_of_fault (explore_fault.NotARun seed why) = stop.SeedNotARun seed
stop_of_fault explore_fault.Memory = stop.OutOfMemory
