-- The answer to a seed of a plan: the schedule of its events.
use Rattle.std.specs.Prelude.{◌<◌, ◌≤◌, ℕ, List, length}
use Rattle.bip_core.specs.Runs.{IsLossless}
use Rattle.bip_model.specs.declared.grants.Grant.{Grant}
use Rattle.bip_partition.specs.Plans.{Planned}
use Rattle.bip_schedule.specs.Exploring.{IsSeedTrace}
use Rattle.bip_schedule.specs.Schedules.{IsEventText}
use Rattle.bip_schedule.specs.Writing.{IsWritten}
use Rattle.bip_answers.specs.Answers.{saying}
use Rattle.bipr.specs.Inputs.{most_bytes}
use Rattle.bipr.specs.Resolvers.{IsSharedAtFirst}
use Rattle.bipr.specs.Stops.{long_schedule, out_of_memory}
use Rattle.bip_answers.specs.declared.answers.Answer.{Answer}
use Rattle.bip_answers.specs.declared.answers.Status.TheVariants.{Done}
use Rattle.bipr.specs.declared.commands.seed.SeedArguments.{SeedArguments}

-- a text is the schedule of the events that are drawn from a seed in the new world of a plan, with
-- a resolver's bank, from base 0: their one spelling; all of them were done, and this is the trace
-- to which they led
pub record IsSeedSchedule (p : Planned) (asked : SeedArguments) (schedule : List ℕ) : Type 0 where
  pub trace : List Grant
  pub of_seed : IsSeedTrace (IsSharedAtFirst asked.resolver p) p 0 asked.draws asked.seed trace
  pub whole : IsLossless of_seed.report
  pub written : IsWritten p of_seed.events schedule
  pub reads : IsEventText p schedule of_seed.events

-- the answer to a seed
pub data IsSeedAnswer (p : Planned) (asked : SeedArguments) : Answer → Type 0 where
  -- its schedule
  scheduled : (schedule : List ℕ) → IsSeedSchedule p asked schedule → length schedule ≤ most_bytes
      → IsSeedAnswer p asked (saying Done schedule)
  -- that is longer than any text that is read
  too_long : (schedule : List ℕ) → IsSeedSchedule p asked schedule → most_bytes < length schedule
      → IsSeedAnswer p asked long_schedule
  -- memory is out
  seed_lacking : IsSeedAnswer p asked out_of_memory
