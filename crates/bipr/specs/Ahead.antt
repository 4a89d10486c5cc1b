-- What is explored ahead of the seed whose turn it is: rounds of blocks of seeds.
use Rattle.std.specs.Prelude.{All, Some, ℕ, length, max, min, slice_get, ◌*◌, ◌+◌, ◌-◌, ◌/◌, ◌<◌}
use Rattle.std.specs.Prelude.{◌≡◌, ◌≤◌}
use Rattle.bip_partition.specs.Plans.{Planned}
use Rattle.bip_schedule.specs.Exploring.{AreSeedFigures, SeedFigures}
use Rattle.bipr.specs.Resolvers.{IsSharedAtFirst}
use Rattle.bipr.specs.declared.ahead.Ahead.{Ahead}
use Rattle.bipr.specs.declared.commands.explore.ExploreArguments.{ExploreArguments}

-- figures are those of the seeds behind so many, explored with a resolver's bank: of as many of
-- them as they count
abbrev pub AreExploredBehind : Planned → ExploreArguments → ℕ → SeedFigures → Type 0
AreExploredBehind p asked from figures =
    AreSeedFigures (IsSharedAtFirst asked.resolver p) p 0 asked.draws (from + 1)
    figures.tally.traces figures

-- how many seeds of so many events a block has, of those that are left for so many blocks: an
-- eighth of its share, and no more than have four million events; but one at least
abbrev pub block_size : ℕ → ℕ → ℕ → ℕ
block_size left blocks events = max (min (left / blocks / 8) (4000000 / max events 1)) 1

-- the last seed of a round that begins behind so many: a block in each thread, and no more threads
-- than seeds
abbrev pub round_end : ExploreArguments → ℕ → ℕ → ℕ
round_end asked jobs done =
    let left = asked.seeds - done in
    let blocks = min jobs left in
    done + blocks * block_size left blocks asked.draws.count

-- blocks stand one behind the other, up to the round's last seed at most, and of each the first
-- seeds are explored, with these figures
pub record AreAhead (p : Planned) (asked : ExploreArguments) (ahead : Ahead) : Type 0 where
  pub sized : 0 < ahead.size
  pub within : ahead.from + length ahead.blocks.items * ahead.size ≤ ahead.last
  pub ends : ahead.last ≤ asked.seeds
  pub few : All (λ (block : SeedFigures). block.tally.traces ≤ ahead.size) ahead.blocks.items
  pub explored : (place : ℕ) (block : SeedFigures) → slice_get ahead.blocks.items place ≡ Some block
      → AreExploredBehind p asked (ahead.from + place * ahead.size) block

-- these are the figures of the block that stands behind so many seeds, of which some are explored
pub record IsBlockBehind (ahead : Ahead) (done : ℕ) (block : SeedFigures) : Type 0 where
  pub place : ℕ
  pub at : slice_get ahead.blocks.items place ≡ Some block
  pub behind : done ≡ ahead.from + place * ahead.size
  pub some : 0 < block.tally.traces
