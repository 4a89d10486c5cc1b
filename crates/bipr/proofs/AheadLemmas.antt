-- What is explored ahead, and the seeds that were explored so far.
use Rattle.std.proofs.Common.{◌≡◌, ◌+◌, ◌-◌, ◌*◌, ◌/◌, ◌%◌, ◌<◌, ◌≤◌, ℕ, [], arith}
use Rattle.std.proofs.Common.{length}
use Rattle.std.proofs.Common.{ap, subst, sym}
use Rattle.std.proofs.Math.Nat.{div-mul-le_self, mod-eq-sub-div-mul, mul-div_cancel}
use Rattle.std.proofs.Math.Nat.{mul-le-mul_right, mul-mod_left}
use Rattle.std.proofs.lemmas.Option.{slice_get_within}
use Rattle.bip_bank.specs.Sharing.{Sharing}
use Rattle.bip_partition.specs.Plans.{Planned}
use Rattle.bip_model.proofs.ListLemmas.{All-slice_get}
use Rattle.bip_schedule.proofs.FigureLemmas.{figures_counts, figures_front, figures_none}
use Rattle.bip_schedule.proofs.FigureLemmas.{figures_on}
use Rattle.bip_schedule.proofs.FigureLemmas.{figures_seeds}
use Rattle.bip_schedule.specs.Exploring.{AreSeedFigures, JoinsSeedFigures, SeedFigures}
use Rattle.bip_schedule.specs.Exploring.{seed_figures}
use Rattle.bipr.specs.Ahead.{AreAhead, AreExploredBehind, IsBlockBehind}
use Rattle.bipr.specs.Resolvers.{IsSharedAtFirst}
use Rattle.bipr.specs.declared.ahead.Ahead.{Ahead}
use Rattle.bipr.specs.declared.commands.explore.ExploreArguments.{ExploreArguments}

-- a place that is a multiple of the size is that of a block
pub placed : (from done size : ℕ) → from ≤ done → (done - from) % size ≡ 0
    → done ≡ from + (done - from) / size * size
placed from done size behind whole =
    let rest = mod-eq-sub-div-mul (done - from) size in
    let most = div-mul-le_self (done - from) size in
    omega arith

-- and the other way round
pub places_back : (from done size place : ℕ) → 0 < size → done ≡ from + place * size
    → (from ≤ done) × ((done - from) % size ≡ 0) × ((done - from) / size ≡ place)
places_back from done size place sized behind =
    let rest : done - from ≡ place * size = omega (arith, behind) in (
      omega (arith, behind),
      rw rest (mul-mod_left place size),
      rw rest (mul-div_cancel place sized),
    )

-- where nothing is ahead, each of its blocks is so
pub none_ahead : (p : Planned) (asked : ExploreArguments) (ahead : Ahead)
    → length ahead.blocks.items ≡ 0 → 0 < ahead.size → ahead.from ≡ 0
    → ahead.last ≤ asked.seeds → AreAhead p asked ahead
none_ahead p asked ahead none sized first ends =
    record {
      sized = sized;
      within = rw (none, first) (omega arith);
      ends = ends;
      few = λ k d within. absurd (omega (arith, none, within));
      explored = λ place block at. absurd
          (let within = slice_get_within ahead.blocks.items place block at in
          omega (arith, none, within));
    }

module _ (p : Planned) (asked : ExploreArguments) where
  abbrev Shares : Sharing → Type 0
  Shares x = IsSharedAtFirst asked.resolver p x

  -- no seed is explored
  pub none_explored : (from : ℕ) (x : SeedFigures)
      → x ≡ seed_figures (length p.model.interactions) []
      → AreExploredBehind p asked from x × (x.tally.traces ≡ 0)
  none_explored from x is =
      let none : x.tally.traces ≡ 0 = ap (λ (f : SeedFigures). f.tally.traces) is in (
        subst (λ n. AreSeedFigures Shares p 0 asked.draws (from + 1) n x) (sym none)
            (figures_none Shares p 0 asked.draws (from + 1) x is),
        none,
      )

  -- the first of those that are
  pub explored_until : (done : ℕ) (all : SeedFigures) → AreExploredBehind p asked 0 all
      → done ≤ all.tally.traces
      → (figures : SeedFigures) × AreSeedFigures Shares p 0 asked.draws 1 done figures
  explored_until done all are few =
      figures_front Shares p 0 asked.draws 1 all.tally.traces done all are few

  -- seeds that join those that were explored so far
  pub more_explored : (from next : ℕ) (all more new : SeedFigures)
      → AreExploredBehind p asked from all
      → AreExploredBehind p asked next more → next ≡ from + all.tally.traces
      → JoinsSeedFigures all more new → AreExploredBehind p asked from new
      × (new.tally.traces ≡ all.tally.traces + more.tally.traces)
  more_explored from next all more new one other at joins =
      let both = figures_on Shares p 0 asked.draws (from + 1) all.tally.traces (next + 1)
      more.tally.traces all more new one other (omega (arith, at)) joins in
      let count = figures_seeds Shares p 0 asked.draws (from + 1)
      (all.tally.traces + more.tally.traces) new both in (
        subst (λ (n : ℕ). AreSeedFigures Shares p 0 asked.draws (from + 1) n new) (sym count) both,
        count,
      )

  -- one seed alone
  pub one_explored : (done : ℕ) (x : SeedFigures)
      → AreSeedFigures Shares p 0 asked.draws (done + 1) 1 x
      → AreExploredBehind p asked done x × (x.tally.traces ≡ 1)
  one_explored done x is =
      let one = figures_seeds Shares p 0 asked.draws (done + 1) 1 x is in
      (subst (λ n. AreSeedFigures Shares p 0 asked.draws (done + 1) n x) (sym one) is, one)

  -- seeds that are explored are of all interactions
  pub explored_counts : (from : ℕ) (x : SeedFigures) → AreExploredBehind p asked from x
      → length x.tally.counts ≡ length p.model.interactions
  explored_counts from x is =
      figures_counts Shares p 0 asked.draws (from + 1) x.tally.traces x is

  -- a block that is explored ends with the last seed at most
  pub block_explored : (ahead : Ahead) (done : ℕ) (block : SeedFigures) → AreAhead p asked ahead
      → IsBlockBehind ahead done block
      → AreExploredBehind p asked done block × (done + block.tally.traces ≤ asked.seeds)
  block_explored ahead done block are is =
      let inside = slice_get_within ahead.blocks.items is.place block is.at in
      let few = All-slice_get (λ (b : SeedFigures). b.tally.traces ≤ ahead.size) ahead.blocks.items
      is.place block are.few is.at in
      let most : (is.place + 1) * ahead.size ≤ length ahead.blocks.items * ahead.size =
      mul-le-mul_right ahead.size (omega (arith, inside)) in (
        subst (λ n. AreExploredBehind p asked n block) (sym is.behind)
            (are.explored is.place block is.at),
        omega (arith, few, most, are.within, are.ends, is.behind),
      )
