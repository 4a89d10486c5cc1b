-- What seeds came to: one after another, and their figures.
use Rattle.std.proofs.Common.{◌≡◌, ◌∙◌, ◌+◌, ◌≤◌, ◌++◌, ◌∷◌, ℕ, List, [], ap, arith, length, map}
use Rattle.std.proofs.Common.{refl}
use Rattle.std.proofs.Common.{length-take-le, sym, take}
use Rattle.std.specs.List.{sum_by}
use Rattle.std.proofs.lemmas.List.{length-append, length-map, map-append}
use Rattle.std.proofs.lemmas.List.FromFn.{length-map-range_with_len}
use Rattle.std.proofs.lemmas.List.Sums.{sum_by-append, sum_by-cons}
use Rattle.bip_bank.specs.Sharing.{Sharing}
use Rattle.bip_core.specs.declared.runs.Report.{Report}
use Rattle.bip_partition.specs.Plans.{Planned}
use Rattle.bip_schedule.specs.Exploring.{AreSeedFigures, IsSeedRun}
use Rattle.bip_schedule.specs.declared.drawing.Draws.{Draws}
use Rattle.bip_schedule.specs.Exploring.{JoinsSeedFigures, SeedFigures, SeedRun, joined_report}
use Rattle.bip_schedule.specs.Exploring.{report_of_runs, seed_figures}
use Rattle.bip_walk.proofs.SeedLemmas.{each_front, each_on, each_weaker}
use Rattle.bip_walk.specs.Tallies.{JoinsTallies, Tallied, count_in, tally_of}

module _ (shares : Sharing → Type 0) (p : Planned) (base : ℕ) (draws : Draws) where
  abbrev Came : ℕ → SeedRun → Type 0
  Came seed run = IsSeedRun shares p base draws seed run

  pub figures_none : (first : ℕ) (x : SeedFigures)
      → x ≡ seed_figures (length p.model.interactions) []
      → AreSeedFigures shares p base draws first 0 x
  figures_none first x is = record { runs = []; each = refl; explored = tt; are = is }

  pub figures_on : (first s next t : ℕ) (x y z : SeedFigures)
      → AreSeedFigures shares p base draws first s x
      → AreSeedFigures shares p base draws next t y → next ≡ first + s → JoinsSeedFigures x y z
      → AreSeedFigures shares p base draws first (s + t) z
  figures_on first s next t x y z one other behind joins = record {
    runs = one.runs ++ other.runs;
    each = omega (arith, length-append one.runs other.runs, one.each, other.each);
    explored = each_on Came first next one.runs other.runs one.explored other.explored
        (omega (arith, behind, one.each));
    are = joins (length p.model.interactions) one.runs other.runs one.are other.are;
  }

  pub figures_front : (first s k : ℕ) (x : SeedFigures)
      → AreSeedFigures shares p base draws first s x
      → k ≤ s → (y : SeedFigures) × AreSeedFigures shares p base draws first k y
  figures_front first s k x is few = (
    seed_figures (length p.model.interactions) (take k is.runs),
    record {
      runs = take k is.runs;
      each = length-take-le k is.runs (rw is.each few);
      explored = each_front Came first k is.runs is.explored;
      are = refl;
    },
  )

  -- they are of as many seeds, and of all interactions
  pub figures_seeds : (first s : ℕ) (x : SeedFigures)
      → AreSeedFigures shares p base draws first s x
      → x.tally.traces ≡ s
  figures_seeds first s x is =
      ap (λ (f : SeedFigures). f.tally.traces) is.are
      ∙ length-map is.runs (λ (run : SeedRun). run.traced) ∙ is.each

  pub figures_counts : (first s : ℕ) (x : SeedFigures)
      → AreSeedFigures shares p base draws first s x
      → length x.tally.counts ≡ length p.model.interactions
  figures_counts first s x is =
      ap (λ (f : SeedFigures). length f.tally.counts) is.are
      ∙ length-map-range_with_len (count_in (map (λ (run : SeedRun). run.traced) is.runs)) 0
      (length p.model.interactions)

-- seeds whose stations share this are seeds whose stations share what is implied
module _ (shares others : Sharing → Type 0) (p : Planned) (base : ℕ) (draws : Draws)
    (weaker : (x : Sharing) → shares x → others x) where
  pub run_shared : (seed : ℕ) (run : SeedRun) → IsSeedRun shares p base draws seed run
      → IsSeedRun others p base draws seed run
  run_shared seed run is = record {
    named = is.named;
    of_seed = record {
      first = is.of_seed.first;
      last = is.of_seed.last;
      events = is.of_seed.events;
      report = is.of_seed.report;
      new = is.of_seed.new;
      shared = weaker is.of_seed.first.bank.sharing is.of_seed.shared;
      seeded = is.of_seed.seeded;
      is = is.of_seed.is;
    };
    reported = is.reported;
    whole = is.whole;
    is_run = is.is_run;
    stuck = is.stuck;
  }

  pub figures_shared : (first s : ℕ) (x : SeedFigures)
      → AreSeedFigures shares p base draws first s x
      → AreSeedFigures others p base draws first s x
  figures_shared first s x is = record {
    runs = is.runs;
    each = is.each;
    explored = each_weaker (IsSeedRun shares p base draws) (IsSeedRun others p base draws)
        run_shared first is.runs is.explored;
    are = is.are;
  }

-- reports with the same sums are one
abbrev reported : ℕ → ℕ → ℕ → ℕ → ℕ → ℕ → Report
reported lost events grants refusals idle skipped = record {
  lost = lost;
  events = events;
  grants = grants;
  refusals = refusals;
  idle = idle;
  skipped = skipped;
}

one_report : (x y : Report) → x.lost ≡ y.lost → x.events ≡ y.events → x.grants ≡ y.grants
    → x.refusals ≡ y.refusals → x.idle ≡ y.idle → x.skipped ≡ y.skipped → x ≡ y
one_report x y lost events grants refusals idle skipped =
    ap (λ n. reported n x.events x.grants x.refusals x.idle x.skipped) lost
    ∙ (ap (λ n. reported y.lost n x.grants x.refusals x.idle x.skipped) events
    ∙ (ap (λ n. reported y.lost y.events n x.refusals x.idle x.skipped) grants
    ∙ (ap (λ n. reported y.lost y.events y.grants n x.idle x.skipped) refusals
    ∙ (ap (λ n. reported y.lost y.events y.grants y.refusals n x.skipped) idle
    ∙ ap (reported y.lost y.events y.grants y.refusals y.idle) skipped))))

-- a sum of reports, by one of their numbers
abbrev sum_of : (Report → ℕ) → List SeedRun → ℕ
sum_of part runs = sum_by (λ (run : SeedRun). part run.report) runs

sum_joined : (part : Report → ℕ) (xs ys : List SeedRun)
    → sum_of part xs + sum_of part ys ≡ sum_of part (xs ++ ys)
sum_joined part xs ys = sym (sum_by-append (λ (run : SeedRun). part run.report) xs ys)

sum_of_one : (part : Report → ℕ) (run : SeedRun) → part run.report ≡ sum_of part (run ∷ [])
sum_of_one part run = omega (arith, sum_by-cons (λ (r : SeedRun). part r.report) run [])

report_joined : (xs ys : List SeedRun)
    → joined_report (report_of_runs xs) (report_of_runs ys) ≡ report_of_runs (xs ++ ys)
report_joined xs ys =
    one_report (joined_report (report_of_runs xs) (report_of_runs ys)) (report_of_runs (xs ++ ys))
    (sum_joined (λ r. r.lost) xs ys) (sum_joined (λ r. r.events) xs ys)
    (sum_joined (λ r. r.grants) xs ys) (sum_joined (λ r. r.refusals) xs ys)
    (sum_joined (λ r. r.idle) xs ys) (sum_joined (λ r. r.skipped) xs ys)

report_of_one : (run : SeedRun) → run.report ≡ report_of_runs (run ∷ [])
report_of_one run =
    one_report run.report (report_of_runs (run ∷ [])) (sum_of_one (λ r. r.lost) run)
    (sum_of_one (λ r. r.events) run) (sum_of_one (λ r. r.grants) run)
    (sum_of_one (λ r. r.refusals) run) (sum_of_one (λ r. r.idle) run)
    (sum_of_one (λ r. r.skipped) run)

-- figures with the same parts are one
abbrev figured : Report → Tallied → SeedFigures
figured report tally = record { report = report; tally = tally }

one_figures : (x y : SeedFigures) → x.report ≡ y.report → x.tally ≡ y.tally → x ≡ y
one_figures x y report tally =
    ap (λ (r : Report). figured r x.tally) report ∙ ap (figured y.report) tally

-- the figures of one seed, and of those of two lists
pub figures_of_one : (n : ℕ) (run : SeedRun) (x : SeedFigures) → x.report ≡ run.report
    → x.tally ≡ tally_of n (run.traced ∷ []) → x ≡ seed_figures n (run ∷ [])
figures_of_one n run x report tally =
    one_figures x (seed_figures n (run ∷ [])) (report ∙ report_of_one run) tally

pub figures_joined : (x y z : SeedFigures) → z.report ≡ joined_report x.report y.report
    → JoinsTallies x.tally y.tally z.tally → JoinsSeedFigures x y z
figures_joined x y z report tallies n xs ys one other =
    let traced = λ (run : SeedRun). run.traced in
    let tally = tallies n (map traced xs) (map traced ys)
    (ap (λ (f : SeedFigures). f.tally) one) (ap (λ (f : SeedFigures). f.tally) other) in
    one_figures z (seed_figures n (xs ++ ys))
    (report ∙ (rw (one, other) (report_joined xs ys)))
    (tally ∙ ap (tally_of n) (sym (map-append traced xs ys)))
