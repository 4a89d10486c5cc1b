use Rattle.std.proofs.Common.{◌≡◌, ◌<◌, ◌≤◌, ◌^◌, ◌∷◌, ◌∙◌, [], ap, arith, Err, length, Ok, refl}
use Rattle.std.proofs.Common.{Result, rules}
use Rattle.std.specs.Prelude.{IfErr, IsErrAnd}
use Rattle.bip_bank.specs.Banks.{BankContent}
use Rattle.bip_partition.specs.Plans.{Planned}
use Rattle.bip_replay.specs.Runs.{IsModelRun}
use Rattle.bip_schedule.specs.Exploring.{SeedFigures, SeedRun}
use Rattle.bip_schedule.specs.declared.exploring.ExploreFault.{ExploreFault}
use Rattle.bip_schedule.specs.declared.exploring.ExploreFault.TheVariants.{Memory}
use Rattle.bip_core.specs.Worlds.{world_of}
use Rattle.bip_schedule.proofs.DrawLemmas.{run_checks, seeded_few, seeded_keeps}
use Rattle.bip_schedule.proofs.exploring.explore_seed.Goals as goal

pub of-requires-clause-few : goal.of-requires-clause-few
of-requires-clause-few g c =
    let few : length (world_of c.run_seed-report.new.world).trace ≤ c.args.draws.count =
    seeded_few c.from.result c.args.draws _ (world_of c.in_ok-world.world)
    (world_of c.run_seed-report.new.world) _ c.run_seed-report.ensures.drawn.1
    c.in_ok-world.ensures.new.trace in
    let small : c.args.draws.count < 2 ^ 32 = search rules in
    let each = ap length c.trace.ensures.trace in
    omega (arith, each, few, small)

-- the tally of one trace has its grants
pub returns-clause-few : goal.returns-clause-few
returns-clause-few g c =
    let few : length (world_of c.run_seed-report.new.world).trace ≤ c.args.draws.count =
    seeded_few c.from.result c.args.draws _ (world_of c.in_ok-world.world)
    (world_of c.run_seed-report.new.world) _ c.run_seed-report.ensures.drawn.1
    c.in_ok-world.ensures.new.trace in
    let each = ap length c.trace.ensures.trace in
    let checked = c.in_ok-checked.ensures.checked in
    let tally = ap (λ (f : SeedFigures). f.tally.grants) checked.2 in
    omega (arith, each, few, tally)

pub returns-clause-explored : goal.returns-clause-explored
returns-clause-explored g c =
    let checked = c.in_ok-checked.ensures.checked in
    let run : SeedRun = record {
      traced = record { seed = c.args.seed; grants = c.trace.result.now; is_stuck = checked.0 };
      report = c.run_seed-report.result;
    } in
    record {
      runs = run ∷ [];
      each = refl;
      explored = (
        record {
          named = refl;
          of_seed = record {
            first = world_of c.in_ok-world.world;
            last = world_of c.run_seed-report.new.world;
            events = c.run_seed-report.ensures.drawn.0;
            report = c.run_seed-report.result;
            new = c.in_ok-world.ensures.new;
            shared = c.in_ok-world.ensures.shared;
            seeded = rw c.from.ensures at c.run_seed-report.ensures.drawn.1;
            is = c.trace.ensures.trace;
          };
          reported = refl;
          whole = c.is_whole.ensures.0 c.if-not-is_whole.false;
          is_run = rw c.model.ensures at checked.1.run;
          stuck = rw c.model.ensures at checked.1.stuck;
        },
        tt,
      );
      are = rw c.model.ensures at checked.2;
    }

pub returns-in_err-checked-clause-fault : goal.returns-in_err-checked-clause-fault
returns-in_err-checked-clause-fault g c =
    let first = world_of c.in_ok-world.world in
    let last = world_of c.run_seed-report.new.world in
    let keeps = seeded_keeps c.from.result c.args.draws c.run_seed-report.ensures.drawn.0 first last
    _
    c.run_seed-report.ensures.drawn.1 in
    let new = c.in_ok-world.ensures.new in
    let model : last.plan.model ≡ c.args.plan.now.model =
    ap (λ (p : Planned). p.model) (keeps.plan ∙ new.plan) in
    let base : last.bank.base ≡ c.args.base = keeps.base
    ∙ ap (λ (b : BankContent). b.base) new.bank in
    let run : IsModelRun c.model.result.now c.args.base c.trace.result.now =
    rw (c.model.ensures, ← model, ← base) c.trace.ensures.run in
    passed_on c.from_residual-in_err-checked.result c.in_err-checked.field-0.0
    (run_checks _ _ _ _ _ run c.in_err-checked.ensures.fault)
    c.from_residual-in_err-checked.ensures.1
  where
    passed_on : (r : Result SeedFigures ExploreFault) (e : ExploreFault) → e ≡ Memory
        → IsErrAnd r (λ f. f ≡ e) → IfErr r (λ f. f ≡ Memory)
    passed_on (Ok n) e is same = tt
    passed_on (Err f) e is same = same ∙ is
