-- What a command line asks.
use Rattle.std.specs.Borrow.{Bor}
use Rattle.std.specs.Option.{option_map}
use Rattle.std.specs.Prelude.{◌≡◌, ℕ, ◌≤◌, List, Some, codes}
use Rattle.clap.specs.Words.{Row, all_of, first_of}
use Rattle.bip_answers.specs.Answers.{greatest_base}
use Rattle.bip_host.specs.declared.hosts.Tables.{Tables}
use Rattle.bip_schedule.specs.declared.drawing.Draw.{Draw}
use Rattle.bip_schedule.specs.declared.drawing.Draws.{Draws}
use Rattle.bipr.specs.Draws.{draw_name}
use Rattle.bip_program.specs.Asked.{IsFlagAsked, IsNumberAsked, MayAskNumber}
use Rattle.bip_program.specs.Programs.{names_in}
use Rattle.bipr.specs.Resolvers.{resolver_name, tables_name}
use Rattle.bipr.specs.declared.commands.canon.CanonArguments.{CanonArguments}
use Rattle.bipr.specs.declared.commands.chart.ChartArguments.{ChartArguments}
use Rattle.bipr.specs.declared.commands.check.CheckArguments.{CheckArguments}
use Rattle.bipr.specs.declared.commands.draw.DrawArguments.{DrawArguments}
use Rattle.bipr.specs.declared.commands.explore.ExploreArguments.{ExploreArguments}
use Rattle.bipr.specs.declared.commands.replay.ReplayArguments.{ReplayArguments}
use Rattle.bipr.specs.declared.commands.replay.VerdictArguments.{VerdictArguments}
use Rattle.bipr.specs.declared.commands.run.RunArguments.{RunArguments}
use Rattle.bipr.specs.declared.commands.seed.SeedArguments.{SeedArguments}
use Rattle.bipr.specs.declared.commands.steps.StepsArguments.{StepsArguments}
use Rattle.bipr.specs.declared.commands.walk.WalkArguments.{WalkArguments}
use Rattle.bipr.specs.declared.resolvers.Resolver.{Resolver}

-- values give a base: there is a number above it
pub record IsBaseAsked (values : List Row) (base : ℕ) : Type 0 where
  pub number : IsNumberAsked values (codes "base") 64 base
  pub bound : base ≤ greatest_base

-- values name a resolver
abbrev pub IsResolverAsked : List Row → Resolver → Type 0
IsResolverAsked values resolver =
    first_of (codes "resolver") values ≡ Some (resolver_name resolver)

-- values name how tables are shared
abbrev pub AreTablesAsked : List Row → Tables → Type 0
AreTablesAsked values tables = first_of (codes "table") values ≡ Some (tables_name tables)

-- values name how events are drawn
abbrev pub IsDrawAsked : List Row → Draw → Type 0
IsDrawAsked values draw = first_of (codes "draw") values ≡ Some (draw_name draw)

-- values say what is drawn of a seed: how many events, and how
pub record AreDrawsAsked (values : List Row) (draws : Draws) : Type 0 where
  pub count : IsNumberAsked values (codes "events") 32 draws.count
  pub by : IsDrawAsked values draws.by

-- the values behind `check` ask
pub record IsCheckAsked (values : List Row) (arguments : CheckArguments) : Type 0 where
  pub model : first_of (codes "model") values ≡ Some arguments.model.now
  pub plan : IsFlagAsked values (codes "plan") arguments.with_plan

-- the values behind `canon` ask
pub record IsCanonAsked (values : List Row) (arguments : CanonArguments) : Type 0 where
  pub model : first_of (codes "model") values ≡ Some arguments.model.now

-- the values behind `draw` ask
pub record IsDrawingAsked (values : List Row) (arguments : DrawArguments) : Type 0 where
  pub model : first_of (codes "model") values ≡ Some arguments.model.now
  pub only : option_map names_in arguments.only ≡ all_of (codes "only") values
  pub only_class : option_map names_in arguments.only_class ≡ all_of (codes "only-class") values
  pub plan : IsFlagAsked values (codes "plan") arguments.with_plan

-- the values behind `replay` or `chart` ask of a replay: the paths are the first values of their
-- arguments
pub record IsReplayAsked (values : List Row) (arguments : ReplayArguments) : Type 0 where
  pub model : first_of (codes "model") values ≡ Some arguments.model.now
  pub trace : first_of (codes "trace") values ≡ Some arguments.trace.now
  pub base : IsBaseAsked values arguments.base

-- the values behind `replay` ask
pub record IsVerdictAsked (values : List Row) (arguments : VerdictArguments) : Type 0 where
  pub replay : IsReplayAsked values arguments.replay
  pub end : IsFlagAsked values (codes "end") arguments.with_end

-- the values behind `chart` ask
pub record IsChartAsked (values : List Row) (arguments : ChartArguments) : Type 0 where
  pub replay : IsReplayAsked values arguments.replay
  pub from : IsNumberAsked values (codes "from") 64 arguments.shown.from
  pub to : MayAskNumber values (codes "to") 64 arguments.shown.to
  pub shows_values : IsFlagAsked values (codes "values") arguments.shown.values
  pub only : option_map names_in arguments.shown.only ≡ all_of (codes "only") values

-- the values behind `steps` ask
pub record AreStepsAsked (values : List Row) (arguments : StepsArguments) : Type 0 where
  pub model : first_of (codes "model") values ≡ Some arguments.model.now
  pub schedule : first_of (codes "schedule") values ≡ Some arguments.schedule.now
  pub resolver : IsResolverAsked values arguments.resolver
  pub base : IsBaseAsked values arguments.base
  pub tell : IsFlagAsked values (codes "tell") arguments.is_told
  pub chart_in : option_map (λ (path : Bor (List ℕ)). path.now) arguments.chart_in
      ≡ first_of (codes "chart") values
  pub from : IsNumberAsked values (codes "from") 64 arguments.rows.from
  pub to : MayAskNumber values (codes "to") 64 arguments.rows.to

-- the values behind `explore` ask
pub record IsExploreAsked (values : List Row) (arguments : ExploreArguments) : Type 0 where
  pub model : first_of (codes "model") values ≡ Some arguments.model.now
  pub resolver : IsResolverAsked values arguments.resolver
  pub seeds : IsNumberAsked values (codes "seeds") 32 arguments.seeds
  pub draws : AreDrawsAsked values arguments.draws
  pub progress : IsFlagAsked values (codes "progress") arguments.is_told
  pub jobs : MayAskNumber values (codes "jobs") 32 arguments.jobs
  pub stats : IsFlagAsked values (codes "stats") arguments.with_stats

-- the values behind `walk` ask
pub record IsWalkAsked (values : List Row) (arguments : WalkArguments) : Type 0 where
  pub model : first_of (codes "model") values ≡ Some arguments.model.now
  pub seed : MayAskNumber values (codes "seed") 32 arguments.seed
  pub seeds : MayAskNumber values (codes "seeds") 32 arguments.seeds
  pub grants : IsNumberAsked values (codes "grants") 32 arguments.grants
  pub base : IsBaseAsked values arguments.base
  pub stats : IsFlagAsked values (codes "stats") arguments.with_stats

-- the values behind `seed` ask
pub record IsSeedAsked (values : List Row) (arguments : SeedArguments) : Type 0 where
  pub model : first_of (codes "model") values ≡ Some arguments.model.now
  pub resolver : IsResolverAsked values arguments.resolver
  pub seed : IsNumberAsked values (codes "seed") 32 arguments.seed
  pub draws : AreDrawsAsked values arguments.draws

-- the values behind `run` ask
pub record IsRunAsked (values : List Row) (arguments : RunArguments) : Type 0 where
  pub model : first_of (codes "model") values ≡ Some arguments.model.now
  pub resolver : IsResolverAsked values arguments.form.resolver
  pub tables : AreTablesAsked values arguments.form.tables
  pub turns : MayAskNumber values (codes "turns") 32 arguments.turns
  pub grants : MayAskNumber values (codes "grants") 32 arguments.grants
  pub record_in : option_map (λ (path : Bor (List ℕ)). path.now) arguments.record_in
      ≡ first_of (codes "record") values
  pub stats : IsFlagAsked values (codes "stats") arguments.with_stats
