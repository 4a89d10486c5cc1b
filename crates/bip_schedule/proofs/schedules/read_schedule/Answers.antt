use Rattle.std.proofs.Common.{List, subst}
use Rattle.std.specs.Prelude.{All}
use Rattle.bip_model.specs.declared.numbering.InterId.{InterId}
use Rattle.bip_replay.proofs.ItemLemmas.{has_read-end, has_read-fault, has_read-more}
use Rattle.bip_schedule.specs.Writing.{HasSpelling}
use Rattle.bip_partition.proofs.TableLemmas.{one_stations}
use Rattle.bip_schedule.proofs.schedules.read_schedule.Goals as goal

pub returns-in-Err-clause-fault : goal.returns-in-Err-clause-fault
returns-in-Err-clause-fault c =
    record {
      stations = c.stations-stations.result.now;
      are = c.stations-stations.ensures;
      why = has_read-fault _ _ _ _ _ _ _ c.read_one.new.events.items c.in-Err.fault
          c.loop-number.invariant.0 c.in-Some.ensures.steps c.in-Err.ensures.reads;
    }

pub loop-number-preserved : goal.loop-number-preserved
loop-number-preserved c = (
  has_read-more _ _ _ _ _ _ _ c.read_one.new.events.items _ c.loop-number.invariant.0
      c.in-Some.ensures.steps c.in_default.ensures.reads,
  c.in_default.ensures.spelled c.loop-number.invariant.1,
)

pub returns-clause-events : goal.returns-clause-events
returns-clause-events c =
    record {
      stations = c.stations-stations.result.now;
      are = c.stations-stations.ensures;
      reads = has_read-end _ _ _ _ c.loop-number.invariant.0 c.in-None.ensures.steps.0;
    }

pub returns-clause-spelled : goal.returns-clause-spelled
returns-clause-spelled c = λ stations are.
    subst (λ (all : List InterId). All (HasSpelling c.args.plan.now all) c.loop-number.events.items)
    (one_stations c.args.plan.now c.stations-stations.result.now stations
    c.stations-stations.ensures are)
    c.loop-number.invariant.1
