use Rattle.std.proofs.Common.{arith}
use Rattle.std.proofs.lemmas.Grind.{common_steps}
use Rattle.std.proofs.lemmas.List.{take_all}
use Rattle.std.proofs.lemmas.List.Elements.{All-more}
use Rattle.bip_replay.proofs.ItemLemmas.{items_from-written}
use Rattle.bip_replay.specs.Items.{ReadsBack}
use Rattle.bip_schedule.specs.Lines.{event_on}
use Rattle.bip_schedule.specs.Writing.{event_line}
use Rattle.bip_schedule.proofs.writing.write_schedule.Goals as goal

pub loop-event-preserved : goal.loop-event-preserved
loop-event-preserved c =
    let reads = ReadsBack (event_on c.args.plan.now c.stations-stations.result.now)
    (event_line c.args.plan.now c.stations-stations.result.now) in
    record {
      text = grind (arith, common_steps);
      read = All-more reads c.args.events.now c.loop-event.event-index _ c.loop-event-test.true
          c.loop-event.invariant.read c.in_ok-write_line.ensures.reads_back;
    }

pub returns-clause-reads_back : goal.returns-clause-reads_back
returns-clause-reads_back c =
    let whole = take_all c.loop-event.event-index c.args.events.now c.loop-event-test.false in
    let back = items_from-written (event_on c.args.plan.now c.stations-stations.result.now)
    (event_line c.args.plan.now c.stations-stations.result.now) 1 _
    c.loop-event.invariant.read in
    record {
      stations = c.stations-stations.result.now;
      are = c.stations-stations.ensures;
      reads = cc (c.loop-event.invariant.text);
    }
