use Rattle.bip_schedule.proofs.SpellingLemmas.{line-reads_back}
use Rattle.bip_schedule.proofs.writing.write_line.Goals as goal

pub returns-clause-reads_back : goal.returns-clause-reads_back
returns-clause-reads_back c =
    let valid = c.recall.ensures.valid in
    let apart = c.recall.ensures.planned.parted.apart in
    line-reads_back c.args.plan.now c.args.stations.now valid apart c.requires.stations
    c.args.event.now c.requires.spelled c.in_ok-write_event.ensures.named
