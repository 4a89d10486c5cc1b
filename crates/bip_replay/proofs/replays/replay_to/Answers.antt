use Rattle.bip_replay.proofs.ReadingLemmas.{ran_from, starts_itself, told_from}
use Rattle.bip_replay.proofs.replays.replay_to.Goals as goal

pub replay_from-requires : goal.replay_from-requires
replay_from-requires c = starts_itself c.args.model.now c.args.base c.in-Ok.position c.in-Ok.ensures

pub returns-in-Ok-clause-run : goal.returns-in-Ok-clause-run
returns-in-Ok-clause-run c = ran_from c.args.model.now c.args.base c.in-Ok.position c.in-Ok.ensures
    c.args.text.now c.replay_from.result c.replay_from.ensures.run

pub returns-in-Ok-clause-fault : goal.returns-in-Ok-clause-fault
returns-in-Ok-clause-fault c = told_from c.args.model.now c.args.base c.in-Ok.position
    c.in-Ok.ensures c.args.text.now c.replay_from.result c.replay_from.ensures.fault

pub returns-in-Err-clause-fault : goal.returns-in-Err-clause-fault
returns-in-Err-clause-fault c = c.told_without_memory.ensures c.args.base
