use Rattle.std.proofs.Common.{arith}
use Rattle.bip_replay.specs.Runs.{standing_of}
use Rattle.bip_replay.proofs.ReadingLemmas.{so_far-below, so_far-end, so_far-fault, so_far-more}
use Rattle.bip_replay.proofs.ReadingLemmas.{so_far-none}
use Rattle.bip_replay.proofs.replays.replay_from.Goals as goal

pub loop-number-init : goal.loop-number-init
loop-number-init c = rw c.into_iter-number-iterator.ensures.into_iter_gives
    (rw (c.of-number-items.ensures, c.of-follower.ensures) (so_far-none c.args.position.model
    c.args.position.base c.args.text.now (standing_of c.args.position) c.requires))

pub overflow_add-count : goal.overflow_add-count
overflow_add-count c =
    let below = so_far-below _ _ _ _ _ _ _ _ _ c.loop-number.invariant c.in-Some.ensures.steps in
    grind (arith, c.from-count.ensures)

pub loop-number-preserved : goal.loop-number-preserved
loop-number-preserved c =
    rw c.from-count.ensures (so_far-more _ _ _ _ _ _ _ _ _
    (standing_of c.take_line.new.position) _ c.loop-number.invariant c.in-Some.ensures.steps
    c.in-Ok.ensures)

pub returns-in-Err-clause-fault : goal.returns-in-Err-clause-fault
returns-in-Err-clause-fault c = so_far-fault _ _ _ _ _ _ _ _ (standing_of c.loop-number.follower)
    (standing_of c.take_line.new.position) c.in-Err.fault c.loop-number.invariant
    c.in-Some.ensures.steps c.in-Err.ensures

pub returns-clause-run : goal.returns-clause-run
returns-clause-run c = rw c.into_position.ensures (so_far-end _ _ _
    (standing_of c.loop-number.follower) _ _ c.loop-number.invariant c.in-None.ensures.steps.0)
