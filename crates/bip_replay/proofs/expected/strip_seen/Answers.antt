use Rattle.bip_replay.proofs.ExpectedLemmas.{more_comps}
use Rattle.bip_replay.specs.Runs.{standing_of}
use Rattle.bip_replay.proofs.expected.strip_seen.Goals as goal

pub loop-comp-preserved : goal.loop-comp-preserved
loop-comp-preserved c = more_comps (standing_of c.args.position.now) c.args.looks.now
    c.loop-comp.comp-index (record { 0 = 0 }) _ _ _ c.loop-comp-test.true c.loop-comp.invariant
    c.in_ok-rest.ensures
