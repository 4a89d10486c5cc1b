use Rattle.bip_replay.specs.Runs.{standing_of}
use Rattle.bip_walk.specs.Choices.{AreRenewed}
use Rattle.bip_walk.proofs.choices.renew.Given as goal

abbrev pub invariant-loop-number : goal.invariant-loop-number
invariant-loop-number l =
    AreRenewed l.plan.model (standing_of l.position) l.granted l.number l.initial.choices l.choices
