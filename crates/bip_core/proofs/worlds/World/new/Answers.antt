use Rattle.bip_core.specs.Worlds.{world_of}
use Rattle.bip_core.proofs.AgreementLemmas.{new_agrees}
use Rattle.bip_core.proofs.worlds.World.new.Goals as goal

pub invariant_of-result : goal.invariant_of-result
invariant_of-result g c =
    new_agrees c.args.plan.now c.args.base (world_of c.in_ok-machine.machine)
    c.recall.ensures.planned c.requires.base c.in_ok-machine.ensures.new

pub returns-clause-agrees : goal.returns-clause-agrees
returns-clause-agrees g c =
    new_agrees c.args.plan.now c.args.base (world_of c.in_ok-machine.machine)
    c.recall.ensures.planned c.requires.base c.in_ok-machine.ensures.new
