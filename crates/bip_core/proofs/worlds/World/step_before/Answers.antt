use Rattle.bip_core.proofs.AgreementLemmas.{counted_agrees}
use Rattle.bip_core.proofs.worlds.World.step_before.Goals as goal

pub invariant_of-self : goal.invariant_of-self
invariant_of-self g c =
    counted_agrees _ c.args.event c.step.result c.self.invariant c.step.ensures.counted
    c.step.ensures.err

pub returns-clause-counted : goal.returns-clause-counted
returns-clause-counted g c = rw (← c.self.view_is) c.step.ensures.counted

pub returns-clause-agrees : goal.returns-clause-agrees
returns-clause-agrees g c =
    counted_agrees _ c.args.event c.step.result c.self.invariant c.step.ensures.counted
    c.step.ensures.err
