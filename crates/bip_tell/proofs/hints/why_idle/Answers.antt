use Rattle.std.proofs.Common.{subst, sym}
use Rattle.bip_core.specs.Worlds.{world_of}
use Rattle.bip_core.specs.declared.events.Event.{Event}
use Rattle.bip_tell.proofs.LineLemmas.{idle_in}
use Rattle.bip_tell.specs.Lines.{IsIdleIn}
use Rattle.bip_tell.proofs.hints.why_idle.Goals as goal

pub returns-in-Bank : goal.returns-in-Bank
returns-in-Bank g c =
    subst (λ (event : Event). IsIdleIn (world_of c.args.world.now) event c.why_idle.result)
    (sym c.in-Bank.is)
    (idle_in (world_of c.args.world.now) c.in-Bank.step c.why_idle.result
    (rw c.bank.ensures at c.why_idle.ensures.some)
    (rw c.bank.ensures at c.why_idle.ensures.none))
