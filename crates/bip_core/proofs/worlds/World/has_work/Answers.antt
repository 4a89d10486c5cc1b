use Rattle.bip_core.proofs.WorkLemmas.{idle_by}
use Rattle.bip_core.proofs.worlds.World.has_work.Goals as goal

pub returns-in-Bank-clause-none : goal.returns-in-Bank-clause-none
returns-in-Bank-clause-none g c = λ lies.
    rw (c.in-Bank.is, ← c.self.view_is, ← c.self-inside.view_is) (idle_by _ c.in-Bank.step
    c.why_idle.result c.is_none.result c.is_none.ensures c.why_idle.ensures.some lies)
