use Rattle.std.proofs.Common.{refl}
use Rattle.bipr.specs.Endings.{unwritten, written}
use Rattle.bipr.proofs.invocations.Invocation.end_texts.Goals as goal

pub returns-then-not-put : goal.returns-then-not-put
returns-then-not-put g c =
    rw c.refuse_to_write.ensures.status
    (unwritten c.refuse_to_write.ensures.complained.0
    (rw (c.refuse_to_write.ensures.output, ← c.if-not-put.true) c.put.ensures)
    c.refuse_to_write.ensures.complained.1)

pub returns : goal.returns
returns g c =
    rw c.told_status.ensures
    (written c.put-is_out.result
    (rw (← c.if-not-put.false) c.put.ensures) refl
    c.put-is_out.ensures)
