use Rattle.bipr.specs.Endings.{unkept, unwritten, written}
use Rattle.bipr.proofs.invocations.Invocation.end_answered.Goals as goal

pub returns-then-not-put : goal.returns-then-not-put
returns-then-not-put g c =
    rw c.refuse_to_write.ensures.status
    (unwritten c.refuse_to_write.ensures.complained.0
    (rw (c.refuse_to_write.ensures.output, ← c.if-not-put.true, ← c.as_slice.ensures) c.put.ensures)
    c.refuse_to_write.ensures.complained.1)

pub returns-then-not-keep : goal.returns-then-not-keep
returns-then-not-keep g c =
    rw c.refuse_to_write-then-not-keep.ensures.status
    (unkept c.refuse_to_write-then-not-keep.ensures.complained.0
    (rw (c.refuse_to_write-then-not-keep.ensures.output, ← c.if-not-put.false, ← c.as_slice.ensures)
    c.put.ensures)
    (rw (← c.if-not-keep.true) c.keep.ensures)
    c.refuse_to_write-then-not-keep.ensures.complained.1)

pub returns : goal.returns
returns g c =
    rw c.told_status.ensures
    (written c.put-is_out.result
    (rw (← c.if-not-put.false, ← c.as_slice.ensures) c.put.ensures)
    (rw (← c.if-not-keep.false) c.keep.ensures)
    (rw (← c.as_slice-2.ensures) c.put-is_out.ensures))
