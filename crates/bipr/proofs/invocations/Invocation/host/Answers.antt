use Rattle.std.proofs.Common.{inl, inr, refl}
use Rattle.bipr.specs.Hosted.{host_lacking, no_thread, refused_grant}
use Rattle.bipr.proofs.invocations.Invocation.host.Goals as goal

pub returns-in-Err-NotARun-clause-stopped : goal.returns-in-Err-NotARun-clause-stopped
returns-in-Err-NotARun-clause-stopped g c = (
  refused_grant c.in-Err-NotARun.fault
      (rw c.in-Err-NotARun.field-0-is at c.in-Err-NotARun.ensures.gives),
  inl refl,
)

pub returns-in-Err-Thread-clause-stopped : goal.returns-in-Err-Thread-clause-stopped
returns-in-Err-Thread-clause-stopped g c =
    (no_thread (rw c.in-Err-Thread.field-0-is at c.in-Err-Thread.ensures.gives), inr (inl refl))

pub returns-in-Err-Memory-clause-stopped : goal.returns-in-Err-Memory-clause-stopped
returns-in-Err-Memory-clause-stopped g c =
    (host_lacking (rw c.in-Err-Memory.field-0-is at c.in-Err-Memory.ensures.gives), inr (inr refl))
