use Rattle.std.proofs.Common.{inl, refl}
use Rattle.bip_explain.proofs.traces.explain_trace.Goals as goal

pub returns-in_default : goal.returns-in_default
returns-in_default c = record {
  closed = λ _. refl;
  opened = λ _. inl (rw c.line_at.ensures at c.in_default.ensures.none, refl);
}
