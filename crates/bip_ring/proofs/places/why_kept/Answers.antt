use Rattle.std.proofs.Common.{inl}
use Rattle.bip_ring.proofs.places.why_kept.Goals as goal

pub returns-in-Some-clause-some : goal.returns-in-Some-clause-some
returns-in-Some-clause-some c = inl (c.in-Some.ensures.some c.args.count)
