use Rattle.std.proofs.Common.{◌≡◌, replicate}
use Rattle.bip_host.specs.declared.places.Place.TheVariants.{Free}
use Rattle.bip_host.proofs.waiting.WaitingBook.of.Given as goal

abbrev pub invariant-loop : goal.invariant-loop
invariant-loop l = l.places.items ≡ replicate l.counter Free
