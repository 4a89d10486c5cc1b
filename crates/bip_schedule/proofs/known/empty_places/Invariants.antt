use Rattle.std.proofs.Common.{◌≡◌, None}
use Rattle.std.specs.Prelude.{All}
use Rattle.bip_schedule.proofs.known.empty_places.Given as goal

abbrev pub invariant-loop : goal.invariant-loop
invariant-loop l = All (λ kept. kept ≡ None) l.places.items
