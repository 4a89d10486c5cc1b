use Rattle.std.proofs.Common.{◌≡◌, ℕ, ltb, ◌&&◌}
use Rattle.std.specs.Int.{bit_at}
use Rattle.bip_model.specs.Components.{offers_at}
use Rattle.bip_model.proofs.PlaceLemmas.{bit}
use Rattle.bip_model.proofs.parts.Component.ports.Given as goal

abbrev pub invariant-loop-number : goal.invariant-loop-number
invariant-loop-number l =
    (k : ℕ) → bit_at l.ports k ≡ bit (ltb k l.number && offers_at l.self l.local (record { 0 = k }))
