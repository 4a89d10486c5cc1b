use Rattle.std.proofs.Common.{◌≡◌, ℕ, ◌≤◌, [], length, map, slice_index_or, take}
use Rattle.bip_model.specs.Parts.{Participant}
use Rattle.bip_observe.specs.Offers.{observed}
use Rattle.bip_observe.specs.Verdicts.{offers_of}
use Rattle.bip_observe.proofs.offers.Offers.values_of.Given as goal

abbrev pub invariant-loop-place : goal.invariant-loop-place
invariant-loop-place l =
    (length l.values ≡ 8) × (take l.place l.values ≡ map
    (λ (q : Participant). (offers_of (observed l.self) q.0.0).values)
    (take l.place l.participants))
    × ((k : ℕ) → l.place ≤ k → slice_index_or l.values k [] ≡ [])
