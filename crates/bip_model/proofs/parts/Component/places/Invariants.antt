use Rattle.bip_model.proofs.PlaceLemmas.{ArePlacesOfFirst}
use Rattle.bip_model.proofs.parts.Component.places.Given as goal

abbrev pub invariant-loop-place : goal.invariant-loop-place
invariant-loop-place l = ArePlacesOfFirst l.self l.place l.places.items
