use Rattle.std.proofs.Common.{take}
use Rattle.bip_model.specs.Places.{ArePlacesOfEach}
use Rattle.bip_model.proofs.places.places_of_each.Given as goal

abbrev pub invariant-loop-component : goal.invariant-loop-component
invariant-loop-component l = ArePlacesOfEach (take l.component-index l.components) l.lists
