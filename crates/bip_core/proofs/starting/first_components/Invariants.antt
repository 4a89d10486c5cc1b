use Rattle.bip_component.specs.Components.{IsFirst}
use Rattle.bip_core.proofs.StartLemmas.{AreEach}
use Rattle.bip_core.proofs.starting.first_components.Given as goal

abbrev pub invariant-loop-number : goal.invariant-loop-number
invariant-loop-number l = AreEach (λ c node. IsFirst l.plan c l.base node) l.number l.nodes.items
