use Rattle.std.proofs.Common.{slice_get}
use Rattle.std.specs.Prelude.{All}
use Rattle.bip_core.specs.Letters.{CanBeHandedOn}
use Rattle.bip_core.specs.Starting.{AreOffersBelow}
use Rattle.bip_core.proofs.starting.first_offers.Given as goal

abbrev pub invariant-loop-component : goal.invariant-loop-component
invariant-loop-component l =
    AreOffersBelow l.component-index l.plan (λ c. slice_get l.components c) l.mail
    × All (CanBeHandedOn l.plan) l.mail
