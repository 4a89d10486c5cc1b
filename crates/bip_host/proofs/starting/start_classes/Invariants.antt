use Rattle.std.specs.Prelude.{◌≡◌}
use Rattle.bip_host.specs.Starting.{AreClassNodes}
use Rattle.bip_host.specs.Tables.{form_of_layers}
use Rattle.bip_host.proofs.starting.start_classes.Given as goal

abbrev pub invariant-loop-intake : goal.invariant-loop-intake
invariant-loop-intake g l =
    AreClassNodes l.plan (form_of_layers l.layers) l.nodes.items
    × (form_of_layers l.layers ≡ form_of_layers l.fn.layers)
