use Rattle.std.proofs.Common.{◌≡◌, map, take}
use Rattle.bip_model.specs.States.{state_of}
use Rattle.bip_model.specs.Steps.{values_at}
use Rattle.bip_explain.proofs.hindrances.values_of.Given as goal

abbrev pub invariant-loop-comp : goal.invariant-loop-comp
invariant-loop-comp l =
    l.values.items ≡ map (values_at (state_of l.state)) (take l.comp-index l.participants)
