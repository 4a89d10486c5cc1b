use Rattle.std.proofs.Common.{◌≡◌, length, map, take}
use Rattle.bip_model.specs.States.{state_of}
use Rattle.bip_model.specs.Steps.{values_at}
use Rattle.bip_model.proofs.steps.values_of.Given as goal

abbrev pub invariant-loop-place : goal.invariant-loop-place
invariant-loop-place l =
    (length l.values ≡ 8) × (take l.place l.values ≡ map (values_at (state_of l.state))
    (take l.place l.participants))
