use Rattle.std.proofs.Common.{◌≡◌, take, true}
use Rattle.std.specs.List.{list_all}
use Rattle.bip_model.specs.States.{state_of}
use Rattle.bip_model.specs.Steps.{offered}
use Rattle.bip_explain.proofs.hindrances.find_port.Given as goal

abbrev pub invariant-loop-comp : goal.invariant-loop-comp
invariant-loop-comp l =
    list_all (offered l.model (state_of l.state)) (take l.comp-index l.participants) ≡ true
