use Rattle.std.proofs.Common.{◌≡◌, take}
use Rattle.bip_model.specs.States.{state_of}
use Rattle.bip_explain.specs.Parties.{off_among}
use Rattle.bip_explain.proofs.parties.off_among.Given as goal

abbrev pub invariant-loop-comp : goal.invariant-loop-comp
invariant-loop-comp l = l.off.items ≡ off_among l.model (state_of l.state)
    (take l.comp-index l.participants)
