use Rattle.std.proofs.Common.{◌≡◌, ℕ, take}
use Rattle.bip_model.specs.States.{state_of}
use Rattle.bip_model.specs.Steps.{led_all}
use Rattle.bip_model.proofs.models.Model.lead_all.Given as goal

abbrev pub invariant-loop-participant : goal.invariant-loop-participant
invariant-loop-participant l =
    (c : ℕ) → state_of l.state c ≡ led_all l.self (state_of l.initial.state)
    (take l.participant-index l.participants) c
