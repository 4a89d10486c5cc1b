use Rattle.std.proofs.Common.{◌≡◌, ◌++◌, take}
use Rattle.bip_model.specs.Parts.{components_in}
use Rattle.bip_review.specs.Writing.{names_text}
use Rattle.bip_review.proofs.writing.write_participants.Given as goal

abbrev pub invariant-loop-participant : goal.invariant-loop-participant
invariant-loop-participant l =
    l.text.items ≡ l.initial.text.items ++ names_text l.plan.model.component_names
    (components_in (take l.participant-index l.moved))
