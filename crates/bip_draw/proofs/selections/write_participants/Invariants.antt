use Rattle.std.proofs.Common.{◌≡◌, ◌++◌, take}
use Rattle.std.specs.List.{flat_map}
use Rattle.bip_draw.specs.Selections.{participant_part}
use Rattle.bip_draw.proofs.selections.write_participants.Given as goal

abbrev pub invariant-loop-participant : goal.invariant-loop-participant
invariant-loop-participant l = l.text.items ≡ l.initial.text.items ++ flat_map
    (participant_part l.cut.model.now l.cut.classes.now l.cut.selection.now l.inter.0)
    (take l.participant-index l.participants)
