use Rattle.std.proofs.Common.{◌≡◌, ◌++◌, take}
use Rattle.std.specs.List.{flat_map}
use Rattle.bip_draw.specs.Drawing.{participant_text}
use Rattle.bip_draw.proofs.drawing.write_participants.Given as goal

abbrev pub invariant-loop-participant : goal.invariant-loop-participant
invariant-loop-participant l = l.text.items ≡ l.initial.text.items ++ flat_map
    (participant_text l.inter.0) (take l.participant-index l.participants)
