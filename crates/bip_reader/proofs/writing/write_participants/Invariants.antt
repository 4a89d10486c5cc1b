use Rattle.std.proofs.Common.{◌≡◌, ◌++◌, map, take}
use Rattle.std.specs.List.{flat_map}
use Rattle.bip_model.specs.Texts.{spaced}
use Rattle.bip_reader.specs.Writing.{participant_word}
use Rattle.bip_reader.proofs.writing.write_participants.Given as goal

abbrev pub invariant-loop-participant : goal.invariant-loop-participant
invariant-loop-participant l = l.text.items ≡ l.initial.text.items ++ flat_map spaced
    (map (participant_word l.model) (take l.participant-index l.participants))
