use Rattle.std.proofs.Common.{◌≡◌, ◌++◌, take}
use Rattle.std.specs.List.{flat_map}
use Rattle.bip_model.specs.Texts.{spaced}
use Rattle.bip_replay.specs.Writing.{want_words}
use Rattle.bip_tell.proofs.words.write_role.Given as goal

abbrev pub invariant-loop-want : goal.invariant-loop-want
invariant-loop-want l =
    l.text.items ≡ l.initial.text.items ++ flat_map spaced
    (want_words l.model l.role (take l.want-index l.wants))
