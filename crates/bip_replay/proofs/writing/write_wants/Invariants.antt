use Rattle.std.proofs.Common.{◌≡◌, ◌++◌, take, All}
use Rattle.std.specs.List.{flat_map}
use Rattle.bip_replay.specs.Writing.{IsSpelled, want_words}
use Rattle.bip_model.specs.Texts.{spaced}
use Rattle.bip_replay.proofs.writing.write_wants.Given as goal

abbrev pub invariant-loop-want : goal.invariant-loop-want
invariant-loop-want l =
    record {
      text : l.text.items ≡ l.initial.text.items ++ flat_map spaced
          (want_words l.model l.role (take l.want-index l.wants));
      spelled : All (IsSpelled l.model) (take l.want-index l.wants);
    }
