use Rattle.std.proofs.Common.{◌≡◌, ◌++◌, take}
use Rattle.bip_review.specs.Writing.{classes_text}
use Rattle.bip_review.proofs.writing.write_classes.Given as goal

abbrev pub invariant-loop-class : goal.invariant-loop-class
invariant-loop-class l = l.text.items ≡ l.initial.text.items ++ classes_text l.plan
    (take l.class-index l.classes)
