use Rattle.std.proofs.Common.{map, take}
use Rattle.bip_model.specs.declared.numbering.ClassId.{ClassId}
use Rattle.bip_answers.specs.Selected.{AreFoundNames}
use Rattle.bip_answers.proofs.selected.number_classes.Given as goal

abbrev pub invariant-loop-index : goal.invariant-loop-index
invariant-loop-index l =
    AreFoundNames l.names (take l.index l.words) (map (λ (n : ClassId). n.0) l.parted.items)
