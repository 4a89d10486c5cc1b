use Rattle.std.proofs.Common.{map, take}
use Rattle.bip_model.specs.declared.numbering.CompId.{CompId}
use Rattle.bip_answers.specs.Selected.{AreFoundNames}
use Rattle.bip_answers.proofs.selected.number_components.Given as goal

abbrev pub invariant-loop-index : goal.invariant-loop-index
invariant-loop-index l =
    AreFoundNames l.names (take l.index l.words) (map (λ (n : CompId). n.0) l.chosen.items)
