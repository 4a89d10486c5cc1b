use Rattle.bip_review.specs.Writing.{AddsLines, IsComponentLine}
use Rattle.bip_review.proofs.writing.write_components.Given as goal

abbrev pub invariant-loop-number : goal.invariant-loop-number
invariant-loop-number l = AddsLines (IsComponentLine l.plan) l.initial.text.items l.number
    l.text.items
