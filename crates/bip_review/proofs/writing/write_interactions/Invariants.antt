use Rattle.bip_review.specs.Writing.{AddsLines, IsInteractionLine}
use Rattle.bip_review.proofs.writing.write_interactions.Given as goal

abbrev pub invariant-loop-number : goal.invariant-loop-number
invariant-loop-number l = AddsLines (IsInteractionLine l.plan) l.initial.text.items l.number
    l.text.items
