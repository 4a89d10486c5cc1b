use Rattle.bip_review.specs.Drawing.{conflict_text}
use Rattle.bip_review.proofs.StationLemmas.{AddsConflictsBelow}
use Rattle.bip_review.proofs.drawing.draw_conflicts_of.Given as goal

abbrev pub invariant-loop-number : goal.invariant-loop-number
invariant-loop-number l = AddsConflictsBelow l.plan (conflict_text l.inter.0) l.inter.0
    l.number l.initial.text.items l.text.items
