use Rattle.bip_review.specs.Drawing.{AddsFacts, edges_text}
use Rattle.bip_review.specs.Writing.{IsInteractionShown}
use Rattle.bip_review.proofs.drawing.draw_interactions.Given as goal

abbrev pub invariant-loop-number : goal.invariant-loop-number
invariant-loop-number l = AddsFacts (IsInteractionShown l.plan) edges_text l.number
    l.initial.text.items l.text.items
