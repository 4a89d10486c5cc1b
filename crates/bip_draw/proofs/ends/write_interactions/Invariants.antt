use Rattle.bip_model.specs.States.{state_of}
use Rattle.bip_draw.specs.Ends.{AddsMayLines}
use Rattle.bip_draw.proofs.ends.write_interactions.Given as goal

abbrev pub invariant-loop-number : goal.invariant-loop-number
invariant-loop-number l =
    AddsMayLines l.model (state_of l.state) l.initial.text.items l.number l.text.items
