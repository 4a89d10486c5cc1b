use Rattle.std.proofs.Common.{◌+◌, sym, subst}
use Rattle.bip_model.specs.States.{state_of}
use Rattle.bip_draw.specs.Ends.{AddsMayLines, none_said, one_said}
use Rattle.bip_draw.proofs.ends.write_interactions.Goals as goal

pub loop-number-init : goal.loop-number-init
loop-number-init c = none_said

pub loop-number-preserved : goal.loop-number-preserved
loop-number-preserved c =
    let more = c.in_ok-write_interaction.ensures in
    subst (AddsMayLines c.args.model.now (state_of c.args.state.now) c.args.text.now.items
    (c.loop-number.number + 1)) (sym more.added)
    (one_said c.loop-number.invariant more.holds)
