use Rattle.bip_model.proofs.TransitionLemmas.{update_in}
use Rattle.bip_model.proofs.parts.Component.moved.Goals as goal

pub follow-requires : goal.follow-requires
follow-requires c =
    update_in c.args.self.now c.args.local.now.values c.args.local.now.location c.args.port
    c.in_ok-transition.transition.now c.requires.component c.requires.local
    (rw c.in_ok-transition.was at c.transition_for.ensures)
