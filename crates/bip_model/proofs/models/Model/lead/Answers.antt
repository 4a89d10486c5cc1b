use Rattle.std.proofs.Common.{sym}
use Rattle.bip_model.specs.States.{state_of}
use Rattle.bip_model.proofs.TransitionLemmas.{follow_in}
use Rattle.bip_model.proofs.models.Model.lead.Goals as goal

pub follow-requires : goal.follow-requires
follow-requires c =
    follow_in c.args.self.now (state_of c.args.state.now)
    (c.args.comp, c.args.port) c.in-Some.transition.now c.requires.model c.requires.values
    (sym c.in-Some.ensures)
