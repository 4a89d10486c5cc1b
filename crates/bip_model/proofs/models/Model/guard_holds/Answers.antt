use Rattle.bip_model.proofs.StepLemmas.{counts_offered}
use Rattle.bip_model.specs.States.{state_of}
use Rattle.bip_model.proofs.models.Model.guard_holds.Goals as goal

pub holds-requires : goal.holds-requires
holds-requires c =
    let same = counts_offered c.args.self.now
    (state_of c.args.state.now) c.args.interaction.now.participants c.requires.offered in
    rw (c.values_of-values.ensures, c.as_slice-participants.ensures, c.as_slice.ensures, same)
    c.requires.interaction.guard.there
