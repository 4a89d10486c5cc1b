use Rattle.std.proofs.Common.{◌≡◌, length, arith}
use Rattle.bip_model.proofs.TransitionLemmas.{guard_in}
use Rattle.bip_model.proofs.parts.Component.offers.Goals as goal

pub holds-requires : goal.holds-requires
holds-requires c =
    let count : length c.args.local.now.values ≡ length c.args.self.now.variables = omega arith in
    rw c.as_slice.ensures (guard_in c.args.self.now c.args.local.now.values
    c.args.local.now.location c.args.port c.in-Some.transition.now c.requires.component count
    c.in-Some.ensures)
