use Rattle.bip_model.specs.States.{state_of}
use Rattle.bip_model.proofs.PartyLemmas.{above_declared, cover_from_test, test_from_cover}
use Rattle.bip_model.proofs.models.Model.cover_above.Goals as goal

pub cover_all-requires : goal.cover_all-requires
cover_all-requires c = above_declared c.args.self.now c.args.inter.0 c.above.result.now
    c.above.ensures.valid c.above.ensures.above

pub returns : goal.returns
returns c =
    let m = c.args.self.now in
    let a = c.args.inter.0 in
    let s = state_of c.args.state.now in
    let ws = c.args.wants.now in
    rw c.cover_all.ensures (
      cover_from_test m s ws a c.above.result.now c.above.ensures.above,
      test_from_cover m s ws a c.above.result.now c.above.ensures.above,
    )
