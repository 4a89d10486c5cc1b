use Rattle.bip_forks.proofs.SideLemmas.{lie_as}
use Rattle.bip_forks.proofs.sides.Sides.has_all.Goals as goal

pub returns : goal.returns
returns c =
    let lie = lie_as c.self.inside.count c.self.inside.shared.items c.deref.result.now
    c.args.self.now c.self.invariant c.self.view_is c.deref.ensures.value in
    (λ yes. lie.0 (c.has_all.ensures.0 yes), λ all. c.has_all.ensures.1 (lie.1 all))
