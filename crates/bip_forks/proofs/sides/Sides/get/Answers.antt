use Rattle.std.proofs.Common.{sym, subst}
use Rattle.bip_forks.proofs.SideLemmas.{nothing_at, side_at_place}
use Rattle.bip_forks.specs.Sides.{AreByNumber}
use Rattle.bip_forks.proofs.sides.Sides.get.Goals as goal

pub place_with-requires : goal.place_with-requires
place_with-requires c = (
  c.self.inside.count,
  subst (AreByNumber 0 c.self.inside.count) (sym c.deref.ensures.value) c.self.invariant,
)

pub returns-in-Some-clause-some : goal.returns-in-Some-clause-some
returns-in-Some-clause-some c =
    let at = side_at_place c.self.inside.count c.self.inside.shared.items c.deref.result.now
    c.args.self.now c.args.other.0 c.in-Some.place c.index.result.now c.self.invariant
    c.self.view_is c.deref.ensures.value c.in-Some.ensures.some c.index.ensures in
    at.read

pub returns-in-None-clause-none : goal.returns-in-None-clause-none
returns-in-None-clause-none c = nothing_at c.self.inside.count c.self.inside.shared.items
    c.deref.result.now c.args.self.now c.args.other.0 c.self.view_is c.deref.ensures.value
    c.in-None.ensures.none
