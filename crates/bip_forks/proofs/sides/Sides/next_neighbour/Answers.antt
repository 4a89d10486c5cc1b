use Rattle.std.proofs.Common.{sym, subst}
use Rattle.bip_forks.proofs.SideLemmas.{next_found, next_none, nothing_stays}
use Rattle.bip_forks.specs.Exchanges.{Goes, StaysSomehow}
use Rattle.bip_forks.specs.Sides.{AreByNumber}
use Rattle.bip_forks.proofs.sides.Sides.next_neighbour.Goals as goal

pub first_that_goes-requires : goal.first_that_goes-requires
first_that_goes-requires c = (
  c.self.inside.count,
  subst (AreByNumber 0 c.self.inside.count) (sym c.deref.ensures.value) c.self.invariant,
)

pub returns-in-Some : goal.returns-in-Some
returns-in-Some c = next_found (StaysSomehow c.args.exchange) (Goes c.args.exchange)
    c.self.inside.count c.self.inside.shared.items c.deref.result.now c.args.self.now c.args.from
    c.in-Some.place c.index.result.now c.self.invariant c.self.view_is c.deref.ensures.value
    (nothing_stays c.args.exchange) c.in-Some.ensures.some c.index.ensures

pub returns-in-None : goal.returns-in-None
returns-in-None c = next_none (StaysSomehow c.args.exchange) (Goes c.args.exchange)
    c.self.inside.count c.self.inside.shared.items c.deref.result.now c.args.self.now c.args.from
    c.max.result c.self.invariant c.self.view_is c.deref.ensures.value
    (nothing_stays c.args.exchange) c.in-None.ensures.none c.max.ensures
