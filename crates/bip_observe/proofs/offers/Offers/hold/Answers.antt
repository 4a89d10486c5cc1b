use Rattle.std.proofs.Common.{◌<◌, length}
use Rattle.bip_observe.specs.Offers.{KeptOffers}
use Rattle.bip_observe.proofs.KeptLemmas.{expected_known, held_kept, held_more}
use Rattle.bip_observe.proofs.offers.Offers.hold.Goals as goal

pub invariant_of-self : goal.invariant_of-self
invariant_of-self c =
    let expected = rw (← c.self.view_is) at (c.is_expected.ensures.0 c.if-not-is_expected.false) in
    rw c.set.ensures (held_kept _ c.args.offer c.self.invariant expected
    (rw c.self.invariant.each_held (expected_known _ _ c.args.offer expected)))

pub returns-clause-left : goal.returns-clause-left
returns-clause-left c =
    let o : KeptOffers = record {
      plan = c.self.inside.plan.now;
      class = c.self.inside.class.0;
      base = c.self.inside.base;
      known = c.self.inside.known;
      held = c.self.inside.held;
    } in
    let expected = rw (← c.self.view_is) at (c.is_expected.ensures.0 c.if-not-is_expected.false) in
    let within : c.args.offer.comp.0 < length o.held =
    rw c.self.invariant.each_held (expected_known o.plan o.class c.args.offer expected) in
    rw (← c.self.view_is, c.set.ensures) (held_more o c.args.offer within)
