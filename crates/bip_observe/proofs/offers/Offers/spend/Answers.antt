use Rattle.std.proofs.Common.{◌≡◌, ◌<◌, get_or, length}
use Rattle.bip_observe.specs.Offers.{KeptOffers}
use Rattle.bip_observe.proofs.KeptLemmas.{known_kept, known_more}
use Rattle.bip_observe.proofs.offers.Offers.spend.Goals as goal

pub set-requires : goal.set-requires
set-requires c = rw c.self.invariant.each_known
    (c.class_touches.ensures.known c.if-class_touches.true)

pub invariant_of-self : goal.invariant_of-self
invariant_of-self c = rw c.set.ensures (known_kept _ c.args.comp.0 c.args.number c.self.invariant)

pub returns-then-known-number-clause-touched : goal.returns-then-known-number-clause-touched
returns-then-known-number-clause-touched c = λ touched.
    let o : KeptOffers = record {
      plan = c.self.inside.plan.now;
      class = c.self.inside.class.0;
      base = c.self.inside.base;
      known = c.self.inside.known;
      held = c.self.inside.held;
    } in
    let within : c.args.comp.0 < length o.known =
    rw c.self.invariant.each_known (c.class_touches.ensures.known c.if-class_touches.true) in
    let read : c.known.result ≡ get_or o.known c.args.comp.0 o.base =
    rw (← c.self.view_is) at c.known.ensures in
    let more : get_or o.known c.args.comp.0 o.base < c.args.number =
    rw (← read) c.if-known-number.true in
    rw (← c.self.view_is, c.set.ensures) (known_more o c.args.comp.0 c.args.number within more)
