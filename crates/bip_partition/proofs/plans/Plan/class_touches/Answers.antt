use Rattle.std.proofs.Common.{◌<◌, length, ap, arith}
use Rattle.std.proofs.lemmas.Bool.{false≢true}
use Rattle.bip_partition.proofs.TouchLemmas.{class_touched_known}
use Rattle.bip_partition.proofs.plans.Plan.class_touches.Goals as goal

pub returns-then-components-comp-clause-touches : goal.returns-then-components-comp-clause-touches
returns-then-components-comp-clause-touches c = (
  λ none. absurd (false≢true none),
  λ is.
      let within = class_touched_known c.args.self.now c.args.class.0 c.args.comp.0
      (rw (← c.self.view_is) c.self.invariant.valid) is in
      absurd (omega (
        arith,
        rw (← c.self.view_is) at within,
        c.if-components-comp.true,
        ap length c.components.ensures.components,
      )),
)

pub returns-in-Some-clause-touches : goal.returns-in-Some-clause-touches
returns-in-Some-clause-touches c =
    let here = c.in-Some.ensures.lookup.3 in
    let within : c.args.class.0 < length c.self.inside.tables.class_sets =
    rw c.as_slice.ensures at here.0 in
    rw (c.has_comp.ensures, here.1 0, c.as_slice.ensures, ← c.self.view_is)
    (c.self.invariant.tables.class_sets.set c.args.class.0 within c.args.comp.0)
