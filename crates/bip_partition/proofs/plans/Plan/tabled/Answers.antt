use Rattle.std.proofs.Common.{length, ap, arith}
use Rattle.std.proofs.lemmas.Bool.{false≢true}
use Rattle.bip_partition.proofs.TableLemmas.{tabled_known}
use Rattle.bip_partition.proofs.plans.Plan.tabled.Goals as goal

pub returns-then-components-comp : goal.returns-then-components-comp
returns-then-components-comp c = (
  λ none. absurd (false≢true none),
  λ is.
      let within = tabled_known c.args.self.now c.args.comp.0
      (rw (← c.self.view_is) c.self.invariant.valid) is in
      absurd (omega (
        arith,
        rw (← c.self.view_is) at within,
        c.if-components-comp.true,
        ap length c.components.ensures.components,
      )),
)
