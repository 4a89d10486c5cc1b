use Rattle.std.proofs.Common.{length, ap, arith}
use Rattle.bip_partition.proofs.TableLemmas.{many_known}
use Rattle.bip_partition.proofs.plans.first_touching_too_many.Goals as goal

pub returns-clause-none : goal.returns-clause-none
returns-clause-none c = λ a many.
    c.loop-number.invariant a
    (omega (
      arith,
      many_known c.args.model.now a c.interactions-number-end.ensures.valid many,
      c.loop-number-test.false,
      ap length c.interactions-number-end.ensures.interactions,
    )) many
