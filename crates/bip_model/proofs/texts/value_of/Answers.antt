use Rattle.std.proofs.Common.{arith}
use Rattle.bip_model.proofs.NumberLemmas.{value_below, value_more}
use Rattle.bip_model.proofs.texts.value_of.Goals as goal

pub overflow_mul-value : goal.overflow_mul-value
overflow_mul-value c =
    omega (
      arith,
      value_below c.args.digits.now c.loop-digit.digit-index c.requires.digits c.requires.short,
    )

pub overflow_add-value : goal.overflow_add-value
overflow_add-value c =
    omega (
      arith,
      value_below c.args.digits.now c.loop-digit.digit-index c.requires.digits c.requires.short,
      c.type_inv.digits c.loop-digit.digit-index,
    )

pub loop-digit-preserved : goal.loop-digit-preserved
loop-digit-preserved c =
    omega (
      arith,
      value_more c.args.digits.now c.loop-digit.digit-index c.requires.digits
          c.loop-digit-test.true,
    )
