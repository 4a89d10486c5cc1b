use Rattle.std.proofs.Common.{length, ap, arith, inl, inr}
use Rattle.std.proofs.lemmas.Bool.{cases_order, false≢true}
use Rattle.bip_partition.proofs.TouchLemmas.{looking_known}
use Rattle.bip_partition.proofs.tables.is_looked_at.Goals as goal

pub loop-number-init : goal.loop-number-init
loop-number-init c = λ a below. absurd (omega arith)

pub loop-number-preserved : goal.loop-number-preserved
loop-number-preserved c = λ a below looked. elim (cases_order a c.loop-number.number) [
  | inl here ↦ false≢true (c.if-is_looked_at.ensures.1 (rw here at looked))
  | inr other ↦ elim other [
    | inl before ↦ c.loop-number.invariant a before looked
    | inr later ↦ absurd (omega arith)
  ]
]

pub returns : goal.returns
returns c = (
  λ none. absurd (false≢true none),
  λ some. absurd (c.loop-number.invariant some.0
      (omega (
        arith,
        looking_known c.args.model.now some.0 c.args.comp.0
            c.interactions-number-end.ensures.valid some.1,
        c.loop-number-test.false,
        ap length c.interactions-number-end.ensures.interactions,
      )) some.1),
)
