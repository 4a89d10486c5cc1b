use Rattle.std.proofs.Common.{[], ◌≡◌, length, ap, arith, refl}
use Rattle.bip_partition.specs.Plans.{IsListTouched}
use Rattle.bip_partition.proofs.ListedLemmas.{one_more}
use Rattle.bip_partition.proofs.tables.lists_touched.Goals as goal

pub loop-number-init : goal.loop-number-init
loop-number-init c = rw (c.of-lists.ensures, c.new.ensures.items)
    (record { each = refl; list = λ a below. absurd (omega arith) })

pub loop-number-preserved : goal.loop-number-preserved
loop-number-preserved c =
    let before = c.loop-number.invariant in
    let more = one_more (IsListTouched c.args.model.now)
    [] c.loop-number.number c.loop-number.lists c.in_ok-list.list before.each before.list
    c.in_ok-list.ensures in
    rw c.in_ok-push.ensures.ok (record { each = more.0; list = more.1 })

pub returns-clause-lists : goal.returns-clause-lists
returns-clause-lists c =
    let all : c.loop-number.number ≡ length c.args.model.now.interactions =
    omega (
      arith,
      c.loop-number.auto.number-end,
      c.loop-number-test.false,
      ap length c.interactions-number-end.ensures.interactions,
    )
    in
    rw all at c.loop-number.invariant
