use Rattle.std.proofs.Common.{◌≡◌, ◌<◌, length, refl, ap, arith}
use Rattle.bip_model.proofs.ListLemmas.{read_row}
use Rattle.bip_partition.specs.Plans.{Planned}
use Rattle.bip_partition.specs.Tables.{IsFootprint}
use Rattle.bip_partition.specs.declared.footprints.Footprint.{Footprint}
use Rattle.bip_partition.proofs.ListedLemmas.{one_more}
use Rattle.bip_partition.proofs.footprints.list_footprints.Goals as goal

pub loop-number-init : goal.loop-number-init
loop-number-init c = rw (c.of-list.ensures, c.new.ensures.items)
    (record { each = refl; one = λ a none below. absurd (omega arith) })

pub of-requires-clause-touched : goal.of-requires-clause-touched
of-requires-clause-touched c =
    let lists = c.requires.touched in
    let within : c.loop-number.number < length c.args.model.now.interactions =
    omega (
      arith,
      c.loop-number-test.true,
      ap length c.interactions-number-end.ensures.interactions,
    ) in
    let at = read_row c.args.touches.now c.args.touches.now c.loop-number.number
    c.index-touches-number.result refl (rw lists.each within) c.index-touches-number.is in
    rw (c.as_slice.ensures, at) (lists.list c.loop-number.number within)

pub loop-number-preserved : goal.loop-number-preserved
loop-number-preserved c =
    let p : Planned = record { model = c.args.model.now; classes = c.args.classes.now } in
    let before = c.loop-number.invariant in
    let more = λ (none : Footprint). one_more
    (IsFootprint p) none c.loop-number.number c.loop-number.list c.of.result before.each
    (λ a below. before.one a none below) c.of.ensures in
    rw c.in_ok-push.ensures.ok (record {
      each = (more c.of.result).0;
      one = λ a none. (more none).1 a;
    })

pub returns : goal.returns
returns c =
    let all : c.loop-number.number ≡ length c.args.model.now.interactions =
    omega (
      arith,
      c.loop-number.auto.number-end,
      c.loop-number-test.false,
      ap length c.interactions-number-end.ensures.interactions,
    )
    in
    rw all at c.loop-number.invariant
