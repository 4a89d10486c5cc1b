use Rattle.std.proofs.Common.{◌<◌, arith}
use Rattle.bip_partition.specs.Tables.{inside}
use Rattle.bip_partition.proofs.LinkLemmas.{IsBeside-below, IsBeside-found, IsWithin-more}
use Rattle.bip_partition.proofs.LinkLemmas.{all_within}
use Rattle.bip_partition.proofs.tables.linked.Goals as goal

pub loop-comp-init : goal.loop-comp-init
loop-comp-init c = record { started = λ _ in'. in'; linked = λ _ in'. inside in' }

pub with_comp-set-requires : goal.with_comp-set-requires
with_comp-set-requires c =
    IsBeside-below c.args.touches.now c.loop-comp.set c.in-Some.comp c.requires
    (IsBeside-found c.args.touches.now c.loop-comp.set c.in-Some.comp c.in-Some.ensures.some)

pub loop-comp-smaller : goal.loop-comp-smaller
loop-comp-smaller c =
    let next = IsBeside-found c.args.touches.now c.loop-comp.set c.in-Some.comp
    c.in-Some.ensures.some in
    let more : c.loop-comp.set < c.with_comp-set.result = c.with_comp-set.ensures.more next.out in
    omega arith

pub loop-comp-preserved : goal.loop-comp-preserved
loop-comp-preserved c =
    let next = IsBeside-found c.args.touches.now c.loop-comp.set c.in-Some.comp
    c.in-Some.ensures.some in
    IsWithin-more c.args.touches.now c.args.seeds c.loop-comp.set c.with_comp-set.result
    c.in-Some.comp c.loop-comp.invariant next c.with_comp-set.ensures.has

pub returns : goal.returns
returns c = λ b. (
  c.loop-comp.invariant.linked b,
  all_within c.args.touches.now c.args.seeds c.loop-comp.set c.loop-comp.invariant
      c.in_default.ensures.none b,
)
