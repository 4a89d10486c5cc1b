use Rattle.std.proofs.Common.{◌∷◌, ◌++◌, [], length, ap, arith, refl, length-append}
use Rattle.std.proofs.lemmas.Bool.{false≢true}
use Rattle.bip_model.specs.declared.numbering.CompId.{CompId}
use Rattle.bip_partition.specs.Plans.{Touches}
use Rattle.bip_partition.specs.Tables.{comp}
use Rattle.bip_partition.proofs.ListedLemmas.{exact_in_all, none_below, one_has, one_lacks}
use Rattle.bip_partition.proofs.TouchLemmas.{touched_known}
use Rattle.bip_partition.proofs.plans.count_touched.Goals as goal
use Rattle.bip_partition.proofs.plans.count_touched.Goals.{then-touches, else-touches}

pub loop-number-init : goal.loop-number-init
loop-number-init c = (
  [],
  none_below (λ (d : CompId). d.0) comp (λ n. refl) (λ x. refl) (Touches
      c.args.model.now c.args.inter.0),
  refl,
  omega arith,
)

pub overflow_add-count : goal.overflow_add-count
overflow_add-count c =
    omega (
      arith,
      c.loop-number.invariant.3,
      c.loop-number-test.true,
      ap length c.components-number-end.ensures.components,
      c.components-number-end.ensures.valid.so_far.few_components,
      c.components-number-end.ensures.valid.components_named,
    )

pub loop-number-preserved : goal.loop-number-preserved
loop-number-preserved c =
    let list = c.loop-number.invariant.0 in
    let below = c.loop-number.invariant.1 in
    elim c.if-touches.branch [
      | then-touches w ↦ (
        list ++ comp c.loop-number.number ∷ [],
        one_has (λ (d : CompId). d.0) comp (λ n. refl) (λ x. refl)
            (Touches c.args.model.now c.args.inter.0) c.loop-number.number list below
            (w.if-touches.ensures.0 refl),
        omega (
          arith,
          w.count-is,
          c.loop-number.invariant.2,
          length-append list (comp c.loop-number.number ∷ []),
        ),
        omega (arith, w.count-is, c.loop-number.invariant.3),
      )
      | else-touches w ↦ (
        list,
        one_lacks (λ (d : CompId). d.0) comp (λ n. refl) (λ x. refl)
            (Touches c.args.model.now c.args.inter.0) c.loop-number.number list below
            (λ has. false≢true (w.if-touches.ensures.1 has)),
        omega (arith, w.count-is, c.loop-number.invariant.2),
        omega (arith, w.count-is, c.loop-number.invariant.3),
      )
    ]

pub returns : goal.returns
returns c = record {
  list = c.loop-number.invariant.0;
  listed = record {
    rising = c.loop-number.invariant.1.rising;
    exact = exact_in_all (λ (d : CompId). d.0) comp (λ n. refl) (λ x. refl)
        (Touches c.args.model.now c.args.inter.0) c.loop-number.number c.loop-number.invariant.0
        c.loop-number.invariant.1
        (λ n touched.
        omega (
          arith,
          touched_known c.args.model.now c.args.inter.0 n c.components-number-end.ensures.valid
              touched,
          c.loop-number-test.false,
          ap length c.components-number-end.ensures.components,
        ));
  };
  counted = c.loop-number.invariant.2;
}
