use Rattle.std.proofs.Common.{◌∷◌, ◌++◌, [], length, ap, arith, refl, length-append}
use Rattle.std.proofs.lemmas.Bool.{false≢true}
use Rattle.bip_model.specs.declared.numbering.CompId.{CompId}
use Rattle.bip_partition.specs.Plans.{IsTabled}
use Rattle.bip_partition.specs.Tables.{comp}
use Rattle.bip_partition.proofs.ListedLemmas.{exact_in_all, none_below, one_has, one_lacks}
use Rattle.bip_partition.proofs.TableLemmas.{tabled_known}
use Rattle.bip_partition.proofs.plans.Plan.count_tabled.Goals as goal
use Rattle.bip_partition.proofs.plans.Plan.count_tabled.Goals.{then-tabled, else-tabled}

pub loop-number-init : goal.loop-number-init
loop-number-init c = (
  [],
  none_below (λ (d : CompId). d.0) comp (λ n. refl) (λ x. refl) (IsTabled
      c.args.self.now),
  refl,
  omega arith,
)

pub overflow_add-count : goal.overflow_add-count
overflow_add-count c =
    omega (
      arith,
      c.loop-number.invariant.3,
      c.loop-number-test.true,
      ap length c.components-number-end.ensures.components,
      c.components-number-end.ensures.valid.so_far.few_components,
      c.components-number-end.ensures.valid.components_named,
    )

pub loop-number-preserved : goal.loop-number-preserved
loop-number-preserved c =
    let list = c.loop-number.invariant.0 in
    let below = c.loop-number.invariant.1 in
    elim c.if-tabled.branch [
      | then-tabled w ↦ (
        list ++ comp c.loop-number.number ∷ [],
        one_has (λ (d : CompId). d.0) comp (λ n. refl) (λ x. refl)
            (IsTabled c.args.self.now) c.loop-number.number list below (w.if-tabled.ensures.0 refl),
        omega (
          arith,
          w.count-is,
          c.loop-number.invariant.2,
          length-append list (comp c.loop-number.number ∷ []),
        ),
        omega (arith, w.count-is, c.loop-number.invariant.3),
      )
      | else-tabled w ↦ (
        list,
        one_lacks (λ (d : CompId). d.0) comp (λ n. refl) (λ x. refl)
            (IsTabled c.args.self.now) c.loop-number.number list below
            (λ has. false≢true (w.if-tabled.ensures.1 has)),
        omega (arith, w.count-is, c.loop-number.invariant.2),
        omega (arith, w.count-is, c.loop-number.invariant.3),
      )
    ]

pub returns : goal.returns
returns c =
    let valid = c.components-number-end.ensures.valid in
    record {
      list = c.loop-number.invariant.0;
      rising = c.loop-number.invariant.1.rising;
      exact = exact_in_all (λ (d : CompId). d.0) comp (λ n. refl) (λ x. refl)
          (IsTabled c.args.self.now) c.loop-number.number c.loop-number.invariant.0
          c.loop-number.invariant.1
          (λ n row.
          let within = rw (← c.self.view_is) at
          (tabled_known c.args.self.now n (rw (← c.self.view_is) valid) row) in
          omega (
            arith,
            within,
            c.loop-number-test.false,
            ap length c.components-number-end.ensures.components,
          ));
      counted = c.loop-number.invariant.2;
    }
