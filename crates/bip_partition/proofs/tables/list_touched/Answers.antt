use Rattle.std.proofs.Common.{length, ap, arith, refl}
use Rattle.std.proofs.lemmas.Bool.{false≢true}
use Rattle.bip_partition.proofs.TouchLemmas.{touched_known}
use Rattle.bip_model.specs.declared.numbering.CompId.{CompId}
use Rattle.bip_partition.specs.Plans.{Touches}
use Rattle.bip_partition.specs.Tables.{comp}
use Rattle.bip_partition.proofs.ListedLemmas.{exact_in_all, none_below, one_has, one_lacks}
use Rattle.bip_partition.proofs.tables.list_touched.Goals as goal
use Rattle.bip_partition.proofs.tables.list_touched.Goals.{then-touches+in_ok-push, else-touches}

pub loop-number-init : goal.loop-number-init
loop-number-init c = rw (c.of-list.ensures, c.new.ensures.items)
    (none_below (λ (d : CompId). d.0) comp (λ n. refl) (λ x. refl)
    (Touches c.args.model.now c.args.inter.0))

pub loop-number-preserved : goal.loop-number-preserved
loop-number-preserved c = elim c.if-touches.branch [
  | then-touches+in_ok-push w ↦
      rw (w.list-is, w.in_ok-push.ensures.ok)
      (one_has (λ (d : CompId). d.0) comp (λ n. refl) (λ x. refl)
      (Touches c.args.model.now c.args.inter.0) c.loop-number.number c.loop-number.list
      c.loop-number.invariant (w.if-touches.ensures.0 refl))
  | else-touches w ↦
      rw w.list-is (one_lacks (λ (d : CompId). d.0) comp (λ n. refl) (λ x. refl)
      (Touches c.args.model.now c.args.inter.0) c.loop-number.number c.loop-number.list
      c.loop-number.invariant (λ has. false≢true (w.if-touches.ensures.1 has)))
]

pub returns : goal.returns
returns c = record {
  rising = c.loop-number.invariant.rising;
  exact = exact_in_all (λ (d : CompId). d.0) comp (λ n. refl) (λ x. refl)
      (Touches c.args.model.now c.args.inter.0) c.loop-number.number c.loop-number.list
      c.loop-number.invariant
      (λ n touched.
      omega (
        arith,
        touched_known c.args.model.now c.args.inter.0 n c.components-number-end.ensures.valid
            touched,
        c.loop-number-test.false,
        ap length c.components-number-end.ensures.components,
      ));
}
