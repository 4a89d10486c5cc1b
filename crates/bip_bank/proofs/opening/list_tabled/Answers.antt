use Rattle.std.proofs.Common.{length, ap, subst, arith, refl}
use Rattle.bip_model.specs.Parts.{IsSystem}
use Rattle.bip_model.specs.declared.parts.System.{System}
use Rattle.std.proofs.lemmas.Bool.{false≢true}
use Rattle.bip_model.specs.declared.numbering.CompId.{CompId}
use Rattle.bip_partition.specs.Plans.{IsTabled}
use Rattle.bip_partition.specs.Tables.{comp}
use Rattle.bip_partition.proofs.ListedLemmas.{exact_in_all, none_below, one_has, one_lacks}
use Rattle.bip_partition.proofs.TableLemmas.{tabled_known}
use Rattle.bip_bank.proofs.opening.list_tabled.Goals as goal
use Rattle.bip_bank.proofs.opening.list_tabled.Goals.{then-tabled+in_ok-push, else-tabled}

pub loop-number-init : goal.loop-number-init
loop-number-init c = rw (c.of-list.ensures, c.new.ensures.items)
    (none_below (λ (d : CompId). d.0) comp (λ n. refl) (λ x. refl) (IsTabled c.args.plan.now))

pub loop-number-preserved : goal.loop-number-preserved
loop-number-preserved c = elim c.if-tabled.branch [
  | then-tabled+in_ok-push w ↦
      rw (w.list-is, w.in_ok-push.ensures.ok)
      (one_has (λ (d : CompId). d.0) comp (λ n. refl) (λ x. refl)
      (IsTabled c.args.plan.now) c.loop-number.number c.loop-number.list c.loop-number.invariant
      (w.if-tabled.ensures.0 refl))
  | else-tabled w ↦
      rw w.list-is (one_lacks (λ (d : CompId). d.0) comp (λ n. refl) (λ x. refl)
      (IsTabled c.args.plan.now) c.loop-number.number c.loop-number.list c.loop-number.invariant
      (λ has. false≢true (w.if-tabled.ensures.1 has)))
]

pub returns : goal.returns
returns c = record {
  rising = c.loop-number.invariant.rising;
  exact = exact_in_all (λ (d : CompId). d.0) comp (λ n. refl) (λ x. refl)
      (IsTabled c.args.plan.now) c.loop-number.number c.loop-number.list c.loop-number.invariant
      (λ n tabled. omega (
        arith,
        tabled_known c.args.plan.now n (subst IsSystem c.model.ensures
            c.components-number-end.ensures.valid) tabled,
        c.loop-number-test.false,
        ap length c.components-number-end.ensures.components,
        ap (λ (m : System). length m.components) c.model.ensures,
      ));
}
