use Rattle.std.proofs.Common.{◌≡◌, [], get_or, sym, arith, refl}
use Rattle.std.proofs.lemmas.Bool.{false≢true}
use Rattle.bip_partition.proofs.TouchLemmas.{touching_known}
use Rattle.std.proofs.lemmas.Option.{get_or_from_slice_get}
use Rattle.bip_model.specs.declared.numbering.ClassId.{ClassId}
use Rattle.bip_partition.specs.Plans.{ClassTouches}
use Rattle.bip_partition.proofs.ListedLemmas.{exact_in_all, none_below, one_has, one_lacks}
use Rattle.bip_partition.proofs.tables.list_touching.Goals as goal
use Rattle.bip_partition.proofs.tables.list_touching.Goals.{then-touch_it+in_ok-push, else-touch_it}

pub loop-number-init : goal.loop-number-init
loop-number-init c = rw (c.of-list.ensures, c.new.ensures.items)
    (none_below (λ (k : ClassId). k.0) (λ n. record { 0 = n }) (λ n. refl) (λ x. refl)
    (λ k. ClassTouches (record { model = c.args.model.now; classes = c.args.classes.now }) k
    c.args.comp.0))

pub loop-number-preserved : goal.loop-number-preserved
loop-number-preserved c =
    let members : c.members.result.now ≡ get_or c.args.classes.now.members c.loop-number.number [] =
    sym (get_or_from_slice_get c.args.classes.now.members c.loop-number.number
    c.members.result.now [] c.members.ensures.members) in
    elim c.if-touch_it.branch [
      | then-touch_it+in_ok-push w ↦
          rw (w.list-is, w.in_ok-push.ensures.ok)
          (one_has (λ (k : ClassId). k.0) (λ n. record { 0 = n }) (λ n. refl) (λ x. refl)
          (λ k. ClassTouches (record { model = c.args.model.now; classes = c.args.classes.now })
          k c.args.comp.0) c.loop-number.number c.loop-number.list c.loop-number.invariant
          (rw members at (w.if-touch_it.ensures.0 refl)))
      | else-touch_it w ↦
          rw w.list-is (one_lacks (λ (k : ClassId). k.0) (λ n. record { 0 = n }) (λ n. refl)
          (λ x. refl) (λ k. ClassTouches (record {
            model = c.args.model.now;
            classes = c.args.classes.now;
          }) k c.args.comp.0) c.loop-number.number
          c.loop-number.list c.loop-number.invariant
          (λ has. false≢true (w.if-touch_it.ensures.1 (rw members has))))
    ]

pub returns : goal.returns
returns c = record {
  rising = c.loop-number.invariant.rising;
  exact = exact_in_all (λ (k : ClassId). k.0) (λ n. record { 0 = n }) (λ n. refl) (λ x. refl)
      (λ k. ClassTouches (record { model = c.args.model.now; classes = c.args.classes.now }) k
      c.args.comp.0) c.loop-number.number c.loop-number.list c.loop-number.invariant
      (λ n touching. omega (
        arith,
        touching_known (record {
          model = c.args.model.now;
          classes = c.args.classes.now;
        }) n c.args.comp.0 touching,
        c.loop-number-test.false,
        c.len-number-end.ensures.members,
      ));
}
