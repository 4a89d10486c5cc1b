use Rattle.std.proofs.Common.{◌≡◌, [], get_or, refl, sym, ◌∙◌}
use Rattle.std.proofs.lemmas.Bool.{false≢true}
use Rattle.bip_model.specs.Priorities.{inter}
use Rattle.bip_model.specs.declared.numbering.InterId.{InterId}
use Rattle.bip_model.proofs.ListLemmas.{read_is}
use Rattle.std.specs.Prelude.{IsTrue}
use Rattle.bip_partition.specs.Tables.{meets}
use Rattle.bip_partition.proofs.ListedLemmas.{one_has, one_lacks}
use Rattle.bip_partition.proofs.tables.list_reserved.Goals as goal
use Rattle.bip_partition.proofs.tables.list_reserved.Goals.{then-meets+in_ok-push, else-meets}

pub loop-number-preserved : goal.loop-number-preserved
loop-number-preserved c =
    let list : c.as_slice.result.now ≡ get_or c.args.touches.now c.loop-number.number [] =
    rw c.as_slice.ensures (read_is c.args.touches.now c.loop-number.number
    c.index-touches-number.result [] c.loop-number-test.true c.index-touches-number.is) in
    let met : c.meets.result ≡ meets c.args.set
    (get_or c.args.touches.now c.loop-number.number []) = rw (← list) c.meets.ensures in
    elim c.if-meets.branch [
      | then-meets+in_ok-push w ↦
          rw (w.list-is, w.in_ok-push.ensures.ok)
          (one_has (λ (a : InterId). a.0) inter (λ n. refl) (λ x. refl)
          (λ a. IsTrue (meets c.args.set (get_or c.args.touches.now a []))) c.loop-number.number
          c.loop-number.list c.loop-number.invariant (sym met ∙ w.if-meets.true))
      | else-meets w ↦
          rw w.list-is (one_lacks (λ (a : InterId). a.0) inter (λ n. refl) (λ x. refl)
          (λ a. IsTrue (meets c.args.set (get_or c.args.touches.now a []))) c.loop-number.number
          c.loop-number.list c.loop-number.invariant
          (λ has. false≢true (sym w.if-meets.false ∙ (met ∙ has))))
    ]
