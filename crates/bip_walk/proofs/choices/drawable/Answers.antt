use Rattle.std.proofs.Common.{◌≡◌, ◌∙◌, ◌∷◌, [], arith, false, get_or, length-append, refl}
use Rattle.std.proofs.Common.{sym, true}
use Rattle.std.proofs.lemmas.Bool.{false≢true}
use Rattle.bip_model.specs.Priorities.{inter}
use Rattle.bip_model.specs.declared.numbering.InterId.{InterId}
use Rattle.bip_partition.proofs.ListedLemmas.{one_has, one_lacks}
use Rattle.bip_walk.proofs.choices.drawable.Goals as goal
use Rattle.bip_walk.proofs.choices.drawable.Goals.{else-choices-number, then-choices-number}

pub loop-number-preserved : goal.loop-number-preserved
loop-number-preserved c =
    let list = c.loop-number.list.items in
    let n = c.loop-number.number in
    let so = c.loop-number.invariant in
    elim c.if-choices-number.branch [
      | then-choices-number w ↦
          rw (w.list-is, w.push.ensures.items) (
            one_has (λ (a : InterId). a.0) inter (λ k. refl) (λ x. refl)
                (λ a. get_or c.args.choices.now a false ≡ true) n list so.0
                w.if-choices-number.true,
            omega (arith, length-append list (inter n ∷ []), so.1),
          )
      | else-choices-number w ↦
          rw w.list-is (
            one_lacks (λ (a : InterId). a.0) inter (λ k. refl) (λ x. refl)
                (λ a. get_or c.args.choices.now a false ≡ true) n list so.0
                (λ has. false≢true (sym w.if-choices-number.false ∙ has)),
            omega (arith, so.1),
          )
    ]
