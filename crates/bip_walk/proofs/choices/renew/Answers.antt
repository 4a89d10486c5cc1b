use Rattle.std.proofs.Common.{◌∙◌, rules, sym}
use Rattle.std.proofs.lemmas.Bool.{false≢true}
use Rattle.bip_walk.proofs.RenewLemmas.{none_renewed, one_renewed}
use Rattle.bip_walk.proofs.choices.renew.Goals as goal
use Rattle.bip_walk.proofs.choices.renew.Goals.{else-is_changed, then-is_changed}

pub loop-number-preserved : goal.loop-number-preserved
loop-number-preserved c =
    let so = c.loop-number.invariant in
    elim c.if-is_changed.branch [
      | then-is_changed w ↦ one_renewed _ _ _ _ _ _ so _ _
          (search rules) (c.is_changed.ensures.0 w.if-is_changed.true)
          w.can_be_drawn.ensures w.choices-is
      | else-is_changed w ↦ rw w.choices-is (none_renewed _ _ _ _ _ _ so
          (λ is. false≢true (sym w.if-is_changed.false ∙ c.is_changed.ensures.1 is)))
    ]
