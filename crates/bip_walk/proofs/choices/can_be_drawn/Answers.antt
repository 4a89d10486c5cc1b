use Rattle.std.proofs.Common.{refl, subst, sym}
use Rattle.bip_model.specs.declared.parts.System.{System}
use Rattle.bip_partition.specs.Plans.{IsListTouched}
use Rattle.bip_replay.specs.Runs.{standing_of}
use Rattle.bip_walk.proofs.ChoiceLemmas.{test_from_unspent, unspent_from_test}
use Rattle.bip_walk.proofs.choices.can_be_drawn.Goals as goal

pub returns-then-allows : goal.returns-then-allows
returns-then-allows c =
    let p = standing_of c.args.position.now in
    let a = c.args.inter.0 in
    let cs = c.touches.result.now in
    let list = subst (λ (m : System). IsListTouched m a cs) (sym c.requires.model)
    c.touches.ensures.touches in (
      λ on. record {
        may = c.if-allows.ensures.0 refl;
        unspent = unspent_from_test p a cs list (rw (← c.are_unspent.ensures) on);
      },
      λ can. rw c.are_unspent.ensures (test_from_unspent p a cs list can.unspent),
    )
