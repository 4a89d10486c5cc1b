use Rattle.std.proofs.Common.{add-one, take}
use Rattle.std.proofs.Math.Seq.{take-suc}
use Rattle.bip_model.proofs.PlaceLemmas.{places_push}
use Rattle.bip_model.proofs.places.places_of_each.Goals as goal

pub loop-component-preserved : goal.loop-component-preserved
loop-component-preserved c =
    let component = c.component-item.result in
    rw (
      c.in_ok-push.ensures.ok,
      c.of.ensures,
      add-one,
      take-suc c.args.components.now c.loop-component.component-index component
          c.loop-component-test.true,
      ← c.component-item.is,
    )
    (places_push (take c.loop-component.component-index c.args.components.now)
    c.loop-component.lists component c.in_ok-places.field-0.items c.loop-component.invariant
    c.in_ok-places.ensures)
