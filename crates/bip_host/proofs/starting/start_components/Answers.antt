use Rattle.std.proofs.Common.{◌≡◌, ◌∙◌, arith, length, subst, sym}
use Rattle.bip_host.specs.Components.{IsFirstComponentActor}
use Rattle.bip_host.specs.Starting.{AreComponentNodes}
use Rattle.bip_host.proofs.StartingLemmas.{component_behind}
use Rattle.bip_host.proofs.starting.start_components.Goals as goal

pub loop-intake-preserved : goal.loop-intake-preserved
loop-intake-preserved c =
    let p = c.args.plan.now in
    let long : c.loop-intake.nodes.len ≡ length c.loop-intake.nodes.items =
    omega (arith, c.loop-intake.nodes.ok.0) in
    let first = subst (λ k. IsFirstComponentActor p k c.new.result)
    (c.len-number.ensures ∙ long) c.new.ensures in
    subst (AreComponentNodes p) (sym c.in_ok-push.ensures.items)
    (component_behind p c.loop-intake.nodes.items _ c.loop-intake.invariant first)
