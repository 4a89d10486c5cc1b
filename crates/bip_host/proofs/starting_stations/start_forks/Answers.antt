use Rattle.std.proofs.Common.{◌≡◌, ◌∙◌, arith, length, subst, sym}
use Rattle.bip_host.specs.Starting.{AreForkNodes, IsForkActor}
use Rattle.bip_host.proofs.StartingLemmas.{fork_behind}
use Rattle.bip_host.proofs.starting_stations.start_forks.Goals as goal

pub loop-intake-preserved : goal.loop-intake-preserved
loop-intake-preserved c =
    let p = c.args.plan.now in
    let long : c.loop-intake.nodes.len ≡ length c.loop-intake.nodes.items =
    omega (arith, c.loop-intake.nodes.ok.0) in
    let first = subst (λ k. IsForkActor p k c.in-Ok-fork_actor.actor)
    (c.len-place.ensures ∙ long) c.in-Ok-fork_actor.ensures in
    subst (AreForkNodes p) (sym c.in_ok-push-in-Ok-fork_actor.ensures.items)
    (fork_behind p c.loop-intake.nodes.items _ c.loop-intake.invariant first)
