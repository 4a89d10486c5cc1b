use Rattle.std.proofs.Common.{◌≤◌, rules}
use Rattle.std.specs.declared.thread.PromisedHandle.{PromisedHandle}
use Rattle.std.proofs.lemmas.List.Elements.{All-push}
use Rattle.bip_host.specs.declared.actors.NodeEnd.{NodeEnd}
use Rattle.bip_host.specs.declared.hosts.AtMost.{AtMost}
use Rattle.bip_host.proofs.hosts.fn.run_threads.scope.Goals as goal

pub loop-node-preserved : goal.loop-node-preserved
loop-node-preserved g c =
    let few : c.in-Ok-spawn_with.handle.promise.turns ≤ c.captures.asked.limits.turns =
    search rules in
    rw c.in_ok-push-in-Ok-spawn_with.ensures.items
    (All-push (λ (h : PromisedHandle NodeEnd AtMost). h.promise.turns ≤ c.captures.asked.limits.turns)
    c.loop-node.running.items c.in-Ok-spawn_with.handle c.loop-node.invariant few)
