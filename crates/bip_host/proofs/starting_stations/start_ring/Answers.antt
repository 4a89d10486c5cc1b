use Rattle.std.proofs.Common.{◌≡◌, ◌∙◌, arith, length, subst, sym}
use Rattle.bip_bank.specs.Sharing.{IsNextStation}
use Rattle.bip_host.specs.Starting.{IsTokenAt}
use Rattle.bip_host.proofs.StartingLemmas.{ring_actor, ring_behind, token_behind}
use Rattle.bip_host.proofs.starting_stations.start_ring.Goals as goal

pub loop-intake-preserved : goal.loop-intake-preserved
loop-intake-preserved c =
    let nodes = c.loop-intake.nodes.items in
    let count = c.len-count.result in
    let station = c.in-Some-next_in_ring.next in
    let long : c.loop-intake.nodes.len ≡ length nodes = omega (arith, c.loop-intake.nodes.ok.0) in
    let next = subst (λ k. IsNextStation count k station.0) (c.len.ensures ∙ long)
    c.in-Some-next_in_ring.ensures.some in
    let token = subst (IsTokenAt (length nodes))
    (sym c.take.ensures.value) c.loop-intake.invariant.1 in
    let one = ring_actor count (length nodes) station c.take.result c.new.result c.new.ensures next
    token in (
      ring_behind count nodes c.push.new.self.items _ c.loop-intake.invariant.0
          c.in_ok-push-in-Ok-one_outlet.ensures.items one,
      token_behind nodes c.push.new.self.items _ c.take.new.self c.in_ok-push-in-Ok-one_outlet.ensures.items
          c.take.ensures.after,
    )
