use Rattle.std.proofs.Common.{◌≡◌, ◌∙◌, ◌++◌, ◌∷◌, [], ap, arith, rules, subst}
use Rattle.bip_bank.proofs.StationLemmas.{few_stations}
use Rattle.bip_host.specs.Starting.{AreNeighbours}
use Rattle.bip_host.proofs.NeighbourLemmas.{no_neighbour, one_neighbour}
use Rattle.bip_host.proofs.starting_stations.neighbours.Goals as goal
use Rattle.bip_host.proofs.starting_stations.neighbours.Goals.{then-are_neighbours+in-Ok+in_ok-push}
use Rattle.bip_host.proofs.starting_stations.neighbours.Goals.{then-are_neighbours+in_default}
use Rattle.bip_host.proofs.starting_stations.neighbours.Goals.{else-are_neighbours}

pub loop-other-preserved : goal.loop-other-preserved
loop-other-preserved c =
    let m = c.args.plan.now.model in
    let stations = c.stations-stations.result.now in
    let place = c.args.place in
    let other = c.loop-other.other in
    let list = c.loop-other.list.items in
    elim c.if-are_neighbours.branch [
      | then-are_neighbours+in-Ok+in_ok-push w ↦
          let near : AreNeighbours m stations place other = search rules in
          let same : w.in-Ok.number ≡ other = search rules in
          one_neighbour m stations place other list c.if-are_neighbours.list.items
          c.loop-other.invariant near
          (subst (λ n. c.if-are_neighbours.list.items ≡ list ++ (record { 0 = n }) ∷ []) same
          (ap (λ l. l.items) w.list-is ∙ w.in_ok-push.ensures.items))
      | then-are_neighbours+in_default w ↦
          let few = few_stations c.args.plan.now stations c.recall.ensures.valid
          c.stations-stations.ensures in
          absurd (w.in_default.ensures (omega (arith, c.loop-other-test.true, few)))
      | else-are_neighbours w ↦
          let apart : AreNeighbours m stations place other → ⊥ = search rules in
          no_neighbour m stations place other list c.if-are_neighbours.list.items
          c.loop-other.invariant apart (ap (λ l. l.items) w.list-is)
    ]
