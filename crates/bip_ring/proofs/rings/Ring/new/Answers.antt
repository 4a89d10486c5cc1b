use Rattle.std.proofs.Common.{◌≡◌, length, refl, replicate, rules}
use Rattle.bip_bank.proofs.CentralLemmas.{first_central, first_content, none_open}
use Rattle.bip_ring.proofs.RingLemmas.{first_ring}
use Rattle.bip_ring.specs.declared.places.Place.TheVariants.{At}
use Rattle.bip_ring.proofs.rings.Ring.new.Goals as goal

pub invariant_of-result : goal.invariant_of-result
invariant_of-result c =
    let o = c.in_ok-token.ensures in
    let waiting : c.in_ok-waiting.waiting.items ≡ replicate (length
    c.args.plan.now.model.interactions) none_open = search rules in
    record {
      desk = first_central c.args.plan.now c.args.base o.list c.in_ok-token.token.table
          c.in_ok-waiting.waiting.items o.tabled o.rows o.journal o.serial waiting;
      stations = c.stations.result.now;
      listed = c.stations.ensures;
      counted = refl;
    }

pub returns : goal.returns
returns c =
    let o = c.in_ok-token.ensures in
    let waiting : c.in_ok-waiting.waiting.items ≡ replicate (length
    c.args.plan.now.model.interactions) none_open = search rules in
    first_ring c.args.plan.now c.args.base (record {
      plan = c.args.plan.now;
      base = c.args.base;
      table = c.in_ok-token.token.table;
      waiting = c.in_ok-waiting.waiting.items;
    })
    c.stations.result.now (At (record { 0 = 0 })) refl c.stations.ensures (first_content
    c.args.plan.now c.args.base o.list c.in_ok-token.token.table c.in_ok-waiting.waiting.items
    o.rows o.journal waiting)
