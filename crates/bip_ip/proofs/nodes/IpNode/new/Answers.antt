use Rattle.std.proofs.Common.{◌≡◌, ap, length, sym}
use Rattle.bip_observe.specs.Offers.{Observed}
use Rattle.bip_partition.specs.Plans.{Planned}
use Rattle.bip_ip.proofs.NodeLemmas.{first_is_kept, first_is_node, none_asked}
use Rattle.bip_ip.proofs.nodes.IpNode.new.Goals as goal

pub invariant_of-result : goal.invariant_of-result
invariant_of-result c =
    let n = length c.args.plan.now.model.interactions in
    let o = c.in_ok-offers.offers in
    let plan : c.args.plan.now ≡ o.plan = sym (ap (λ (v : Observed). v.plan)
    c.in_ok-offers.ensures) in
    rw c.in_ok-records.ensures (record {
      kept = first_is_kept o n c.args.first_request
          (ap (λ (p : Planned). length p.model.interactions) plan);
      asked = none_asked n;
      plan = plan;
      class = sym (ap (λ (v : Observed). v.class) c.in_ok-offers.ensures);
    })

pub returns : goal.returns
returns c =
    rw c.in_ok-records.ensures
    (first_is_node c.in_ok-offers.offers (length c.args.plan.now.model.interactions)
    c.args.first_request c.args.plan.now c.args.class.0 c.args.base c.in_ok-offers.ensures)
