use Rattle.std.proofs.Common.{◌∙◌, sym}
use Rattle.bip_ip.proofs.NodeLemmas.{heard_node, kept_on, left_plan}
use Rattle.bip_ip.specs.Nodes.{KeptNode}
use Rattle.bip_ip.proofs.nodes.IpNode.on_offer.Goals as goal

pub invariant_of-self : goal.invariant_of-self
invariant_of-self c =
    let n : KeptNode = record {
      offers = c.self.inside.offers;
      pending = c.self.inside.records.pending;
      next = c.self.inside.next;
    } in
    let same = left_plan c.args.offer c.hold.result n.offers c.hold.new.self c.hold.ensures.left in
    record {
      kept = kept_on n c.hold.new.self same.0 same.1 c.self.invariant.kept;
      asked = c.self.invariant.asked;
      plan = c.self.invariant.plan ∙ sym same.0;
      class = c.self.invariant.class ∙ sym same.1;
    }

pub returns-clause-left : goal.returns-clause-left
returns-clause-left c =
    let n : KeptNode = record {
      offers = c.self.inside.offers;
      pending = c.self.inside.records.pending;
      next = c.self.inside.next;
    } in
    rw (← c.self.view_is) (heard_node n c.args.offer c.hold.result c.hold.new.self
    c.hold.ensures.left)
