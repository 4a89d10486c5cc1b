use Rattle.std.proofs.Common.{◌≡◌, ◌∙◌, List, None, Some, ap, get_or, subst, sym}
use Rattle.std.specs.Prelude.{All}
use Rattle.bip_model.specs.declared.messages.Reply.{Reply}
use Rattle.bip_model.specs.declared.wants.Want.{Want}
use Rattle.bip_partition.specs.Laws.{IsPlanned}
use Rattle.bip_partition.specs.Plans.{ClassTouches}
use Rattle.bip_observe.specs.Offers.{KeptOffers, Observed}
use Rattle.bip_ip.specs.Nodes.{IsKeptNode, IsLeftByReply, KeptNode, node_of, with_grant_known}
use Rattle.bip_ip.specs.declared.nodes.Answered.TheVariants.{Dropped}
use Rattle.bip_ip.specs.declared.nodes.OpenRecord.{OpenRecord}
use Rattle.bip_ip.proofs.LawLemmas.{one_record}
use Rattle.bip_ip.proofs.NodeLemmas.{class_touched, kept_on, learned_node, refused_left}
use Rattle.bip_ip.proofs.nodes.IpNode.on_reply.Goals as goal

pub learn-requires-clause-touched : goal.learn-requires-clause-touched
learn-requires-clause-touched c =
    let o = c.args.self.now.offers in
    let its = c.in-Some.ensures.its in
    let same : c.self-2.inside.offers ≡ o = ap (λ (k : KeptNode). k.offers) c.self-2.view_is
    ∙ c.take_record.ensures.offers in
    let planned : IsPlanned o.plan = subst IsPlanned
    (c.plan.ensures.plan ∙ ap (λ (k : KeptNode). k.offers.plan) c.self.view_is)
    c.recall.ensures.planned in
    let touched = class_touched o.plan c.in-Some.record.request.inter.0 o.class
    c.in-Some.record.request.wants planned its.fit.parties (sym its.fit.class ∙ its.class) in
    rw c.as_slice.ensures.wants (subst (λ (k : KeptOffers). All
    (λ (w : Want). ClassTouches k.plan k.class w.comp.0) c.in-Some.record.request.wants)
    (sym same) touched)

pub invariant_of-self-2 : goal.invariant_of-self-2
invariant_of-self-2 c =
    let n : KeptNode = record {
      offers = c.self-2.inside.offers;
      pending = c.self-2.inside.records.pending;
      next = c.self-2.inside.next;
    } in
    let plan = ap (λ (v : Observed). v.plan) c.learn.ensures.learned in
    let class = ap (λ (v : Observed). v.class) c.learn.ensures.learned in
    record {
      kept = kept_on n c.learn.new.offers plan class c.self-2.invariant.kept;
      asked = c.self-2.invariant.asked;
      plan = c.self-2.invariant.plan ∙ sym plan;
      class = c.self-2.invariant.class ∙ sym class;
    }

pub invariant_of-self : goal.invariant_of-self
invariant_of-self c =
    let n : KeptNode = record {
      offers = c.self-2.inside.offers;
      pending = c.self-2.inside.records.pending;
      next = c.self-2.inside.next;
    } in
    record {
      kept = kept_on n c.spend.new.self c.spend.ensures.plan c.spend.ensures.class
          c.self-2.invariant.kept;
      asked = c.self-2.invariant.asked;
      plan = c.self-2.invariant.plan ∙ sym c.spend.ensures.plan;
      class = c.self-2.invariant.class ∙ sym c.spend.ensures.class;
    }

pub returns-clause-left : goal.returns-clause-left
returns-clause-left c = λ e awaits.
    let n : KeptNode = record {
      offers = c.self-2.inside.offers;
      pending = c.self-2.inside.records.pending;
      next = c.self-2.inside.next;
    } in
    let wants : c.as_slice.result.now ≡ e.request.wants = c.as_slice.ensures.wants
    ∙ ap (λ (x : OpenRecord). x.request.wants)
    (one_record (node_of c.args.self.now) c.args.reply.now c.in-Some.record e
    c.in-Some.ensures.awaits awaits) in
    learned_node n c.learn.new.offers c.as_slice.result.now c.learn.ensures.learned
    ∙ (ap (λ (ws : List Want). with_grant_known ws (node_of n)) wants
    ∙ ap (with_grant_known e.request.wants) (ap node_of c.self-2.view_is ∙ c.in-Some.ensures.taken))

pub returns-in-Refused-clause-left : goal.returns-in-Refused-clause-left
returns-in-Refused-clause-left c =
    let n : KeptNode = record {
      offers = c.self-2.inside.offers;
      pending = c.self-2.inside.records.pending;
      next = c.self-2.inside.next;
    } in
    let same : c.self-2.inside.offers ≡ c.args.self.now.offers =
    ap (λ (k : KeptNode). k.offers) c.self-2.view_is ∙ c.take_record.ensures.offers in
    let o = c.args.self.now.offers in
    let planned : IsPlanned o.plan = subst IsPlanned
    (c.plan.ensures.plan ∙ ap (λ (k : KeptNode). k.offers.plan) c.self.view_is)
    c.recall.ensures.planned in
    let kept : IsKeptNode c.args.self.now = subst IsKeptNode c.self.view_is c.self.invariant.kept in
    let wants = λ (e : OpenRecord) (is : get_or c.args.self.now.pending c.in-Refused.inter.0 None
    ≡ Some e).
    let its = kept.records c.in-Refused.inter.0 e is in
    class_touched o.plan e.request.inter.0 o.class e.request.wants planned its.fit.parties
    (sym its.fit.class ∙ its.class) in
    subst (λ (r : Reply). IsLeftByReply r Dropped (node_of c.args.self.now)
    (node_of (record n { offers = c.spend.new.self }))) (sym c.in-Refused.is)
    (refused_left c.args.self.now n c.in-Refused.inter.0 c.in-Refused.comp.0 c.in-Refused.used
    c.spend.new.self (rw c.in-Refused.is at
    (ap node_of c.self-2.view_is ∙ c.in-Some.ensures.taken)) same c.spend.ensures.plan
    c.spend.ensures.class c.spend.ensures.held c.spend.ensures.touched c.spend.ensures.others
    wants)
