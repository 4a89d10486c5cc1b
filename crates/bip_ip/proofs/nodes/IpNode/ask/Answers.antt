use Rattle.std.proofs.Common.{◌≡◌, ◌<◌, ◌∙◌, Some, ap, length, refl, subst, sym, rules}
use Rattle.bip_model.specs.Sets.{has}
use Rattle.bip_model.specs.declared.messages.Request.{Request}
use Rattle.bip_partition.specs.Laws.{IsPlanned}
use Rattle.bip_partition.specs.Plans.{IsFit, IsReserved}
use Rattle.bip_observe.specs.Offers.{Observed, observed}
use Rattle.bip_observe.proofs.ReasonLemmas.{reasons_sound}
use Rattle.bip_ip.specs.Nodes.{AreWanted, CanBeAsked, IsOwn, KeptNode, node_of}
use Rattle.bip_ip.proofs.SufficeLemmas.{suffice_by}
use Rattle.bip_ip.proofs.NodeLemmas.{asked_node, asked_put, class_touched, kept_on, one_more_kept}
use Rattle.bip_ip.proofs.NodeLemmas.{put_on, record_by, same_record}
use Rattle.bip_ip.proofs.nodes.IpNode.ask.Goals as goal

pub learn-requires-clause-touched : goal.learn-requires-clause-touched
learn-requires-clause-touched c =
    let n : KeptNode = record {
      offers = c.self.inside.offers;
      pending = c.self.inside.records.pending;
      next = c.self.inside.next;
    } in
    let own : IsOwn (node_of n) c.args.inter.0 =
    subst (λ (k : KeptNode). IsOwn (node_of k) c.args.inter.0)
    (sym c.self.view_is) c.requires.own in
    let planned : IsPlanned n.offers.plan = rw c.plan-plan.ensures.plan at
    c.recall.ensures.planned in
    rw c.as_slice.ensures.wants (class_touched n.offers.plan c.args.inter.0 n.offers.class
    c.wants_by-moved.result planned c.wants_by-moved.ensures.parties own.class)

pub invariant_of-self : goal.invariant_of-self
invariant_of-self c =
    let n : KeptNode = record {
      offers = c.self.inside.offers;
      pending = c.self.inside.records.pending;
      next = c.self.inside.next;
    } in
    let plan = ap (λ (v : Observed). v.plan) c.learn.ensures.learned in
    let class = ap (λ (v : Observed). v.class) c.learn.ensures.learned in
    record {
      kept = kept_on n c.learn.new.offers plan class c.self.invariant.kept;
      asked = c.self.invariant.asked;
      plan = c.self.invariant.plan ∙ sym plan;
      class = c.self.invariant.class ∙ sym class;
    }

pub put-requires-clause-declared : goal.put-requires-clause-declared
put-requires-clause-declared c =
    let n : KeptNode = record {
      offers = c.self.inside.offers;
      pending = c.self.inside.records.pending;
      next = c.self.inside.next;
    } in
    let own : IsOwn (node_of n) c.args.inter.0 =
    subst (λ (k : KeptNode). IsOwn (node_of k) c.args.inter.0)
    (sym c.self.view_is) c.requires.own in
    rw c.self.invariant.plan own.declared

pub put-requires-clause-own : goal.put-requires-clause-own
put-requires-clause-own c =
    let n : KeptNode = record {
      offers = c.self.inside.offers;
      pending = c.self.inside.records.pending;
      next = c.self.inside.next;
    } in
    let own : IsOwn (node_of n) c.args.inter.0 =
    subst (λ (k : KeptNode). IsOwn (node_of k) c.args.inter.0)
    (sym c.self.view_is) c.requires.own in
    rw (c.self.invariant.plan, c.self.invariant.class) own.class

pub invariant_of-self-2 : goal.invariant_of-self-2
invariant_of-self-2 c =
    let n : KeptNode = record {
      offers = c.self.inside.offers;
      pending = c.self.inside.records.pending;
      next = c.self.inside.next;
    } in
    let a = c.args.inter.0 in
    let own : IsOwn (node_of n) a = subst (λ (k : KeptNode). IsOwn (node_of k) a)
    (sym c.self.view_is) c.requires.own in
    let within : a < length n.pending = rw c.self.invariant.kept.each own.declared in
    let q : Request = record {
      wants = c.wants_by-wants.result;
      reasons = c.reasons-because.result;
      request = c.in-Ok.number;
      class = c.class.result;
      inter = c.args.inter;
    } in
    let number : c.in-Ok.number ≡ n.next = search rules in
    let reserved : IsReserved n.offers.plan a =
    rw c.plan-plan.ensures.plan at (c.reserved.ensures.reserved.0 c.if-not-reserved.false) in
    let can : CanBeAsked (node_of n) a = subst (λ (k : KeptNode). CanBeAsked (node_of k) a)
    (sym c.self.view_is) c.requires in
    let by : AreWanted (node_of n) a q.reasons q.wants = c.wants_by-wants.ensures in
    let enough = suffice_by (node_of n) a q.reasons q.wants can c.reasons-because.ensures by in
    let fit : IsFit n.offers.plan q = record {
      reserved = reserved;
      class = c.class.ensures ∙ sym own.class;
      parties = by.parties;
      explained =
          enough.explained;
    } in
    let e = record_by q c.told_by-notifies.result in
    rw (c.put.ensures, c.copy.ensures) (record {
      kept = one_more_kept n a e within refl c.class.ensures fit number c.self.invariant.kept;
      asked = asked_put c.self.inside.asked c.with_inter-self-inside.result n.pending a
          (Some e) within c.self.invariant.asked
          (λ b. c.with_inter-self-inside.ensures.has b ∙ put_on (has c.self.inside.asked) a b);
      plan = c.self.invariant.plan;
      class = c.self.invariant.class;
    })

pub returns-clause-left : goal.returns-clause-left
returns-clause-left c =
    let n : KeptNode = record {
      offers = c.self.inside.offers;
      pending = c.self.inside.records.pending;
      next = c.self.inside.next;
    } in
    let a = c.args.inter.0 in
    let own : IsOwn (node_of n) a = subst (λ (k : KeptNode). IsOwn (node_of k) a)
    (sym c.self.view_is) c.requires.own in
    let within : a < length n.pending = rw c.self.invariant.kept.each own.declared in
    let q : Request = record {
      wants = c.wants_by-wants.result;
      reasons = c.reasons-because.result;
      request = c.in-Ok.number;
      class = c.class.result;
      inter = c.args.inter;
    } in
    rw (c.put.ensures, ← c.self.view_is) (asked_node n a q
    (record_by c.copy.result c.told_by-notifies.result) within
    (same_record c.copy.result q c.told_by-notifies.result _ c.copy.ensures
    c.told_by-notifies.ensures))

pub wants_by-wants-requires-clause-sound : goal.wants_by-wants-requires-clause-sound
wants_by-wants-requires-clause-sound c =
    let n : KeptNode = record {
      offers = c.self.inside.offers;
      pending = c.self.inside.records.pending;
      next = c.self.inside.next;
    } in
    let can : CanBeAsked (node_of n) c.args.inter.0 =
    subst (λ (k : KeptNode). CanBeAsked (node_of k) c.args.inter.0)
    (sym c.self.view_is) c.requires in
    reasons_sound (observed n.offers) c.args.inter.0 c.reasons-because.result can.ready
    c.reasons-because.ensures
