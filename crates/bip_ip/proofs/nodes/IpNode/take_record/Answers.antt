use Rattle.std.proofs.Common.{◌≡◌, ◌∙◌, None, Some, ap, get_or, sym}
use Rattle.std.specs.Option.{option_map}
use Rattle.bip_ip.proofs.NodeLemmas.{asked_put, its_own, on_some, one_less_kept, record_its}
use Rattle.bip_ip.proofs.NodeLemmas.{record_within, taken_node}
use Rattle.bip_ip.specs.Nodes.{KeptNode}
use Rattle.bip_ip.proofs.nodes.IpNode.take_record.Goals as goal

pub take-requires-clause-declared : goal.take-requires-clause-declared
take-requires-clause-declared c =
    let n : KeptNode = record {
      offers = c.self.inside.offers;
      pending = c.self.inside.records.pending;
      next = c.self.inside.next;
    } in
    let a = c.inter_in-inter.result.0 in
    let there : get_or n.pending a None ≡ Some c.in-Some.record.now =
    ap (λ (k : KeptNode). get_or k.pending a None) c.self.view_is
    ∙ (sym c.record.ensures ∙ ap (option_map (λ e. e.now)) c.in-Some.is) in
    rw c.self.invariant.plan (its_own n a c.in-Some.record.now c.self.invariant.kept there).declared

pub take-requires-clause-own : goal.take-requires-clause-own
take-requires-clause-own c =
    let n : KeptNode = record {
      offers = c.self.inside.offers;
      pending = c.self.inside.records.pending;
      next = c.self.inside.next;
    } in
    let a = c.inter_in-inter.result.0 in
    let there : get_or n.pending a None ≡ Some c.in-Some.record.now =
    ap (λ (k : KeptNode). get_or k.pending a None) c.self.view_is
    ∙ (sym c.record.ensures ∙ ap (option_map (λ e. e.now)) c.in-Some.is) in
    rw (c.self.invariant.plan, c.self.invariant.class)
    (its_own n a c.in-Some.record.now c.self.invariant.kept there).class

pub invariant_of-self : goal.invariant_of-self
invariant_of-self c =
    let n : KeptNode = record {
      offers = c.self.inside.offers;
      pending = c.self.inside.records.pending;
      next = c.self.inside.next;
    } in
    let a = c.inter_in-inter.result.0 in
    let there : get_or n.pending a None ≡ Some c.in-Some.record.now =
    ap (λ (k : KeptNode). get_or k.pending a None) c.self.view_is
    ∙ (sym c.record.ensures ∙ ap (option_map (λ e. e.now)) c.in-Some.is) in
    let within = record_within n.pending a c.in-Some.record.now there in
    rw c.take.ensures.left (record {
      kept = one_less_kept n a within c.self.invariant.kept;
      asked = asked_put c.self.inside.asked c.without_inter-self-inside.result n.pending a None
          within c.self.invariant.asked c.without_inter-self-inside.ensures.has;
      plan = c.self.invariant.plan;
      class = c.self.invariant.class;
    })

pub returns-clause-its : goal.returns-clause-its
returns-clause-its c =
    let n : KeptNode = record {
      offers = c.self.inside.offers;
      pending = c.self.inside.records.pending;
      next = c.self.inside.next;
    } in
    rw (← c.inter_in-inter.ensures, ← c.self.view_is)
    (record_its n c.inter_in-inter.result.0 c.take.result c.self.invariant.kept
    (sym c.take.ensures.taken))

pub returns-clause-taken : goal.returns-clause-taken
returns-clause-taken c =
    let n : KeptNode = record {
      offers = c.self.inside.offers;
      pending = c.self.inside.records.pending;
      next = c.self.inside.next;
    } in
    let a = c.inter_in-inter.result.0 in
    let there : get_or n.pending a None ≡ Some c.in-Some.record.now =
    ap (λ (k : KeptNode). get_or k.pending a None) c.self.view_is
    ∙ (sym c.record.ensures ∙ ap (option_map (λ e. e.now)) c.in-Some.is) in
    on_some c.take.result _ (rw (c.take.ensures.left, ← c.inter_in-inter.ensures, ← c.self.view_is)
    (taken_node n a (record_within n.pending a c.in-Some.record.now there)))
