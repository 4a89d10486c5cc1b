use Rattle.std.proofs.Common.{◌≡◌, ◌∙◌, ◌++◌, ◌∷◌, [], sym, subst, refl, ap}
use Rattle.std.proofs.lemmas.List.Elements.{All-set}
use Rattle.std.specs.Prelude.{Some, slice_get}
use Rattle.bip_host.specs.Addressed.{puts_of}
use Rattle.bip_host.specs.Posting.{put_by}
use Rattle.bip_host.proofs.AddressedLemmas.{at_all, map_set, none_of, read_at, some_of, there}
use Rattle.bip_host.proofs.addressed.Addressed.send.Goals as goal

pub returns-in-Some-clause-sent : goal.returns-in-Some-clause-sent
returns-in-Some-clause-sent g c =
    let at = there _ c.in-Some.ensures.some in
    let read = c.index_mut.ensures.value ∙ read_at c.args.self.now.outlets.items c.in-Some.place
    at.0
    c.index_mut.result.now at.1 in
    none_of _ c.send.result c.send.ensures.put
    (λ put. (
      c.in-Some.place,
      (
        at.0,
        record { number = c.index_mut.result.now.number; outlet = c.send.new.self },
        at.1,
        at.2,
        ap (λ l. (c.index_mut.result.now.number, l)) put
            ∙ (ap (λ o. (o.number, put_by o.outlet.writer ++ c.args.message ∷ [])) read
            ∙ ap (λ n. (n, put_by at.0.outlet.writer ++ c.args.message ∷ [])) at.2),
        refl,
      ),
    ))

pub returns-in-Some-clause-back : goal.returns-in-Some-clause-back
returns-in-Some-clause-back g c =
    let at = there _ c.in-Some.ensures.some in
    let read = c.index_mut.ensures.value ∙ read_at c.args.self.now.outlets.items c.in-Some.place
    at.0
    c.index_mut.result.now at.1 in
    some_of _ c.send.result c.send.ensures.put
    (λ back put. (
      put.0,
      map_set puts_of c.args.self.now.outlets.items c.in-Some.place at.0
          record { number = c.index_mut.result.now.number; outlet = c.send.new.self } at.1
          (ap (λ l. (c.index_mut.result.now.number, l)) put.1 ∙ ap puts_of read),
    ))

pub invariant_of-self : goal.invariant_of-self
invariant_of-self g c =
    let at = there _ c.in-Some.ensures.some in
    let read = c.index_mut.ensures.value ∙ read_at c.args.self.now.outlets.items c.in-Some.place
    at.0
    c.index_mut.result.now at.1 in
    let inboxes = c.args.self.now.inboxes.now in
    let kept = at_all (λ o. slice_get inboxes o.number ≡ Some o.outlet.inbox.now)
    c.args.self.now.outlets.items c.args.self.now.own c.in-Some.place at.0 at.1 in
    let same = ap (λ o. o.outlet.inbox.now) read in
    record {
      own = All-set (λ o. slice_get inboxes o.number ≡ Some o.outlet.inbox.now)
          c.args.self.now.outlets.items c.in-Some.place
          (record { number = c.index_mut.result.now.number; outlet = c.send.new.self })
          (subst (λ i. slice_get inboxes c.index_mut.result.now.number ≡ Some i)
          (sym (c.send.ensures.inbox ∙ same))
          (subst (λ n. slice_get inboxes n ≡ Some at.0.outlet.inbox.now)
          (sym (ap (λ o. o.number) read)) kept))
          c.args.self.now.own;
    }
