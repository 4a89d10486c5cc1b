use Rattle.std.proofs.Common.{◌≡◌, ◌∷◌, ◌+◌, length, add-one, rules, subst, sym}
use Rattle.std.proofs.lemmas.Option.{get_or_from_slice_get, slice_get-get_or}
use Rattle.std.specs.Prelude.{All, Some, slice_get}
use Rattle.bip_host.specs.Ends.{AreIntakesOf}
use Rattle.bip_host.specs.Mailboxes.{AreEndsOf, AreWritersAt}
use Rattle.bip_host.specs.Posting.{IsWriterOf}
use Rattle.bip_host.proofs.MailboxLemmas.{ends_next}
use Rattle.bip_host.proofs.PlaceLemmas.{at_push}
use Rattle.bip_host.proofs.joining.join_all.Goals as goal

pub loop-loose-preserved : goal.loop-loose-preserved
loop-loose-preserved g c =
    let inboxes = c.args.inboxes.now in
    let place = c.loop-loose.place in
    let kept = c.loop-loose.invariant in
    let is : c.loop-loose.loose-iterator.rest.items
    ≡ c.in-Some.loose ∷ c.next.new.self.rest.items = search rules in
    let next = ends_next inboxes place c.in-Some.loose c.next.new.self.rest.items (rw is at kept.0)
    in
    let there = slice_get-get_or inboxes place c.index-inboxes-place.result next.0 in
    let one : slice_get inboxes place ≡ Some c.of.result.inbox.now = search rules in
    let first : place + 1 ≡ length c.push.new.self.items = search rules in
    let second : place + 1 ≡ length c.push-in-loop-loose.new.self.items = search rules in (
      rw (add-one place) next.2,
      first,
      second,
      subst (AreIntakesOf inboxes) (sym c.in_ok-push.ensures.items)
          (at_push (λ k t. slice_get inboxes k ≡ Some t.inbox.now) c.loop-loose.intakes.items
          c.of.result kept.3
          (subst (λ k. slice_get inboxes k ≡ Some c.of.result.inbox.now) kept.1 one)),
      subst (AreWritersAt (λ ws. ws.items) inboxes) (sym c.in_ok-push-2.ensures.items)
          (at_push (λ k ws. (i : _) → slice_get inboxes k ≡ Some i → All (IsWriterOf i) ws.items)
          c.loop-loose.all.items c.in-Some.loose.writers kept.4
          (λ i at. (subst (λ j. AreEndsOf j c.in-Some.loose)
          (get_or_from_slice_get inboxes place i i
          (subst (λ k. slice_get inboxes k ≡ Some i) (sym kept.2) at))
          (next.1 i)).0)),
    )
