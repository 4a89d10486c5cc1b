use Rattle.std.proofs.Common.{List, Ok, arith, rules, refl, ap, sym, ◌∙◌}
use Rattle.bip_model.specs.Parts.{Participant}
use Rattle.smallvec.proofs.SmallVecLemmas.{items-with_items}
use Rattle.std.proofs.lemmas.List.Sorted.{IsNonDecreasingBy-from_sort_by_key, length_permutation}
use Rattle.bip_model.proofs.ParticipantLemmas.{component_of, few_participants, named_more}
use Rattle.bip_model.proofs.ParticipantLemmas.{named_twice, none_valid, participants_named-end}
use Rattle.bip_model.proofs.ParticipantLemmas.{sorted_by_component}
use Rattle.bip_model.proofs.parts.System.participants.Goals as goal

pub push_reserved-requires : goal.push_reserved-requires
push_reserved-requires c =
    let more = named_more c.args.self.now c.loop-word.found.items c.loop-word.word-iterator
    c.next.new.self c.in-Some.word c.in_ok-participant.participant c.in-Some.ensures.steps
    (sym c.participant.ensures ∙ c.in_ok-participant.was)
    (rw (← c.as_slice.ensures) (sym c.takes_part.ensures ∙ c.if-takes_part.false))
    c.loop-word.invariant.1 in
    omega (arith, more.2)

pub loop-word-preserved : goal.loop-word-preserved
loop-word-preserved c =
    let more = named_more c.args.self.now c.loop-word.found.items c.loop-word.word-iterator
    c.next.new.self c.in-Some.word c.in_ok-participant.participant c.in-Some.ensures.steps
    (sym c.participant.ensures ∙ c.in_ok-participant.was)
    (rw (← c.as_slice.ensures) (sym c.takes_part.ensures ∙ c.if-takes_part.false))
    c.loop-word.invariant.1 in
    rw c.push_reserved.ensures.items (
      sym more.0 ∙ c.loop-word.invariant.0,
      more.1,
      c.push_reserved.ensures.capacity ∙ c.loop-word.invariant.2,
    )

pub loop-word-init : goal.loop-word-init
loop-word-init c = rw (c.into_iter-word-iterator.ensures.into_iter_gives, c.new-found.ensures.items)
    (refl, none_valid c.args.self.now.components, c.new-found.ensures.capacity)

pub returns-then-takes_part-clause-named : goal.returns-then-takes_part-clause-named
returns-then-takes_part-clause-named c =
    sym (named_twice c.args.self.now c.loop-word.found.items c.loop-word.word-iterator
    c.next.new.self c.in-Some.word c.in_ok-participant.participant c.in-Some.ensures.steps
    (sym c.participant.ensures ∙ c.in_ok-participant.was)
    (rw (← c.as_slice.ensures) (sym c.takes_part.ensures ∙ c.if-takes_part.true)))
    ∙ c.loop-word.invariant.0

pub returns-clause-named : goal.returns-clause-named
returns-clause-named c =
    let found : List Participant = c.loop-word.found.items in
    let new : List Participant = c.sort_unstable_by_key.new.self in
    let back = items-with_items c.loop-word.found new (search rules) in
    let up = IsNonDecreasingBy-from_sort_by_key component_of new
    c.sort_unstable_by_key.ensures.sorted (λ a r q k. search rules) in
    let sorted = sorted_by_component found new c.loop-word.invariant.1.apart
    (rw c.deref_mut.ensures.value at c.sort_unstable_by_key.ensures.permutation) up in
    rw back (ap Ok (sym sorted) ∙ participants_named-end c.args.self.now found
    c.loop-word.word-iterator c.in-None.ensures.steps.0 ∙ c.loop-word.invariant.0)

pub returns-clause-few : goal.returns-clause-few
returns-clause-few c =
    let found : List Participant = c.loop-word.found.items in
    let new : List Participant = c.sort_unstable_by_key.new.self in
    let back = items-with_items c.loop-word.found new (search rules) in
    let same = length_permutation found new (rw c.deref_mut.ensures.value at
    c.sort_unstable_by_key.ensures.permutation) in
    rw back (omega (
      arith,
      same,
      few_participants c.args.self.now.components found c.loop-word.invariant.1,
      c.requires.enough_names,
      c.requires.few_components,
    ))
