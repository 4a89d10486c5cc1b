use Rattle.std.proofs.Common.{◌<◌, ℕ, ap, arith, length, subst, sym}
use Rattle.std.proofs.lemmas.Bool.Decides.{nat_tests}
use Rattle.bip_model.specs.declared.parts.System.{System}
use Rattle.bip_replay.specs.Runs.{standing_after, standing_of}
use Rattle.bip_walk.proofs.RenewLemmas.{chosen_drawable, renewed_behind}
use Rattle.bip_walk.proofs.WalkingLemmas.{can_at, drawn_at, takes_on}
use Rattle.bip_walk.specs.Walking.{IsGrantDrawn}
use Rattle.bip_walk.proofs.walking.go_on.Goals as goal

pub grant_of-grant-requires-clause-can : goal.grant_of-grant-requires-clause-can
grant_of-grant-requires-clause-can c =
    let book = c.args.book.now in
    let s = standing_after book.model book.base book.grants in
    let list = c.drawable-list.result.items in
    let some : 0 < length list =
    grind (arith, nat_tests, c.is_empty.ensures, c.if-is_empty.false) in
    let are = chosen_drawable s c.args.choices.now _ list
    (ap (λ (m : System). length m.interactions) (sym c.requires.model)) c.requires.choices
    c.drawable-list.ensures in
    rw (c.as_slice.ensures.value, c.len.ensures.value, c.position.ensures.there)
    (can_at s list c.next_word-word.result (record { 0 = 0 }) are some)

pub push-requires : goal.push-requires
push-requires c =
    let book = c.args.book.now in
    let s = standing_after book.model book.base book.grants in
    let list = c.drawable-list.result.items in
    let some : 0 < length list =
    grind (arith, nat_tests, c.is_empty.ensures, c.if-is_empty.false) in
    let are = chosen_drawable s c.args.choices.now _ list
    (ap (λ (m : System). length m.interactions) (sym c.requires.model)) c.requires.choices
    c.drawable-list.ensures in
    takes_on book (standing_of c.position.result.now) _ c.grant_of-grant.result c.position.ensures
    (rw c.position.ensures.there
    (can_at s list c.next_word-word.result (record { 0 = 0 }) are some))
    (rw (c.as_slice.ensures.value, c.len.ensures.value) at c.grant_of-grant.ensures)

pub returns-clause-walks : goal.returns-clause-walks
returns-clause-walks c =
    let book = c.args.book.now in
    let s = standing_after book.model book.base book.grants in
    let list = c.drawable-list.result.items in
    let grant = c.grant_of-grant.result in
    let some : 0 < length list =
    grind (arith, nat_tests, c.is_empty.ensures, c.if-is_empty.false) in
    let are = chosen_drawable s c.args.choices.now _ list
    (ap (λ (m : System). length m.interactions) (sym c.requires.model)) c.requires.choices
    c.drawable-list.ensures in
    let drawn = drawn_at s list c.next_word-word.result (record { 0 = 0 }) are some grant
    (rw (c.as_slice.ensures.value, c.len.ensures.value, c.position.ensures.there)
    at c.grant_of-grant.ensures) in (
      grant,
      subst (λ (n : ℕ). IsGrantDrawn s n grant) (ap (λ p. p.0) c.next_word-word.ensures) drawn,
      c.in_ok-push.ensures.ok,
      ap (λ p. p.1) c.next_word-word.ensures,
    )

pub returns-clause-choices : goal.returns-clause-choices
returns-clause-choices c =
    renewed_behind c.args.book.now c.push.new.self c.args.plan.now.model c.grant_of-grant.result _
    c.args.choices.now c.renew.new.choices (standing_of c.position-2.result.now) c.requires.model
    c.requires.choices (rw c.position.ensures.there at c.grant_of-grant.ensures.expected)
    c.in_ok-push.ensures.ok c.position-2.ensures.there c.renew.ensures
