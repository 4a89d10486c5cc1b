use Rattle.std.proofs.Common.{◌≡◌, ◌+◌, ◌-◌, ◌∙◌, ◌++◌, ◌∷◌, [], ap, List, length, arith, rules}
use Rattle.std.proofs.lemmas.List.{length-append}
use Rattle.bip_core.specs.Mailbags.{in_groups, of_group}
use Rattle.bip_core.specs.declared.messages.Message.{Message}
use Rattle.bip_core.proofs.PieceLemmas.{put_in}
use Rattle.bip_core.proofs.mailbags.Mailbag.push.Goals as goal

pub invariant_of-self-2 : goal.invariant_of-self-2
invariant_of-self-2 c =
    let groups = c.ready_last_group.new.groups.items in
    let last = c.len-last.result - 1 in
    let is_last : last + 1 ≡ length groups = search rules in
    let more = c.in_ok-push.ensures.ok ∙ ap (λ (u : List Message). u ++ c.args.message ∷ [])
    c.index_mut.ensures.value in
    let whole = put_in of_group groups last c.push.new.self c.index_mut.result.now c.args.message
    is_last more ∙ ap (λ (ms : List Message). ms ++ c.args.message ∷ [])
    c.ready_last_group.ensures.same in
    let counted : c.self.inside.count ≡ length (in_groups c.self.inside.groups.items) =
    c.self.invariant in
    rw whole (omega (
      arith,
      length-append (in_groups c.self.inside.groups.items) (c.args.message
          ∷ []),
    ))

pub returns-clause-ok : goal.returns-clause-ok
returns-clause-ok c =
    let groups = c.ready_last_group.new.groups.items in
    let last = c.len-last.result - 1 in
    let is_last : last + 1 ≡ length groups = search rules in
    let more = c.in_ok-push.ensures.ok ∙ ap (λ (u : List Message). u ++ c.args.message ∷ [])
    c.index_mut.ensures.value in
    put_in of_group groups last c.push.new.self c.index_mut.result.now c.args.message is_last more
    ∙ ap (λ (ms : List Message). ms ++ c.args.message ∷ [])
    (c.ready_last_group.ensures.same ∙ c.self.view_is)
