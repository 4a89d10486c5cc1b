use Rattle.std.proofs.Common.{◌≡◌, ◌+◌, ◌-◌, ◌<◌, ◌∙◌, ◌++◌, ◌∷◌, [], ap, List, length, sym, arith}
use Rattle.std.proofs.Common.{rules}
use Rattle.std.specs.Global.{Vec}
use Rattle.std.proofs.lemmas.List.{length-append}
use Rattle.bip_core.specs.Mailbags.{in_chunks, of_chunk}
use Rattle.bip_core.specs.declared.messages.Message.{Message}
use Rattle.bip_core.proofs.PieceLemmas.{on_err, put_in, same_in}
use Rattle.bip_core.proofs.mailbags.Group.push.Goals as goal

pub invariant_of-self-in_err-push : goal.invariant_of-self-in_err-push
invariant_of-self-in_err-push c =
    let chunks = c.ready_last_chunk.new.chunks.items in
    let last = c.len-last.result - 1 in
    let within : last < length chunks = search rules in
    let same = c.in_err-push.ensures.items ∙ ap (λ (u : Vec Message). of_chunk u)
    c.index_mut.ensures.value in
    let kept = same_in of_chunk chunks last c.push.new.self c.index_mut.result.now within same in
    c.self.invariant ∙ ap (λ (ms : List Message). length ms)
    (sym (kept ∙ c.ready_last_chunk.ensures.same))

pub returns-in_err-push-clause-err : goal.returns-in_err-push-clause-err
returns-in_err-push-clause-err c =
    let chunks = c.ready_last_chunk.new.chunks.items in
    let last = c.len-last.result - 1 in
    let within : last < length chunks = search rules in
    let same = c.in_err-push.ensures.items ∙ ap (λ (u : Vec Message). of_chunk u)
    c.index_mut.ensures.value in
    let kept = same_in of_chunk chunks last c.push.new.self c.index_mut.result.now within same in
    on_err c.from_residual.result (kept ∙ c.ready_last_chunk.ensures.same ∙ c.self.view_is)

pub invariant_of-self-2 : goal.invariant_of-self-2
invariant_of-self-2 c =
    let chunks = c.ready_last_chunk.new.chunks.items in
    let last = c.len-last.result - 1 in
    let is_last : last + 1 ≡ length chunks = search rules in
    let more = c.in_ok-push.ensures.items ∙ ap (λ (u : Vec Message). of_chunk u ++ c.args.message
    ∷ []) c.index_mut.ensures.value in
    let whole = put_in of_chunk chunks last c.push.new.self c.index_mut.result.now c.args.message
    is_last more ∙ ap (λ (ms : List Message). ms ++ c.args.message ∷ [])
    c.ready_last_chunk.ensures.same in
    let counted : c.self.inside.count ≡ length (in_chunks c.self.inside.chunks.items) =
    c.self.invariant in
    rw whole (omega (
      arith,
      length-append (in_chunks c.self.inside.chunks.items) (c.args.message
          ∷ []),
    ))

pub returns-clause-ok : goal.returns-clause-ok
returns-clause-ok c =
    let chunks = c.ready_last_chunk.new.chunks.items in
    let last = c.len-last.result - 1 in
    let is_last : last + 1 ≡ length chunks = search rules in
    let more = c.in_ok-push.ensures.items ∙ ap (λ (u : Vec Message). of_chunk u ++ c.args.message
    ∷ []) c.index_mut.ensures.value in
    put_in of_chunk chunks last c.push.new.self c.index_mut.result.now c.args.message is_last more
    ∙ ap (λ (ms : List Message). ms ++ c.args.message ∷ [])
    (c.ready_last_chunk.ensures.same ∙ c.self.view_is)
