use Rattle.std.proofs.Common.{◌≡◌, ◌+◌, ◌-◌, ◌<◌, ◌≤◌, ◌∙◌, List, suc, length, get_or, sym, subst}
use Rattle.std.proofs.Common.{arith, rules}
use Rattle.std.specs.Global.{Vec}
use Rattle.std.specs.Vec.{vec_capacity, vec_len}
use Rattle.std.proofs.lemmas.List.{get_or_read}
use Rattle.std.proofs.lemmas.List.Edits.{get_or-remove_below}
use Rattle.bip_core.specs.declared.messages.Message.{Message}
use Rattle.bip_core.proofs.PieceLemmas.{all_moved, joined_chunks}
use Rattle.bip_core.proofs.mailbags.join_with_previous.Goals as goal

pub returns : goal.returns
returns c =
    let chunks = c.args.chunks.now.items in
    let piece = c.args.piece in
    let previous = piece - 1 in
    let old = c.index-chunk.result.now in
    let joined = c.index_mut.result.now in
    let moved = c.remove-moved.result in
    let within : piece < length chunks = search rules in
    let next : piece ≡ suc previous = omega arith in
    let here : joined ≡ get_or chunks previous joined =
    subst (λ (xs : List (Vec Message)). joined ≡ get_or xs previous joined)
    c.remove-moved.ensures.items c.index_mut.ensures.value
    ∙ get_or-remove_below chunks piece joined previous (omega arith) within in
    let same : joined ≡ old = get_or_read chunks previous joined (omega arith) here old
    ∙ sym c.index-chunk.ensures in
    let same_moved : moved ≡ c.index.result.now =
    get_or_read chunks piece moved within c.remove-moved.ensures.value c.index.result.now
    ∙ sym c.index.ensures in
    let room : vec_len old + vec_len c.index.result.now ≤ vec_capacity old = omega arith in
    let room_left : vec_len joined + vec_len moved ≤ vec_capacity joined =
    rw (same, same_moved) room in
    let all = all_moved c.append-room.result joined.items moved.items c.append-room.new.self.items
    (c.append-room.ensures.succeeds room_left) c.append-room.ensures.items in
    rw c.remove-moved.ensures.items (joined_chunks chunks previous piece joined moved
    c.append-room.new.self within next here c.remove-moved.ensures.value all)
