use Rattle.std.proofs.Common.{◌≡◌, ◌+◌, ◌<◌, ◌∙◌, ap, List, length, get_or, subst, sym, arith}
use Rattle.std.specs.Global.{Vec}
use Rattle.std.specs.List.{remove}
use Rattle.std.proofs.lemmas.List.Edits.{length-remove}
use Rattle.bip_core.specs.Mailbags.{IsPlaceIn, in_chunks, of_chunk}
use Rattle.bip_core.specs.declared.messages.Message.{Message}
use Rattle.bip_core.proofs.PieceLemmas.{found_in, taken_in}
use Rattle.bip_core.proofs.mailbags.Group.remove.Goals as goal

pub invariant_of-self : goal.invariant_of-self
invariant_of-self c =
    let chunks = c.self.inside.chunks.items in
    let spot = c.place_in_chunks-place.result in
    let within : c.args.place < length (in_chunks chunks) =
    subst (λ (ms : List Message). c.args.place < length ms) (sym c.self.view_is) c.requires in
    let place : IsPlaceIn of_chunk chunks c.args.place spot.piece spot.within =
    subst (λ (xs : List (Vec Message)). IsPlaceIn of_chunk xs c.args.place spot.piece
    spot.within) c.deref.ensures.value c.place_in_chunks-place.ensures in
    let left = c.remove-message.ensures.items
    ∙ ap (λ (u : Vec Message). remove (of_chunk u) spot.within) c.index_mut.ensures.value in
    let whole : in_chunks c.join_with_previous-2.new.chunks.items ≡ remove
    (in_chunks chunks) c.args.place =
    c.join_with_previous-2.ensures ∙ c.join_with_previous.ensures
    ∙ taken_in of_chunk chunks c.args.place spot.piece spot.within c.remove-message.new.self
    c.index_mut.result.now place left in
    let fewer : length (remove (in_chunks chunks) c.args.place) + 1 ≡ length (in_chunks chunks) =
    length-remove (in_chunks chunks) c.args.place within in
    let counted : c.self.inside.count ≡ length (in_chunks chunks) = c.self.invariant in
    rw whole (omega arith)

pub returns-clause-message : goal.returns-clause-message
returns-clause-message c =
    let chunks = c.self.inside.chunks.items in
    let spot = c.place_in_chunks-place.result in
    let chunk = c.index_mut.result.now in
    let message = c.remove-message.result in
    let within : c.args.place < length (in_chunks chunks) =
    subst (λ (ms : List Message). c.args.place < length ms) (sym c.self.view_is) c.requires in
    let place : IsPlaceIn of_chunk chunks c.args.place spot.piece spot.within =
    subst (λ (xs : List (Vec Message)). IsPlaceIn of_chunk xs c.args.place spot.piece
    spot.within) c.deref.ensures.value c.place_in_chunks-place.ensures in
    let read : message ≡ get_or (of_chunk (get_or chunks spot.piece chunk)) spot.within message =
    subst (λ (u : Vec Message). message ≡ get_or (of_chunk u) spot.within message)
    c.index_mut.ensures.value c.remove-message.ensures.value in
    rw (← c.self.view_is) (found_in of_chunk chunks c.args.place spot.piece spot.within chunk
    message within place read)

pub returns-clause-others : goal.returns-clause-others
returns-clause-others c =
    let chunks = c.self.inside.chunks.items in
    let spot = c.place_in_chunks-place.result in
    let place : IsPlaceIn of_chunk chunks c.args.place spot.piece spot.within =
    subst (λ (xs : List (Vec Message)). IsPlaceIn of_chunk xs c.args.place spot.piece
    spot.within) c.deref.ensures.value c.place_in_chunks-place.ensures in
    let left = c.remove-message.ensures.items
    ∙ ap (λ (u : Vec Message). remove (of_chunk u) spot.within) c.index_mut.ensures.value in
    let whole : in_chunks c.join_with_previous-2.new.chunks.items ≡ remove
    (in_chunks chunks) c.args.place =
    c.join_with_previous-2.ensures ∙ c.join_with_previous.ensures
    ∙ taken_in of_chunk chunks c.args.place spot.piece spot.within c.remove-message.new.self
    c.index_mut.result.now place left in
    rw (← c.self.view_is) whole
