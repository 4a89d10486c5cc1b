use Rattle.std.proofs.Common.{◌≡◌, ◌<◌, List, length, get_or, subst, sym}
use Rattle.std.specs.Global.{Vec}
use Rattle.bip_core.specs.Mailbags.{IsPlaceIn, in_chunks, of_chunk}
use Rattle.bip_core.specs.declared.messages.Message.{Message}
use Rattle.bip_core.proofs.PieceLemmas.{found_in}
use Rattle.bip_core.proofs.mailbags.Group.get.Goals as goal

pub returns : goal.returns
returns c =
    let chunks = c.self.inside.chunks.items in
    let spot = c.place_in_chunks-place.result in
    let chunk = c.index.result.now in
    let message = c.index-2.result.now in
    let within : c.args.place < length (in_chunks chunks) =
    subst (λ (ms : List Message). c.args.place < length ms) (sym c.self.view_is) c.requires in
    let place : IsPlaceIn of_chunk chunks c.args.place spot.piece spot.within =
    subst (λ (xs : List (Vec Message)). IsPlaceIn of_chunk xs c.args.place spot.piece
    spot.within) c.deref.ensures.value c.place_in_chunks-place.ensures in
    let read : message ≡ get_or (of_chunk (get_or chunks spot.piece chunk)) spot.within message =
    subst (λ (u : Vec Message). message ≡ get_or (of_chunk u) spot.within message)
    c.index.ensures c.index-2.ensures in
    rw (← c.self.view_is) (found_in of_chunk chunks c.args.place spot.piece spot.within chunk
    message within place read)
