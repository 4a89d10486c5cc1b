use Rattle.std.proofs.Common.{◌≡◌, ◌<◌, List, length, get_or, subst, sym}
use Rattle.std.proofs.lemmas.Option.{get_or_from_slice_get}
use Rattle.bip_core.specs.Mailbags.{IsPlaceIn, in_groups, of_group}
use Rattle.bip_core.specs.declared.messages.Message.{Message}
use Rattle.bip_core.proofs.PieceLemmas.{found_in}
use Rattle.bip_core.proofs.mailbags.Mailbag.get.Goals as goal

pub returns : goal.returns
returns c =
    let groups = c.self.inside.groups.items in
    let spot = c.place_in_groups-place.result in
    let group = c.index.result.now in
    let message = c.get.result.now in
    let within : c.args.place < length (in_groups groups) =
    subst (λ (ms : List Message). c.args.place < length ms) (sym c.self.view_is) c.requires in
    let place : IsPlaceIn of_group groups c.args.place spot.piece spot.within =
    subst (λ (xs : List (List Message)). IsPlaceIn of_group xs c.args.place spot.piece
    spot.within) c.deref.ensures.value c.place_in_groups-place.ensures in
    let read : message ≡ get_or (of_group (get_or groups spot.piece group)) spot.within message =
    subst (λ (u : List Message). message ≡ get_or (of_group u) spot.within message)
    c.index.ensures (sym (get_or_from_slice_get group spot.within message message
    c.get.ensures)) in
    rw (← c.self.view_is) (found_in of_group groups c.args.place spot.piece spot.within group
    message within place read)
