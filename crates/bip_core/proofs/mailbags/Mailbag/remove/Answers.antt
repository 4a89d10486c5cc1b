use Rattle.std.proofs.Common.{◌≡◌, ◌+◌, ◌<◌, ◌∙◌, ap, List, length, get_or, subst, sym, arith}
use Rattle.std.specs.List.{remove}
use Rattle.std.proofs.lemmas.List.Edits.{length-remove}
use Rattle.std.proofs.lemmas.Option.{get_or_from_slice_get}
use Rattle.bip_core.specs.Mailbags.{IsPlaceIn, in_groups, of_group}
use Rattle.bip_core.specs.declared.messages.Message.{Message}
use Rattle.bip_core.proofs.PieceLemmas.{found_in, taken_in}
use Rattle.bip_core.proofs.mailbags.Mailbag.remove.Goals as goal

pub invariant_of-self : goal.invariant_of-self
invariant_of-self c =
    let groups = c.self.inside.groups.items in
    let spot = c.place_in_groups-place.result in
    let within : c.args.place < length (in_groups groups) =
    subst (λ (ms : List Message). c.args.place < length ms) (sym c.self.view_is) c.requires in
    let place : IsPlaceIn of_group groups c.args.place spot.piece spot.within =
    subst (λ (xs : List (List Message)). IsPlaceIn of_group xs c.args.place spot.piece
    spot.within) c.deref.ensures.value c.place_in_groups-place.ensures in
    let left = c.remove-message.ensures.others
    ∙ ap (λ (u : List Message). remove (of_group u) spot.within) c.index_mut.ensures.value in
    let whole : in_groups c.drop_empty_group.new.groups.items ≡ remove
    (in_groups groups) c.args.place =
    c.drop_empty_group.ensures ∙ taken_in of_group groups c.args.place spot.piece spot.within
    c.remove-message.new.self c.index_mut.result.now place left in
    let fewer : length (remove (in_groups groups) c.args.place) + 1 ≡ length (in_groups groups) =
    length-remove (in_groups groups) c.args.place within in
    let counted : c.self.inside.count ≡ length (in_groups groups) = c.self.invariant in
    rw whole (omega arith)

pub returns-clause-message : goal.returns-clause-message
returns-clause-message c =
    let groups = c.self.inside.groups.items in
    let spot = c.place_in_groups-place.result in
    let group = c.index_mut.result.now in
    let message = c.remove-message.result in
    let within : c.args.place < length (in_groups groups) =
    subst (λ (ms : List Message). c.args.place < length ms) (sym c.self.view_is) c.requires in
    let place : IsPlaceIn of_group groups c.args.place spot.piece spot.within =
    subst (λ (xs : List (List Message)). IsPlaceIn of_group xs c.args.place spot.piece
    spot.within) c.deref.ensures.value c.place_in_groups-place.ensures in
    let read : message ≡ get_or (of_group (get_or groups spot.piece group)) spot.within message =
    subst (λ (u : List Message). message ≡ get_or (of_group u) spot.within message)
    c.index_mut.ensures.value (sym (get_or_from_slice_get group spot.within message message
    c.remove-message.ensures.message)) in
    rw (← c.self.view_is) (found_in of_group groups c.args.place spot.piece spot.within group
    message within place read)

pub returns-clause-others : goal.returns-clause-others
returns-clause-others c =
    let groups = c.self.inside.groups.items in
    let spot = c.place_in_groups-place.result in
    let place : IsPlaceIn of_group groups c.args.place spot.piece spot.within =
    subst (λ (xs : List (List Message)). IsPlaceIn of_group xs c.args.place spot.piece
    spot.within) c.deref.ensures.value c.place_in_groups-place.ensures in
    let left = c.remove-message.ensures.others
    ∙ ap (λ (u : List Message). remove (of_group u) spot.within) c.index_mut.ensures.value in
    let whole : in_groups c.drop_empty_group.new.groups.items ≡ remove
    (in_groups groups) c.args.place =
    c.drop_empty_group.ensures ∙ taken_in of_group groups c.args.place spot.piece spot.within
    c.remove-message.new.self c.index_mut.result.now place left in
    rw (← c.self.view_is) whole
