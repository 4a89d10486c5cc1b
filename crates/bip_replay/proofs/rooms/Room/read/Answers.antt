use Rattle.std.proofs.Common.{◌≡◌, Ok, Some, position, rules, sym}
use Rattle.bip_model.specs.Naming.{same_text}
use Rattle.bip_replay.specs.Lines.{NamedGrant, named_on}
use Rattle.bip_replay.proofs.GrantLemmas.{named_fit, wants_valid}
use Rattle.bip_replay.proofs.rooms.Room.read.Goals as goal

pub look_up-requires-clause-apart : goal.look_up-requires-clause-apart
look_up-requires-clause-apart c =
    let h : NamedGrant = record { inter = c.in-Some.name; wants = c.read_line.new.named.items } in
    let named : named_on c.args.line.now ≡ Ok (Some h) =
    sym (rw c.in-Some.is at c.in_ok-name.ensures.said) in
    rw c.as_slice.ensures.value (named_fit c.args.line.now h named).apart

pub new-requires : goal.new-requires
new-requires c =
    let h : NamedGrant = record { inter = c.in-Some.name; wants = c.read_line.new.named.items } in
    let named : named_on c.args.line.now ≡ Ok (Some h) =
    sym (rw c.in-Some.is at c.in_ok-name.ensures.said) in
    let place : position (same_text c.in-Some.name) c.args.model.now.interaction_names
    ≡ Some c.in-Some-interaction.inter.0 = search rules in
    rw c.as_slice-2.ensures.value
    (wants_valid c.args.model.now c.args.line.now h c.in-Some-interaction.inter.0
    c.look_up.new.wants.items named place
    (rw c.as_slice.ensures.value at c.if-not-look_up.ensures.known))
