use Rattle.std.proofs.Common.{◌≡◌, ◌<◌, ◌∙◌, get_or, length, arith}
use Rattle.std.proofs.lemmas.Bool.Decides.{nat_tests}
use Rattle.bip_model.specs.Places.{index_of}
use Rattle.bip_model.proofs.PlaceLemmas.{no_port, not_placed, placed}
use Rattle.bip_model.proofs.parts.Component.transition_for.Goals as goal

pub returns-then-len-port : goal.returns-then-len-port
returns-then-len-port c = no_port c.args.self.now c.args.location c.args.port c.requires.component
    (rw c.len.ensures at c.if-len-port.true)

pub returns-in_err-place : goal.returns-in_err-place
returns-in_err-place c =
    rw c.from_residual.ensures (not_placed c.args.self.now c.args.places.now c.args.location
    c.args.port c.requires.component c.requires.places (rw c.len.ensures at c.if-len-port.false)
    (grind (arith, nat_tests, c.index_of.ensures, c.in_err-place.ensures.lookup.0)))

pub returns : goal.returns
returns c =
    let at : c.in_ok-place.place.now ≡ get_or c.args.places.now
    (index_of c.args.self.now c.args.location c.args.port) 0 =
    rw (← c.index_of.ensures) (c.in_ok-place.ensures.lookup.3.1 0) in
    let within : index_of c.args.self.now c.args.location c.args.port < length c.args.places.now =
    rw (← c.index_of.ensures) c.in_ok-place.ensures.lookup.3.0 in
    c.transition_at.ensures ∙ rw at (placed c.args.self.now c.args.places.now c.args.location
    c.args.port c.requires.places (rw c.len.ensures at c.if-len-port.false) within)
