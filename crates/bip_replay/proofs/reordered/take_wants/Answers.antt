use Rattle.std.proofs.Common.{◌≡◌, ◌<◌, arith, length, rules, subst}
use Rattle.std.specs.Prelude.{All, codes}
use Rattle.std.proofs.lemmas.Bool.Decides.{nat_tests}
use Rattle.bip_model.proofs.ListLemmas.{empty_is}
use Rattle.bip_model.specs.Steps.{participants_of}
use Rattle.bip_model.specs.declared.numbering.CompId.{CompId}
use Rattle.bip_model.specs.declared.parts.System.{System}
use Rattle.bip_replay.proofs.ExpectedLemmas.{looks_known, some_weaker}
use Rattle.bip_replay.proofs.ReorderedLemmas.{participants_known, takes_moved, takes_wants}
use Rattle.bip_replay.specs.Expected.{comps_of}
use Rattle.bip_replay.specs.Runs.{standing_of}
use Rattle.bip_replay.proofs.reordered.take_wants.Goals as goal

pub take_words-requires : goal.take_words-requires
take_words-requires c =
    let known = participants_known c.model-model.result.now c.args.inter.0
    c.participants-participants.ensures.valid (rw c.model-model.ensures c.requires) in
    rw (c.comps_of.ensures, c.participants-participants.ensures.participants)
    (subst (λ (m : System). All (λ (d : CompId). d.0 < length m.component_names)
    (comps_of (participants_of c.model-model.result.now c.args.inter.0))) c.model-model.ensures
    known)

pub returns-then-is_empty : goal.returns-then-is_empty
returns-then-is_empty c =
    let few = rw c.model-model.ensures at (rw c.participants-participants.ensures.participants at
    c.if-participants-looks-gt-MOST_WANTS.false) in
    let moved = rw c.model-model.ensures at (rw c.participants-participants.ensures.participants at
    (rw c.comps_of.ensures at c.in_ok-rest.ensures)) in
    takes_moved (standing_of c.args.position.now) c.args.inter.0 c.looks-looks.result.now
    c.args.text.now c.in_ok-rest.rest.now
    (rw c.model-model.ensures at c.looks-looks.ensures.looks) (omega (arith, few)) moved
    (empty_is c.looks-looks.result.now (search rules))

pub take_words-requires-2 : goal.take_words-requires-2
take_words-requires-2 c = rw c.list_of.ensures
    (rw c.model-model.ensures at (looks_known _ _ c.looks-looks.result.now
    c.looks-looks.ensures.valid c.looks-looks.ensures.looks))

pub returns : goal.returns
returns c =
    let few = rw c.model-model.ensures at (rw c.participants-participants.ensures.participants at
    c.if-participants-looks-gt-MOST_WANTS.false) in
    let moved = rw c.model-model.ensures at (rw c.participants-participants.ensures.participants at
    (rw c.comps_of.ensures at c.in_ok-rest.ensures)) in
    let some : 0 < length c.looks-looks.result.now = grind (arith, nat_tests) in
    let see : c.in_ok-see.see.now ≡ codes "see" = search rules in
    some_weaker _ _ c.take_words-2.result (λ rest looks. takes_wants
    (standing_of c.args.position.now) c.args.inter.0 c.looks-looks.result.now c.args.text.now
    c.in_ok-rest.rest.now c.in_ok-see.rest.now rest.now
    (rw c.model-model.ensures at c.looks-looks.ensures.looks) (omega (arith, few)) moved
    (search rules) (rw see at c.in_ok-see.ensures.whole) (rw c.list_of.ensures at looks) some)
    c.take_words-2.ensures
