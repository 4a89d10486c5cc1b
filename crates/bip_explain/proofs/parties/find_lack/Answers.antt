use Rattle.std.proofs.Common.{ap, length, sym, ◌∙◌, subst, List}
use Rattle.std.specs.List.{list_any}
use Rattle.bip_model.specs.Parties.{has_want_of}
use Rattle.bip_model.specs.Parts.{Participant}
use Rattle.bip_model.specs.States.{state_of}
use Rattle.bip_model.specs.Steps.{participants_of}
use Rattle.bip_model.specs.declared.numbering.CompId.{CompId}
use Rattle.bip_explain.specs.Parties.{AreOthers, off_among, unseen_among}
use Rattle.bip_explain.proofs.PartyLemmas as party
use Rattle.bip_explain.proofs.parties.find_lack.Goals as goal

pub returns-then-is_empty-clause-none : goal.returns-then-is_empty-clause-none
returns-then-is_empty-clause-none c =
    let ws = c.args.wants.now in
    let are = c.unseen_among-unseen.ensures ∙ ap (λ (qs : List Participant). unseen_among ws qs)
    c.participants-participants.ensures.participants in
    party.covered_by_all c.args.model.now (state_of c.args.state.now) ws c.args.inter.0
    (sym (ap length are) ∙ party.none_from (length c.unseen_among-unseen.result.items)
    c.is_empty.result c.is_empty.ensures c.if-is_empty.true)

pub off_among-off-requires-clause-few : goal.off_among-off-requires-clause-few
off_among-off-requires-clause-few c = rw c.participants-participants.ensures.participants
    (party.of_model c.args.model.now c.args.inter.0 c.participants-participants.ensures.valid
    c.requires.declared).few

pub off_among-off-requires-clause-ports : goal.off_among-off-requires-clause-ports
off_among-off-requires-clause-ports c = rw c.participants-participants.ensures.participants
    (party.of_model c.args.model.now c.args.inter.0 c.participants-participants.ensures.valid
    c.requires.declared).ports

pub returns-then-is_empty-2-clause-some : goal.returns-then-is_empty-2-clause-some
returns-then-is_empty-2-clause-some c =
    let m = c.args.model.now in
    let s = state_of c.args.state.now in
    let ws = c.args.wants.now in
    let b = c.args.inter.0 in
    let unseen = c.unseen_among-unseen.ensures
    ∙ ap (λ (qs : List Participant). unseen_among ws qs)
    c.participants-participants.ensures.participants in
    let off = c.off_among-off.ensures ∙ ap (λ (qs : List Participant). off_among m s qs)
    c.participants-participants.ensures.participants in
    let some = rw unseen at (party.some_from (length c.unseen_among-unseen.result.items)
    c.is_empty.result c.is_empty.ensures c.if-is_empty.false) in
    let all = party.none_off m s ws (participants_of m b)
    (sym (ap length off) ∙ party.none_from
    (length c.off_among-off.result.items) c.is_empty-2.result c.is_empty-2.ensures
    c.if-is_empty-2.true) in (
      party.uncovered_on m s ws b all some,
      (
        all,
        party.guard_false m s ws b c.requires.declared all c.requires.disabled,
        unseen,
        subst (AreOthers ws) (sym unseen) (party.others_unseen ws (participants_of m b) some),
      ),
    )

pub returns-then-have_one_of-clause-none : goal.returns-then-have_one_of-clause-none
returns-then-have_one_of-clause-none c =
    let m = c.args.model.now in
    let s = state_of c.args.state.now in
    let ws = c.args.wants.now in
    let off = c.off_among-off.ensures ∙ ap (λ (qs : List Participant). off_among m s qs)
    c.participants-participants.ensures.participants in
    party.covered_by_one m s ws c.args.inter.0
    (ap (λ (cs : List CompId). list_any (λ (d : CompId). has_want_of ws d.0) cs)
    (sym (c.as_slice.ensures.value ∙ off))
    ∙ (sym c.have_one_of.ensures ∙ c.if-have_one_of.true))

pub returns-clause-some : goal.returns-clause-some
returns-clause-some c =
    let m = c.args.model.now in
    let s = state_of c.args.state.now in
    let ws = c.args.wants.now in
    let b = c.args.inter.0 in
    let unseen = c.unseen_among-unseen.ensures
    ∙ ap (λ (qs : List Participant). unseen_among ws qs)
    c.participants-participants.ensures.participants in
    let off = c.off_among-off.ensures ∙ ap (λ (qs : List Participant). off_among m s qs)
    c.participants-participants.ensures.participants in
    let some = rw unseen at (party.some_from (length c.unseen_among-unseen.result.items)
    c.is_empty.result c.is_empty.ensures c.if-is_empty.false) in
    let others = party.some_from (length c.off_among-off.result.items) c.is_empty-2.result
    c.is_empty-2.ensures c.if-is_empty-2.false in
    let none = sym (ap (λ (cs : List CompId). list_any (λ (d : CompId). has_want_of ws d.0) cs)
    c.as_slice.ensures.value) ∙ (sym c.have_one_of.ensures ∙ c.if-have_one_of.false) in (
      party.uncovered_off m s ws b (ap (λ (cs : List CompId). list_any
          (λ (d : CompId). has_want_of ws d.0) cs) (sym off) ∙ none) some,
      (off, party.others_off ws c.off_among-off.result.items others none),
    )
