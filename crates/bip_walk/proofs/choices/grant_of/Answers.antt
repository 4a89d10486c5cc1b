use Rattle.std.proofs.Common.{◌≡◌, ◌∙◌, List, ap, map, subst, sym}
use Rattle.std.proofs.lemmas.Bool.{false≢true}
use Rattle.std.proofs.lemmas.List.{take_all}
use Rattle.bip_model.specs.Parts.{IsSystem}
use Rattle.bip_model.specs.Wants.{IsWants}
use Rattle.bip_model.specs.declared.parts.System.{System}
use Rattle.bip_model.specs.declared.wants.Want.{Want}
use Rattle.bip_partition.specs.Plans.{IsListTouched}
use Rattle.bip_replay.specs.Runs.{standing_of}
use Rattle.bip_walk.proofs.ChoiceLemmas.{are_wants, full_grant}
use Rattle.bip_walk.specs.Choices.{IsFullGrant, want_next}
use Rattle.bip_walk.proofs.choices.grant_of.Goals as goal

pub unreachable-requires : goal.unreachable-requires
unreachable-requires c =
    let p = standing_of c.args.position.now in
    let a = c.args.inter.0 in
    let cs = c.touches-comp-items.result.now in
    let list = subst (λ (m : System). IsListTouched m a cs) (sym c.requires.model)
    c.touches-comp-items.ensures.touches in
    let valid = subst IsSystem (sym c.requires.model) c.recall.ensures.valid in
    let all : c.loop-comp.wants.items ≡ map (want_next p a) cs =
    c.loop-comp.invariant
    ∙ ap (map (want_next p a)) (take_all c.loop-comp.comp-index cs c.loop-comp-test.false) in
    let are = are_wants p a cs list valid c.requires.can.may.enabled.declared
    c.touches-comp-items.ensures.few c.requires.can.unspent in
    false≢true (c.in-None.ensures.exact.1
    (subst IsWants (sym (c.as_slice.ensures.value ∙ all)) are))

pub returns : goal.returns
returns c =
    let p = standing_of c.args.position.now in
    let a = c.args.inter.0 in
    let cs = c.touches-comp-items.result.now in
    let list = subst (λ (m : System). IsListTouched m a cs) (sym c.requires.model)
    c.touches-comp-items.ensures.touches in
    let valid = subst IsSystem (sym c.requires.model) c.recall.ensures.valid in
    let all : c.loop-comp.wants.items ≡ map (want_next p a) cs =
    c.loop-comp.invariant
    ∙ ap (map (want_next p a)) (take_all c.loop-comp.comp-index cs c.loop-comp-test.false) in
    let full = full_grant p a cs list valid c.requires.can.may.enabled.declared
    c.touches-comp-items.ensures.few c.requires.can.unspent in
    subst (λ (ws : List Want). IsFullGrant p a (record { inter = c.args.inter; wants = ws }))
    (sym (c.in-Some.ensures.wants ∙ (c.as_slice.ensures.value ∙ all))) full
