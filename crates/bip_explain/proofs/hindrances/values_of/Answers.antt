use Rattle.std.proofs.Common.{◌∷◌, ◌++◌, [], List, ℕ, take, get_or, map, ap, ◌∙◌}
use Rattle.std.proofs.lemmas.List.{map-append, take_more}
use Rattle.bip_model.specs.Parts.{Participant}
use Rattle.bip_model.specs.States.{state_of}
use Rattle.bip_model.specs.Steps.{values_at}
use Rattle.bip_explain.proofs.hindrances.values_of.Goals as goal

pub loop-comp-preserved : goal.loop-comp-preserved
loop-comp-preserved c =
    let qs : List Participant = c.args.participants.now in
    let i = c.loop-comp.comp-index in
    let d : Participant = (record { 0 = 0 }, record { 0 = 0 }) in
    let s = state_of c.args.state.now in
    rw (
      take_more qs i d c.loop-comp-test.true,
      map-append (values_at s) (take i qs) (get_or qs i d ∷ []),
    )
    (c.push.ensures.items
    ∙ (ap (λ (vs : List (List ℕ)). vs ++ c.values_at.result ∷ []) c.loop-comp.invariant
    ∙ ap (λ (v : List ℕ). map (values_at s) (take i qs) ++ v ∷ [])
    (c.values_at.ensures (get_or qs i d).1)))
