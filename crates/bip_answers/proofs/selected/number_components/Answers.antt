use Rattle.std.proofs.Common.{◌<◌, ◌∙◌, List, arith, length, subst, sym, ℕ}
use Rattle.bip_model.specs.declared.numbering.CompId.{CompId}
use Rattle.bip_answers.specs.Selected.{IsUnknownAt}
use Rattle.bip_answers.specs.declared.selected.SelectFault.TheVariants.{Unknown}
use Rattle.bip_answers.proofs.SelectedLemmas.{more_named, unknown_at}
use Rattle.bip_answers.proofs.selected.number_components.Goals as goal

pub returns-in_default-clause-fault : goal.returns-in_default-clause-fault
returns-in_default-clause-fault c =
    let within : c.loop-index.index < length c.args.words.now =
    omega (arith, c.loop-index-test.true) in
    subst (λ (names : List (List ℕ)).
    IsUnknownAt names c.args.words.now (Unknown c.loop-index.index))
    c.component_names-names.ensures.names
    (unknown_at c.component_names-names.result.now c.args.words.now c.loop-index.index _ within _
    c.loop-index.invariant (sym c.number_named.ensures.number ∙ c.in_default.is))

pub loop-index-preserved : goal.loop-index-preserved
loop-index-preserved c =
    let within : c.loop-index.index < length c.args.words.now =
    omega (arith, c.loop-index-test.true) in
    rw c.in_ok-add_component.ensures
    (more_named c.component_names-names.result.now c.args.words.now c.loop-index.index _ within
    (λ (c : CompId). c.0) c.loop-index.chosen.items (record { 0 = c.in-Some.number })
    c.loop-index.invariant
    (sym c.number_named.ensures.number ∙ c.in-Some.is))
