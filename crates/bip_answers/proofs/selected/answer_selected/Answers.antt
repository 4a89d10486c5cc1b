use Rattle.std.proofs.Common.{subst, sym, ◌∙◌, ap}
use Rattle.std.proofs.lemmas.Result.{IfOk-weaker}
use Rattle.bip_answers.specs.Answers.{saying}
use Rattle.bip_answers.specs.Selected.{IsPartAnswer, drawn, no_class, no_component}
use Rattle.bip_answers.specs.declared.answers.Status.TheVariants.{Done}
use Rattle.bip_answers.proofs.SelectedLemmas.{unknown_within, unknown_word}
use Rattle.bip_answers.proofs.selected.answer_selected.Goals as goal

pub bounds-components-at : goal.bounds-components-at
bounds-components-at c =
    unknown_within c.args.model.now.component_names c.args.components.now c.in-Err-Unknown.at
    (rw c.in-Err-Unknown.field-0-is at c.in-Err-Unknown.ensures.fault)

pub returns-in-Err-Unknown : goal.returns-in-Err-Unknown
returns-in-Err-Unknown c =
    let first = rw c.in-Err-Unknown.field-0-is at c.in-Err-Unknown.ensures.fault in
    IfOk-weaker c.refuse_word.result _ _
    (λ answer is text means.
    subst (IsPartAnswer c.args.components.now c.args.classes.now text) (sym is)
    (no_component c.args.model.now c.args.kept.now _ means
    (unknown_word c.args.model.now.component_names c.args.components.now c.in-Err-Unknown.at _
    first))) c.refuse_word.ensures

pub bounds-classes-at : goal.bounds-classes-at
bounds-classes-at c =
    unknown_within c.args.kept.now.names c.args.classes.now c.in-Err-Unknown-number_classes.at
    (rw c.in-Err-Unknown-number_classes.field-0-is at
    c.in-Err-Unknown-number_classes.ensures.fault)

pub returns-in-Err-Unknown-number_classes : goal.returns-in-Err-Unknown-number_classes
returns-in-Err-Unknown-number_classes c =
    let first =
    rw c.in-Err-Unknown-number_classes.field-0-is at
    c.in-Err-Unknown-number_classes.ensures.fault in
    IfOk-weaker c.refuse_word-in-Err-Unknown-number_classes.result _ _
    (λ answer is text means.
    subst (IsPartAnswer c.args.components.now c.args.classes.now text) (sym is)
    (no_class c.args.model.now c.args.kept.now _ _ means c.in-Ok.ensures.named
    (unknown_word c.args.kept.now.names c.args.classes.now c.in-Err-Unknown-number_classes.at _
    first)))
    c.refuse_word-in-Err-Unknown-number_classes.ensures

pub returns : goal.returns
returns c = λ text means.
    subst (IsPartAnswer c.args.components.now c.args.classes.now text)
    (sym (c.said.ensures ∙ ap (saying Done) c.in_ok-text.ensures))
    (drawn c.args.model.now c.args.kept.now _ means
    (record {
      chosen = rw c.as_slice.ensures.value c.in-Ok.ensures.named;
      parted = rw c.as_slice-2.ensures.value c.in-Ok-number_classes.ensures.named;
    }))
