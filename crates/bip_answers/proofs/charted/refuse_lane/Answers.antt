use Rattle.std.proofs.lemmas.Result.{IfOk-weaker}
use Rattle.bip_answers.proofs.SelectedLemmas.{unknown_within, unknown_word}
use Rattle.bip_answers.proofs.charted.refuse_lane.Goals as goal

pub bounds-words-at : goal.bounds-words-at
bounds-words-at c =
    unknown_within c.args.model.now.component_names c.args.words.now c.args.at c.requires

pub returns : goal.returns
returns c =
    IfOk-weaker c.refuse_word.result _ _
    (λ answer is. (
      _,
      unknown_word c.args.model.now.component_names c.args.words.now c.args.at _ c.requires,
      is,
    ))
    c.refuse_word.ensures
