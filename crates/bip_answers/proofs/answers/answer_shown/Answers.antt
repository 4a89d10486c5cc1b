use Rattle.std.proofs.Common.{◌≡◌, ◌++◌, rules}
use Rattle.bip_answers.specs.Wording.{counts_text}
use Rattle.bip_answers.proofs.AnswerLemmas.{has_shown}
use Rattle.bip_answers.proofs.answers.answer_shown.Goals as goal

pub returns : goal.returns
returns c = λ text has.
    let written : c.extend_from_slice.new.self.items ≡ counts_text c.count_plan.result
    ++ c.in_ok-shown.shown.items = search rules in
    has_shown text _ _ c.args.plan.now c.count_plan.result c.in_ok-shown.shown.items c.said.ensures
    written has c.count_plan.ensures c.in_ok-shown.ensures
