use Rattle.std.proofs.Common.{List, ℕ, ◌∷◌, ap, ◌∙◌}
use Rattle.bip_explain.proofs.FormLemmas.{words_from_said}
use Rattle.bip_explain.proofs.ends.members_of.Goals as goal

pub returns-clause-left : goal.returns-clause-left
returns-clause-left c =
    let keyword = c.in_ok-keyword.keyword.word.now in (
      keyword,
      c.in_ok-_name._name.word.now,
      words_from_said c.args.line.now keyword _ c.in_ok-keyword.ensures.words
          ∙ ap (λ (ws : List (List ℕ)). keyword ∷ ws) c.in_ok-_name.ensures.steps.1.0,
    )
