use Rattle.std.proofs.Common.{◌≡◌, List, ℕ, ◌∷◌, [], codes, true, false, refl, sym, ap, ◌∙◌}
use Rattle.bip_model.specs.Naming.{same_text}
use Rattle.bip_explain.proofs.FormLemmas.{words_from_said}
use Rattle.bip_explain.proofs.UnknownLemmas.{begins_so}
use Rattle.bip_explain.proofs.unknown.find_on.Goals as goal

pub find_member-requires-clause-named : goal.find_member-requires-clause-named
find_member-requires-clause-named c =
    let k = c.in_ok-keyword in
    let keyword = k.keyword.word.now in (
      keyword ∷ [],
      sym c.is_text-2.ensures ∙ c.if-is_text-2.true,
      rw k.ensures.line (words_from_said c.line_at.result.now keyword _ k.ensures.words),
    )

pub find_in_interaction-requires : goal.find_in_interaction-requires
find_in_interaction-requires c =
    let k = c.in_ok-keyword in
    let name = c.in_ok-_name in
    let same = name.ensures.steps.0 ∙ k.ensures.line in
    let whole = begins_so c.line_at.result.now k.keyword.word.now
    (codes "interaction") _ k.ensures.words (sym c.is_text-3.ensures ∙ c.if-is_text-3.true) in (
      name._name.word.now,
      rw same (whole ∙ ap (λ (ws : List (List ℕ)). codes "interaction" ∷ ws)
          name.ensures.steps.1.0),
    )

pub find_member-requires-then-is_text-4-clause-named : goal.find_member-requires-then-is_text-4-clause-named
find_member-requires-then-is_text-4-clause-named c =
    let k = c.in_ok-keyword in
    let keyword = k.keyword.word.now in
    let name = c.in_ok-_name in
    let same = name.ensures.steps.0 ∙ k.ensures.line in
    let other : same_text keyword (codes "priority") ≡ false = sym c.is_text-2.ensures
    ∙ c.if-is_text-2.false in
    let is : same_text keyword (codes "class") ≡ true = sym c.is_text-else-is_text-3.ensures
    ∙ c.if-is_text-4.true in
    let whole = words_from_said c.line_at.result.now keyword _ k.ensures.words in (
      keyword ∷ name._name.word.now ∷ [],
      rw (other, is) refl,
      rw same (whole ∙ ap (λ (ws : List (List ℕ)). keyword ∷ ws) name.ensures.steps.1.0),
    )
