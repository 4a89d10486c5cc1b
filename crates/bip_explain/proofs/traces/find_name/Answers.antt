use Rattle.std.proofs.Common.{◌≡◌, ℕ, List, [], ◌∷◌, refl, drop, sym, ap, ◌∙◌, subst}
use Rattle.bip_model.specs.Naming.{IsName}
use Rattle.bip_model.specs.Texts.{words}
use Rattle.bip_explain.specs.Words.{HasNot}
use Rattle.bip_explain.proofs.FrontLemmas.{one_before}
use Rattle.bip_explain.proofs.PlacedLemmas.{stands_behind}
use Rattle.bip_explain.proofs.SaidLemmas.{IsInterKnown, no_second, no_unknown, second_is}
use Rattle.bip_explain.proofs.SaidLemmas.{where_none}
use Rattle.bip_explain.proofs.traces.find_name.Goals as goal
use Rattle.bip_explain.proofs.traces.find_name.Goals.{in-Some+else-is_missing, in_default}

pub returns-clause-none : goal.returns-clause-none
returns-clause-none c =
    let m = c.args.model.now in
    let ws = words c.args.line.now in
    let behind : words c.behind_first-words.result.rest.now ≡ drop 1 ws =
    c.behind_first-words.ensures.rest ∙ ap (λ (l : List ℕ). drop 1 (words l))
    c.of.ensures.rest in
    elim c.match-next.branch [
      | in-Some+else-is_missing w ↦
          let is = sym behind ∙ w.in-Some.ensures.steps.1.0 in
          let inter : IsInterKnown m c.args.line.now =
          λ first second two named. subst (λ (s : List ℕ). ¬ HasNot m.interaction_names s)
          (second_is ws _ _ first second is two)
          (w.is_missing.ensures.found w.if-is_missing.false
          (subst IsName (sym (second_is ws _ _ first second is two)) named)) in
          where_none c.find_component.result (λ comps.
          (no_unknown m c.args.line.now inter (rw is comps), inter))
          c.find_component.ensures.none
      | in_default w ↦
          let is = sym behind ∙ w.in_default.ensures.steps.1.0 in
          let inter : IsInterKnown m c.args.line.now =
          λ first second two named. absurd (no_second ws first second is two) in
          where_none c.find_component.result (λ comps.
          (no_unknown m c.args.line.now inter (rw is refl), inter))
          c.find_component.ensures.none
    ]

pub returns-then-is_missing-clause-some : goal.returns-then-is_missing-clause-some
returns-then-is_missing-clause-some c =
    let line = c.args.line.now in
    let words_behind = c.behind_first-words.ensures in
    let same = words_behind.line ∙ c.of.ensures.line in
    let step = rw same at c.in-Some.ensures.steps.1 in
    let behind : words c.behind_first-words.result.rest.now ≡ drop 1 (words line) =
    words_behind.rest ∙ ap (λ (l : List ℕ). drop 1 (words l)) c.of.ensures.rest in
    let front = one_before (words line) c.in-Some.inter.word.now (words c.next.new.self.rest.now)
    (sym behind ∙ step.0) in
    let at = stands_behind line c.in-Some.inter (front.0 ∷ [])
    (c.in-Some.inter.word.now ∷ words c.next.new.self.rest.now) c.next.new.self.rest.now front.1
    refl step.1 step.2 in (
      (
        (c.is_missing.ensures.named c.if-is_missing.true, (step.1, rw at refl)),
        c.is_missing.ensures.missing c.if-is_missing.true,
      ),
      refl,
    )
