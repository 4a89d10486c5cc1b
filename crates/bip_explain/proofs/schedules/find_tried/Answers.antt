use Rattle.std.proofs.Common.{List, ℕ, ◌∷◌, [], codes, refl, ap, ◌∙◌, rules}
use Rattle.bip_model.specs.Texts.{words}
use Rattle.bip_explain.proofs.PlacedLemmas.{stands_behind}
use Rattle.bip_explain.proofs.schedules.find_tried.Goals as goal

pub returns-then-not-is_class-clause-some : goal.returns-then-not-is_class-clause-some
returns-then-not-is_class-clause-some c =
    let t = c.in_ok-class in
    let step = t.ensures.steps.1 in
    let front = stands_behind c.args.left.line.now t.class (codes "try" ∷ [])
    (words c.args.left.rest.now) c.next.new.self.rest.now c.requires step.0 step.1 step.2 in (
      ((c.in_ok-name.ensures.exact.0 refl, (step.1, rw front refl)), search rules, search rules),
      refl,
    )

pub returns-then-not-is_interaction-clause-some : goal.returns-then-not-is_interaction-clause-some
returns-then-not-is_interaction-clause-some c =
    let line = c.args.left.line.now in
    let class = c.in_ok-class.class.word.now in
    let t = c.in_ok-inter in
    let step = rw c.in_ok-class.ensures.steps.0 at t.ensures.steps.1 in
    let split = c.requires ∙ ap (λ (ws : List (List ℕ)). codes "try" ∷ ws)
    c.in_ok-class.ensures.steps.1.0 in
    let front = stands_behind line t.inter (codes "try" ∷ class ∷ [])
    (words c.next.new.self.rest.now) c.next-2.new.self.rest.now split step.0 step.1 step.2 in (
      ((c.in_ok-name-2.ensures.exact.0 refl, (step.1, rw front refl)), search rules, search rules),
      refl,
    )
