use Rattle.std.proofs.Common.{ap, not, refl, ◌∙◌, codes, rules}
use Rattle.std.proofs.lemmas.List.Elements.{All-cons}
use Rattle.bip_model.specs.Naming.{IsName}
use Rattle.bip_model.specs.Texts.{words}
use Rattle.bip_explain.specs.Declarations.{HasLineWith}
use Rattle.bip_explain.proofs.EndLemmas.{known_has}
use Rattle.bip_explain.proofs.FrontLemmas.{left_more, left_there}
use Rattle.bip_explain.proofs.UnknownLemmas.{NameInteractions, line_found, names_more}
use Rattle.bip_explain.proofs.unknown.find_member.Goals as goal
use Rattle.bip_explain.proofs.unknown.find_member.Goals.{else-is_missing-via-then-is_missing+else-is_none}
use Rattle.bip_explain.proofs.unknown.find_member.Goals.{else-is_missing-via-else-is_missing}

pub loop-placed-init : goal.loop-placed-init
loop-placed-init c =
    let r = c.requires.named in
    rw c.into_iter-placed-iterator.ensures.into_iter_gives (record {
      line = refl;
      known = λ all. all;
      left = record { front = r.0; such = r.1; split = r.2 };
    })

pub returns-then-is_none-clause-some : goal.returns-then-is_none-clause-some
returns-then-is_none-clause-some c =
    let l = c.loop-placed in
    let step = rw l.invariant.line at c.in-Some.ensures.steps.1 in
    let named = left_there NameInteractions c.args.left.line.now c.in-Some.placed
    c.next.new.self.rest.now (words l.placed-iterator.rest.now) l.invariant.left step.0 step.1
    step.2 in (
      (c.is_missing.ensures.named c.if-is_missing.true, (step.1, named)),
      search rules,
      c.later_line_with-later.ensures,
    )

pub loop-placed-preserved : goal.loop-placed-preserved
loop-placed-preserved c =
    let l = c.loop-placed in
    let word = c.in-Some.placed.word.now in
    let has = HasLineWith c.args.text.now c.args.number (codes "interaction") in
    let one : IsName word → has word = λ named. elim c.else-is_missing.branch [
      | else-is_missing-via-then-is_missing+else-is_none w ↦
          line_found c.args.text.now c.args.number
          (codes "interaction") word w.line_with.result w.line_with.ensures.some
          (w.is_none.ensures ∙ ap (λ b. not b) w.if-is_none.false)
      | else-is_missing-via-else-is_missing w ↦
          known_has has word c.args.declared.now.interactions c.requires.known
          (c.is_missing.ensures.known w.if-is_missing.false named)
    ] in
    record {
      line = c.in-Some.ensures.steps.0 ∙ l.invariant.line;
      known = λ all. l.invariant.known (rw c.in-Some.ensures.steps.1.0
          (All-cons (λ w. IsName w → has w) word _ one all));
      left = left_more NameInteractions NameInteractions c.args.left.line.now word
          (words l.placed-iterator.rest.now) (words c.next.new.self.rest.now)
          (names_more word) l.invariant.left c.in-Some.ensures.steps.1.0;
    }
