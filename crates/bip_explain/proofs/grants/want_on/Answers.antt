use Rattle.std.proofs.Common.{refl, sym, ◌∙◌}
use Rattle.std.proofs.lemmas.List.Elements.{All-cons, All-nil}
use Rattle.bip_explain.specs.Grants.{IsWantOf}
use Rattle.bip_explain.proofs.GrantLemmas.{comp_wanted, other_word}
use Rattle.bip_explain.proofs.grants.want_on.Goals as goal

pub loop-placed-init : goal.loop-placed-init
loop-placed-init c = rw (
  c.into_iter-placed-iterator.ensures.into_iter_gives,
  c.of-placed-items.ensures.line,
  c.of-placed-items.ensures.rest,
)
    (record { line = refl; known = λ all. all })

pub loop-placed-preserved : goal.loop-placed-preserved
loop-placed-preserved c =
    let l = c.loop-placed in
    let word = c.in-Some.placed.word.now in
    record {
      line = c.in-Some.ensures.steps.0 ∙ l.invariant.line;
      known = λ all. l.invariant.known (rw c.in-Some.ensures.steps.1.0
          (All-cons (λ w. ¬ IsWantOf c.args.model.now c.args.comp.0 w) word _
          (other_word c.args.model.now c.args.comp.0 word
          (sym c.names_comp.ensures ∙ c.if-names_comp.false)) all));
    }

pub returns-then-names_comp : goal.returns-then-names_comp
returns-then-names_comp c =
    let step = rw c.loop-placed.invariant.line at c.in-Some.ensures.steps.1 in (
      step.1,
      comp_wanted c.args.model.now c.args.comp.0 c.in-Some.placed.word.now
          (sym c.names_comp.ensures ∙ c.if-names_comp.true),
    )

pub returns : goal.returns
returns c = c.loop-placed.invariant.known (rw c.in-None.ensures.steps.1.0 (All-nil _))
