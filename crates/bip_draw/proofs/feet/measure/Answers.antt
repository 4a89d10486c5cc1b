use Rattle.std.proofs.Common.{◌∙◌, ◌∷◌, List, [], length, refl, ℕ}
use Rattle.std.proofs.Common.{ap, arith, length-append, max, rules, sym}
use Rattle.std.proofs.lemmas.List.Sums.{fold_push}
use Rattle.bip_model.proofs.LineLemmas.{all_read, line_read, none_read}
use Rattle.bip_draw.specs.Layout.{longest}
use Rattle.bip_draw.proofs.feet.measure.Goals as goal

pub loop-number-init : goal.loop-number-init
loop-number-init c = (
  [],
  rw (c.into_iter-number-iterator.ensures.into_iter_gives ∙ c.of-number-items.ensures)
      (none_read c.args.text.now),
  refl,
  refl,
)

pub loop-number-preserved : goal.loop-number-preserved
loop-number-preserved c =
    let so = c.loop-number.invariant in
    let next = line_read c.args.text.now so.0 _ _ _ _ so.1 c.in-Some.ensures.steps in (
      _,
      next.left,
      omega (arith, next.number, length-append so.0 (c.in-Some.line.now ∷ [])),
      rw (
        fold_push (λ (most : ℕ) (x : List ℕ). max most (length x)) 0 so.0 c.in-Some.line.now,
        ← so.3,
      ) (search rules),
    )

pub returns-clause-count : goal.returns-clause-count
returns-clause-count c =
    let so = c.loop-number.invariant in
    so.2 ∙ ap length (sym (all_read c.args.text.now so.0 _ so.1 c.in-None.ensures.steps.0))

pub returns-clause-longest : goal.returns-clause-longest
returns-clause-longest c =
    let so = c.loop-number.invariant in
    so.3 ∙ ap longest (sym (all_read c.args.text.now so.0 _ so.1 c.in-None.ensures.steps.0))
