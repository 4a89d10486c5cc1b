use Rattle.std.proofs.Common.{◌∙◌, ◌++◌, ◌∷◌, List, [], ap, append-nil, append_assoc, sym, ℕ}
use Rattle.std.proofs.lemmas.Grind.{flat_map-append}
use Rattle.std.specs.List.{flat_map}
use Rattle.bip_model.proofs.LineLemmas.{all_read, line_read, none_read}
use Rattle.bip_draw.specs.Shapes.{foot_line}
use Rattle.bip_draw.proofs.feet.write_lines.Goals as goal

pub loop-line-init : goal.loop-line-init
loop-line-init c = (
  [],
  rw (c.into_iter-line-iterator.ensures.into_iter_gives ∙ c.of-line-items.ensures)
      (none_read c.args.written.now),
  sym (append-nil c.args.text.now.items),
)

pub loop-line-preserved : goal.loop-line-preserved
loop-line-preserved c =
    let so = c.loop-line.invariant in
    let next = line_read c.args.written.now so.0 _ _ _ _ so.1 c.in-Some.ensures.steps in (
      _,
      next.left,
      c.in_ok-write_foot_line.ensures
          ∙ ap (λ (t : List ℕ). t ++ foot_line c.in-Some.line.now) so.2
          ∙ append_assoc c.args.text.now.items (flat_map foot_line so.0)
          (foot_line c.in-Some.line.now)
          ∙ ap (λ (t : List ℕ). c.args.text.now.items ++ t)
          (sym (flat_map-append foot_line so.0 (c.in-Some.line.now ∷ [])
          ∙ ap (λ (t : List ℕ). flat_map foot_line so.0 ++ t)
          (append-nil (foot_line c.in-Some.line.now)))),
    )

pub returns : goal.returns
returns c =
    let so = c.loop-line.invariant in
    so.2 ∙ ap (λ (ls : List (List ℕ)). c.args.text.now.items ++ flat_map foot_line ls)
    (sym (all_read c.args.written.now so.0 _ so.1 c.in-None.ensures.steps.0))
