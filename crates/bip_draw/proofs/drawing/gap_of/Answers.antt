use Rattle.std.proofs.Common.{◌∙◌, refl, sym}
use Rattle.bip_draw.specs.Drawing.{has_clauses, are_parallel}
use Rattle.bip_draw.proofs.EdgeLemmas.{list_any-filter}
use Rattle.bip_draw.proofs.drawing.gap_of.Goals as goal

pub returns-then-any_has_clauses : goal.returns-then-any_has_clauses
returns-then-any_has_clauses c =
    let t = c.args.transition.now in
    rw (list_any-filter (are_parallel t) has_clauses c.args.component.now.transitions
    ∙ (sym c.any_has_clauses.ensures ∙ c.if-any_has_clauses.true)) refl

pub returns-else-any_has_clauses : goal.returns-else-any_has_clauses
returns-else-any_has_clauses c =
    let t = c.args.transition.now in
    rw (list_any-filter (are_parallel t) has_clauses c.args.component.now.transitions
    ∙ (sym c.any_has_clauses.ensures ∙ c.if-any_has_clauses.false)) refl
