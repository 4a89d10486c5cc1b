use Rattle.std.proofs.Common.{sym, arith, ◌∙◌, subst}
use Rattle.std.specs.Prelude.{All}
use Rattle.std.proofs.lemmas.Bool.{false≢true}
use Rattle.std.proofs.lemmas.List.{take_all}
use Rattle.std.proofs.lemmas.List.Elements.{All-more}
use Rattle.bip_table.proofs.ClosingLemmas.{first_differs}
use Rattle.bip_table.specs.Closing.{IsAsTold}
use Rattle.bip_table.specs.declared.rows.Row.{Row}
use Rattle.bip_table.proofs.closing.first_other.Goals as goal

pub returns-then-not-is_as_told-clause-some : goal.returns-then-not-is_as_told-clause-some
returns-then-not-is_as_told-clause-some g c =
    first_differs c.args.opening.now c.args.passes.now c.args.table.now c.args.rows.now
    c.loop-row.row-index _ c.requires c.loop-row-test.true c.loop-row.invariant
    (λ told. false≢true (sym c.if-not-is_as_told.true ∙ c.is_as_told.ensures.1 told))

pub loop-row-preserved : goal.loop-row-preserved
loop-row-preserved g c =
    All-more (λ (r : Row). IsAsTold c.args.opening.now c.args.passes.now c.args.table.now r.comp.0)
    c.args.rows.now c.loop-row.row-index _ c.loop-row-test.true c.loop-row.invariant
    (c.is_as_told.ensures.0 c.if-not-is_as_told.false)

pub returns-clause-none : goal.returns-clause-none
returns-clause-none g c =
    subst (All (λ (r : Row). IsAsTold c.args.opening.now c.args.passes.now c.args.table.now
    r.comp.0)) (take_all c.loop-row.row-index c.args.rows.now
    (omega (arith, c.loop-row-test.false))) c.loop-row.invariant
