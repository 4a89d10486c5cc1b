use Rattle.std.proofs.Common.{ap, subst, ◌∙◌, Option, List}
use Rattle.std.specs.Prelude.{All, IfNone, IfSome}
use Rattle.bip_model.specs.declared.numbering.CompId.{CompId}
use Rattle.bip_table.proofs.ClosingLemmas.{lowest_before, lowest_of_now, none_differs, of_each}
use Rattle.bip_table.specs.Closing.{IsAsTold, IsFirstOther}
use Rattle.bip_table.specs.Rows.{has_row}
use Rattle.bip_table.specs.declared.rows.Row.{Row}
use Rattle.bip_table.proofs.closing.first_differing.Goals as goal

pub returns-in-Some-None-clause-some : goal.returns-in-Some-None-clause-some
returns-in-Some-None-clause-some g c =
    let found = subst (λ (o : Option CompId). IfSome o
    (λ k. IsFirstOther c.args.opening.now c.args.opening.now c.args.passes.now c.args.table.now
    k.0)) c.in-Some-None.is-0 c.first_other-before.ensures.some in
    let all = subst (λ (o : Option CompId). IfNone o
    (All (λ (r : Row). IsAsTold c.args.opening.now c.args.passes.now c.args.table.now r.comp.0)
    c.rows.result.now)) c.in-Some-None.is-1 c.first_other-now.ensures.none in
    lowest_before c.args.opening.now c.args.passes.now c.args.table.now _ found
    (λ k below row. of_each (IsAsTold c.args.opening.now c.args.passes.now c.args.table.now)
    c.rows.result.now k all (ap (λ (rows : List Row). has_row rows k) c.rows.ensures.rows
    ∙ row))

pub returns-in-None-default-clause-some : goal.returns-in-None-default-clause-some
returns-in-None-default-clause-some g c =
    let all = subst (λ (o : Option CompId). IfNone o
    (All (λ (r : Row). IsAsTold c.args.opening.now c.args.passes.now c.args.table.now r.comp.0)
    c.args.opening.now)) c.in-None-default.is-0 c.first_other-before.ensures.none in
    lowest_of_now c.args.opening.now c.args.passes.now c.args.table.now c.rows.result.now
    c.first_other-now.result c.rows.ensures.rows all c.first_other-now.ensures.some

pub returns-in-None-default-clause-none : goal.returns-in-None-default-clause-none
returns-in-None-default-clause-none g c =
    let all = subst (λ (o : Option CompId). IfNone o
    (All (λ (r : Row). IsAsTold c.args.opening.now c.args.passes.now c.args.table.now r.comp.0)
    c.args.opening.now)) c.in-None-default.is-0 c.first_other-before.ensures.none in
    none_differs c.args.opening.now c.args.passes.now c.args.table.now c.rows.result.now
    c.first_other-now.result c.rows.ensures.rows all c.first_other-now.ensures.none
