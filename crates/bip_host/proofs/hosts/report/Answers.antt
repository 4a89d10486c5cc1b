use Rattle.std.proofs.Common.{◌≡◌, ◌∙◌, arith, false, rules, subst, sym, true}
use Rattle.std.proofs.lemmas.Grind.{common_steps}
use Rattle.std.proofs.lemmas.Result.{err_from_is_err_and}
use Rattle.bip_host.specs.Reports.{no_memory, no_thread}
use Rattle.bip_replay.specs.Runs.{IsModelRun}
use Rattle.bip_host.proofs.ReportLemmas.{first_told, no_run_told}
use Rattle.bip_host.proofs.hosts.report.Goals as goal

pub returns-in_err-into_grants-clause-why : goal.returns-in_err-into_grants-clause-why
returns-in_err-into_grants-clause-why c =
    let p = err_from_is_err_and c.from_residual.result c.from_residual.ensures.1 in
    let t = c.args.totals in
    rw (p.1, p.2)
    (first_told c.args.plan.now.model c.args.book t.wanted_memory t.is_short
    c.in_err-into_grants.field-0.0 c.in_err-into_grants.ensures.refused)

pub returns-in_err-grants-clause-why : goal.returns-in_err-grants-clause-why
returns-in_err-grants-clause-why c =
    let told = c.from_residual-in_err-grants in
    let p = err_from_is_err_and told.result told.ensures.1 in
    let t = c.args.totals in
    let all = c.in_ok-into_grants.ensures.ok in
    rw (p.1, p.2)
    (no_run_told c.args.plan.now.model c.args.book t.wanted_memory t.is_short
    c.in_err-grants.field-0.0 c.in_ok-into_grants.field-0.items all.0 all.1
    (rw (sym c.model.ensures) c.in_err-grants.ensures.none))

pub returns-then-wanted_memory-clause-why : goal.returns-then-wanted_memory-clause-why
returns-then-wanted_memory-clause-why c = no_memory c.in_ok-into_grants.ensures.ok.1

pub returns-then-totals-2-clause-why : goal.returns-then-totals-2-clause-why
returns-then-totals-2-clause-why c =
    let all = c.in_ok-into_grants.ensures.ok in
    let lent : c.args.book.wanted_memory ≡ false = grind (arith, common_steps) in
    let asked : c.args.totals.wanted_memory ≡ false = grind (arith, common_steps) in
    let short : c.args.totals.is_short ≡ true = search rules in
    let run : IsModelRun c.args.plan.now.model 0 c.args.book.book.grants =
    subst (IsModelRun c.args.plan.now.model 0) (c.in_ok-grants.ensures.same ∙ all.0)
    (rw (sym c.model.ensures) c.in_ok-grants.ensures.run) in
    no_thread all.1 lent asked short run
