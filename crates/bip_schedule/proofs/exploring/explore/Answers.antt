use Rattle.std.proofs.Common.{◌<◌, ◌^◌, ◌+◌, ◌∙◌, [], ap, arith, length, rules, sym}
use Rattle.bip_model.specs.declared.parts.System.{System}
use Rattle.bip_schedule.proofs.FigureLemmas.{figures_counts, figures_none, figures_on}
use Rattle.bip_schedule.proofs.FigureLemmas.{figures_seeds}
use Rattle.bip_schedule.specs.Exploring.{seed_figures}
use Rattle.bip_schedule.proofs.exploring.explore.Goals as goal

pub loop-done-init : goal.loop-done-init
loop-done-init g c =
    figures_none _ c.args.plan.now c.args.base c.args.draws 1 c.none-all.result
    (c.none-all.ensures
    ∙ ap (λ (m : System). seed_figures (length m.interactions) []) c.model.ensures)

pub join-requires-clause-same : goal.join-requires-clause-same
join-requires-clause-same g c =
    figures_counts _ c.args.plan.now c.args.base c.args.draws 1 c.loop-done.done c.loop-done.all
    c.loop-done.invariant
    ∙ sym (figures_counts _ c.args.plan.now c.args.base c.args.draws (c.loop-done.done + 1) 1
    c.in_ok-checked.checked c.in_ok-checked.ensures.explored)

pub join-requires-clause-few : goal.join-requires-clause-few
join-requires-clause-few g c =
    let so = figures_seeds _ c.args.plan.now c.args.base c.args.draws 1 c.loop-done.done
    c.loop-done.all c.loop-done.invariant in
    let one = figures_seeds _ c.args.plan.now c.args.base c.args.draws (c.loop-done.done + 1) 1
    c.in_ok-checked.checked c.in_ok-checked.ensures.explored in
    let small : c.args.seeds < 2 ^ 32 = search rules in
    omega (arith, so, one, small, c.loop-done-test.true)

pub loop-done-preserved : goal.loop-done-preserved
loop-done-preserved g c =
    figures_on _ c.args.plan.now c.args.base c.args.draws 1 c.loop-done.done (c.loop-done.done + 1)
    1 c.loop-done.all c.in_ok-checked.checked c.join.new.self c.loop-done.invariant
    c.in_ok-checked.ensures.explored (omega arith) c.join.ensures
