use Rattle.std.proofs.Common.{◌+◌, ◌∙◌, [], ap, arith, length, sym}
use Rattle.bip_model.specs.declared.parts.System.{System}
use Rattle.bip_schedule.specs.Exploring.{seed_figures}
use Rattle.bipr.proofs.AheadLemmas.{explored_counts, more_explored, none_explored, one_explored}
use Rattle.bipr.proofs.ahead.explore_block.Goals as goal

pub loop-done-init : goal.loop-done-init
loop-done-init c =
    none_explored c.args.plan.now c.args.asked.now c.args.from c.none-block.result
    (c.none-block.ensures
    ∙ ap (λ (m : System). seed_figures (length m.interactions) []) c.model.ensures)

pub join-requires-clause-same : goal.join-requires-clause-same
join-requires-clause-same c =
    let p = c.args.plan.now in
    let asked = c.args.asked.now in
    let at = c.args.from + c.loop-done.done in
    explored_counts p asked c.args.from c.loop-done.block c.loop-done.invariant.0
    ∙ sym (explored_counts p asked at c.in-Ok.checked
    (one_explored p asked at c.in-Ok.checked c.in-Ok.ensures.explored).0)

pub join-requires-clause-few : goal.join-requires-clause-few
join-requires-clause-few c =
    let one = one_explored c.args.plan.now c.args.asked.now (c.args.from + c.loop-done.done)
    c.in-Ok.checked c.in-Ok.ensures.explored in
    omega (arith, one.1, c.loop-done.invariant.1, c.loop-done-test.true, c.requires)

pub loop-done-preserved : goal.loop-done-preserved
loop-done-preserved c =
    let p = c.args.plan.now in
    let asked = c.args.asked.now in
    let at = c.args.from + c.loop-done.done in
    let so = c.loop-done.invariant in
    let one = one_explored p asked at c.in-Ok.checked c.in-Ok.ensures.explored in
    let more = more_explored p asked c.args.from at c.loop-done.block c.in-Ok.checked
    c.join.new.self so.0 one.0 (omega (arith, so.1)) c.join.ensures in
    (more.0, omega (arith, more.1, so.1, one.1))
