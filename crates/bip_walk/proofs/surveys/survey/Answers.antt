use Rattle.std.proofs.Common.{◌<◌, ◌+◌, ◌^◌, ◌∙◌, [], ap, arith, length, rules, sym}
use Rattle.bip_model.specs.declared.parts.System.{System}
use Rattle.bip_walk.proofs.SurveyLemmas.{survey_counts, survey_none, survey_on, survey_seeds}
use Rattle.bip_walk.specs.Tallies.{tally_of}
use Rattle.bip_walk.proofs.surveys.survey.Goals as goal

pub loop-done-init : goal.loop-done-init
loop-done-init c =
    survey_none c.args.plan.now.model c.args.base c.args.count 1 c.none-tally.result
    (c.none-tally.ensures
    ∙ ap (λ (m : System). tally_of (length m.interactions) []) c.model.ensures)

pub join-requires-clause-same : goal.join-requires-clause-same
join-requires-clause-same c =
    survey_counts c.args.plan.now.model c.args.base c.args.count 1 c.loop-done.done
    c.loop-done.tally c.loop-done.invariant
    ∙ sym (survey_counts c.args.plan.now.model c.args.base c.args.count (c.loop-done.done + 1) 1
    c.in_ok-walked.walked c.in_ok-walked.ensures)

pub join-requires-clause-few : goal.join-requires-clause-few
join-requires-clause-few c =
    let so = survey_seeds c.args.plan.now.model c.args.base c.args.count 1 c.loop-done.done
    c.loop-done.tally c.loop-done.invariant in
    let one = survey_seeds c.args.plan.now.model c.args.base c.args.count (c.loop-done.done + 1) 1
    c.in_ok-walked.walked c.in_ok-walked.ensures in
    let small : c.args.seeds < 2 ^ 32 = search rules in
    omega (arith, so, one, small, c.loop-done-test.true)

pub loop-done-preserved : goal.loop-done-preserved
loop-done-preserved c =
    survey_on c.args.plan.now.model c.args.base c.args.count 1 c.loop-done.done
    (c.loop-done.done + 1) 1 c.loop-done.tally c.in_ok-walked.walked c.join.new.self
    c.loop-done.invariant c.in_ok-walked.ensures (omega arith) c.join.ensures.joins
