use Rattle.bip_walk.specs.Surveys.{IsSurvey}
use Rattle.bip_walk.proofs.surveys.survey.Given as goal

abbrev pub invariant-loop-done : goal.invariant-loop-done
invariant-loop-done l = IsSurvey l.plan.model l.base l.count 1 l.done l.tally
