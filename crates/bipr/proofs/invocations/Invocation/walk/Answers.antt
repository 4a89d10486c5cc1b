use Rattle.std.proofs.Common.{◌∙◌, [], refl, sym}
use Rattle.bipr.specs.Commands.{AreWalksWritten, clear, unclear}
use Rattle.bipr.proofs.EndingLemmas.{outcome_answered, outcomes_quiet, outcomes_weaker}
use Rattle.bipr.proofs.invocations.Invocation.walk.Goals as goal

pub returns-in-Some-clause-says : goal.returns-in-Some-clause-says
returns-in-Some-clause-says g c =
    outcomes_weaker g.E.Stream.writes _ _ c.walk_so.result _ _ c.walk_so.ensures.says
    (λ told answer is. clear c.in-Some.walks told answer (sym c.walks_of.ensures ∙ c.in-Some.is) is)

pub returns-in-None-clause-says : goal.returns-in-None-clause-says
returns-in-None-clause-says g c =
    let is = AreWalksWritten (g.I.Inputs.gives c.args.self.now.inputs.now) c.args.asked.now in
    outcomes_quiet g.E.Stream.writes _ _ _ is refl
    (outcome_answered (is []) _ (unclear (sym c.walks_of.ensures ∙ c.in-None.is)))
