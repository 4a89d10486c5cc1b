-- Runs of events keep the plan.
use Rattle.std.proofs.Common.{◌≡◌, ◌∙◌, [], ◌∷◌, None, Some, refl, subst, sym}
use Rattle.bip_core.specs.Laws.{KeepsThePlan, WorldsKeepTheirPlan}
use Rattle.bip_core.specs.Worlds.{WorldContent}
use Rattle.bip_core.proofs.StayLemmas.{step_stays}

keeps_itself : (w v : WorldContent) → v ≡ w → KeepsThePlan w v
keeps_itself w v same =
    subst (KeepsThePlan w) (sym same) (record { plan = refl; base = refl; nodes = λ are. are })

pub worlds_keep_their_plan : WorldsKeepTheirPlan
worlds_keep_their_plan w v [] [] so = keeps_itself w v so
worlds_keep_their_plan w v [] (d ∷ ds) so = absurd so
worlds_keep_their_plan w v (e ∷ es) [] so = absurd so
worlds_keep_their_plan w v (e ∷ es) (Some d ∷ ds) so =
    let one = step_stays w so.0 e d so.1 in
    let rest = worlds_keep_their_plan so.0 v es ds so.2 in
    record {
      plan = rest.plan ∙ one.plan;
      base = rest.base ∙ one.base;
      nodes = λ are. rest.nodes (one.nodes are);
    }
worlds_keep_their_plan w v (e ∷ es) (None ∷ ds) so = worlds_keep_their_plan w v es ds so.1
