use Rattle.bip_explain.proofs.plans.explain_plan.Goals as goal

pub returns-clause-told : goal.returns-clause-told
returns-clause-told c = λ wanted there. (
  c.looks.result.now,
  c.looks.ensures.looks,
  cc (c.participants.ensures.participants),
)
