use Rattle.bip_observe.proofs.DecideLemmas.{counts_held}
use Rattle.bip_observe.specs.Offers.{observed}
use Rattle.bip_model.specs.Steps.{participants_of}
use Rattle.bip_observe.proofs.offers.Offers.guard_holds.Goals as goal

pub guard-requires-clause-values : goal.guard-requires-clause-values
guard-requires-clause-values c =
    rw (
      c.values_of-values.ensures.values,
      c.participants-participants.ensures.participants,
      c.model-model.ensures,
      c.plan.ensures.plan,
    )
    (counts_held (observed c.args.self.now) (participants_of c.args.self.now.plan.model
    c.args.inter.0) c.plan.ensures.own c.requires.counted)
