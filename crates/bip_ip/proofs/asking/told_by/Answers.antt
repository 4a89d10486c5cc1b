use Rattle.std.proofs.Common.{◌≡◌, ◌<◌, ◌∙◌, ap, length, arith}
use Rattle.bip_partition.specs.Plans.{Planned}
use Rattle.bip_model.specs.Steps.{participants_of}
use Rattle.bip_observe.specs.Offers.{observed}
use Rattle.bip_observe.proofs.DecideLemmas.{counts_held, few_participants, own_judged}
use Rattle.bip_ip.proofs.AskingLemmas.{some_participant}
use Rattle.bip_ip.proofs.asking.told_by.Goals as goal

pub shared_whole_as_front-tell : goal.shared_whole_as_front-tell
shared_whole_as_front-tell c =
    let same : c.model-model.result.now ≡ c.args.offers.now.plan.model = c.model-model.ensures
    ∙ ap (λ (p : Planned). p.model) c.plan.ensures.plan in
    let declared : c.args.inter.0 < length c.model-model.result.now.interactions =
    rw same c.requires.declared in (
      rw c.participants-participants.ensures.participants (few_participants c.model-model.result.now
          c.args.inter.0 c.participants-participants.ensures.valid declared),
      omega arith,
    )

pub tell-requires-clause-some : goal.tell-requires-clause-some
tell-requires-clause-some c =
    let same : c.model-model.result.now ≡ c.args.offers.now.plan.model = c.model-model.ensures
    ∙ ap (λ (p : Planned). p.model) c.plan.ensures.plan in
    let declared : c.args.inter.0 < length c.model-model.result.now.interactions =
    rw same c.requires.declared in
    rw c.participants-participants.ensures.participants
    (some_participant c.model-model.result.now c.args.inter.0
    c.participants-participants.ensures.valid declared)

pub transfer-requires-clause-values : goal.transfer-requires-clause-values
transfer-requires-clause-values c =
    let v = observed c.args.offers.now in
    let a = c.args.inter.0 in
    rw (
      c.values_of-values.ensures.values,
      c.participants-participants.ensures.participants,
      c.model-model.ensures,
      c.plan.ensures.plan,
    )
    (counts_held v (participants_of v.plan.model a) c.plan.ensures.own
    (own_judged v a c.requires.declared c.requires.counted).counted)
