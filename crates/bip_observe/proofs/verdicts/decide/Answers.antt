use Rattle.std.proofs.Common.{◌≡◌, ◌∙◌, ap, inl, inr, length, sym}
use Rattle.bip_model.specs.Parts.{IsSystem}
use Rattle.bip_model.proofs.AboveLemmas.{HasAbove-high}
use Rattle.bip_model.proofs.PartyLemmas.{above_declared}
use Rattle.bip_partition.specs.Plans.{Planned}
use Rattle.bip_observe.proofs.DecideLemmas.{missing_found, none_missing, none_off, off_found}
use Rattle.bip_observe.proofs.DecideLemmas.{open_found, own_judged, ready_found}
use Rattle.bip_observe.specs.Offers.{observed}
use Rattle.bip_observe.specs.Verdicts.{ArePortsOn, Enable, offers_of}
use Rattle.bip_observe.proofs.verdicts.decide.Goals as goal

pub returns-in-Some : goal.returns-in-Some
returns-in-Some c =
    let v = observed c.args.offers.now in
    let same : c.model-model.result.now ≡ v.plan.model = c.model-model.ensures
    ∙ ap (λ (p : Planned). p.model) (sym c.requires.of_plan) in
    inl (missing_found v c.args.inter.0 c.in-Some.comp
    (rw same at c.participants-participants.ensures.valid)
    (rw (c.participants-participants.ensures.participants, same) at
    (sym c.in-Some.is ∙ c.first_missing.ensures)))

pub returns-in-Some-first_off : goal.returns-in-Some-first_off
returns-in-Some-first_off c =
    let v = observed c.args.offers.now in
    let a = c.args.inter.0 in
    let same : c.model-model.result.now ≡ v.plan.model = c.model-model.ensures
    ∙ ap (λ (p : Planned). p.model) (sym c.requires.of_plan) in
    let all = none_missing v a (rw (c.participants-participants.ensures.participants, same) at
    (sym c.in_default.is ∙ c.first_missing.ensures)) in
    off_found v a c.in-Some-first_off.comp (rw same at c.participants-participants.ensures.valid)
    all (rw (c.participants-participants.ensures.participants, same) at
    (sym c.in-Some-first_off.is ∙ c.first_off.ensures))

pub guard_holds-requires : goal.guard_holds-requires
guard_holds-requires c =
    let v = observed c.args.offers.now in
    let a = c.args.inter.0 in
    let same : c.model-model.result.now ≡ v.plan.model = c.model-model.ensures
    ∙ ap (λ (p : Planned). p.model) (sym c.requires.of_plan) in
    let all = none_missing v a (rw (c.participants-participants.ensures.participants, same) at
    (sym c.in_default.is ∙ c.first_missing.ensures)) in
    own_judged v a (rw c.requires.of_plan c.requires.declared) all

pub returns-then-not-guard_holds : goal.returns-then-not-guard_holds
returns-then-not-guard_holds c =
    let v = observed c.args.offers.now in
    let a = c.args.inter.0 in
    let same : c.model-model.result.now ≡ v.plan.model = c.model-model.ensures
    ∙ ap (λ (p : Planned). p.model) (sym c.requires.of_plan) in
    let all = none_missing v a (rw (c.participants-participants.ensures.participants, same) at
    (sym c.in_default.is ∙ c.first_missing.ensures)) in
    let on : ArePortsOn v.plan.model (offers_of v) a =
    none_off v.plan.model (offers_of v) a
    (rw (c.participants-participants.ensures.participants, same) at
    (sym c.in_default-first_off.is ∙ c.first_off.ensures)) in
    (all, on, sym c.guard_holds.ensures ∙ c.if-not-guard_holds.true)

pub first_open-requires : goal.first_open-requires
first_open-requires c =
    let v = observed c.args.offers.now in
    let same : c.model-model.result.now ≡ v.plan.model = c.model-model.ensures
    ∙ ap (λ (p : Planned). p.model) (sym c.requires.of_plan) in
    above_declared v.plan.model c.args.inter.0 c.above.result.now (rw same at c.above.ensures.valid)
    (rw same at c.above.ensures.above)

pub returns-in_default-first_open : goal.returns-in_default-first_open
returns-in_default-first_open c =
    let v = observed c.args.offers.now in
    let a = c.args.inter.0 in
    let same : c.model-model.result.now ≡ v.plan.model = c.model-model.ensures
    ∙ ap (λ (p : Planned). p.model) (sym c.requires.of_plan) in
    let all = none_missing v a (rw (c.participants-participants.ensures.participants, same) at
    (sym c.in_default.is ∙ c.first_missing.ensures)) in
    let on : ArePortsOn v.plan.model (offers_of v) a =
    none_off v.plan.model (offers_of v) a
    (rw (c.participants-participants.ensures.participants, same) at
    (sym c.in_default-first_off.is ∙ c.first_off.ensures)) in
    let enable : Enable v.plan.model (offers_of v) a =
    record { ports = on; guard = sym c.guard_holds.ensures ∙ c.if-not-guard_holds.false } in
    ready_found v a c.above.result.now c.recall.ensures.own
    (rw c.requires.of_plan c.requires.declared) (rw same at c.above.ensures.above) all enable
    (sym c.in_default-first_open.is ∙ c.first_open.ensures)

pub participants-requires : goal.participants-requires
participants-requires c =
    let v = observed c.args.offers.now in
    let a = c.args.inter.0 in
    let b = c.in-Some-first_open.higher in
    let same : c.model-model.result.now ≡ v.plan.model = c.model-model.ensures
    ∙ ap (λ (p : Planned). p.model) (sym c.requires.of_plan) in
    let valid : IsSystem v.plan.model = rw same at c.above.ensures.valid in
    let open_ = open_found v a c.above.result.now b (rw same at c.above.ensures.above)
    (sym c.in-Some-first_open.is ∙ c.first_open.ensures) in
    rw same (HasAbove-high (length v.plan.model.interactions) v.plan.model.priorities a b.0
    valid.so_far.priorities open_.here.0)

pub returns-in-Some-first_missing : goal.returns-in-Some-first_missing
returns-in-Some-first_missing c =
    let v = observed c.args.offers.now in
    let a = c.args.inter.0 in
    let b = c.in-Some-first_open.higher in
    let same : c.model-model.result.now ≡ v.plan.model = c.model-model.ensures
    ∙ ap (λ (p : Planned). p.model) (sym c.requires.of_plan) in
    let all = none_missing v a (rw (c.participants-participants.ensures.participants, same) at
    (sym c.in_default.is ∙ c.first_missing.ensures)) in
    let on : ArePortsOn v.plan.model (offers_of v) a =
    none_off v.plan.model (offers_of v) a
    (rw (c.participants-participants.ensures.participants, same) at
    (sym c.in_default-first_off.is ∙ c.first_off.ensures)) in
    let enable : Enable v.plan.model (offers_of v) a =
    record { ports = on; guard = sym c.guard_holds.ensures ∙ c.if-not-guard_holds.false } in
    let open_ = open_found v a c.above.result.now b (rw same at c.above.ensures.above)
    (sym c.in-Some-first_open.is ∙ c.first_open.ensures) in
    let missing = missing_found v b.0 c.in-Some-first_missing.comp
    (rw same at c.above.ensures.valid) (rw (c.participants.ensures.participants, same) at
    (sym c.in-Some-first_missing.is ∙ c.first_missing-2.ensures)) in
    inr (record { counted = all; enabled = enable; inter = b.0; open_ = open_; missing = missing })

pub returns-in-None : goal.returns-in-None
returns-in-None c =
    let v = observed c.args.offers.now in
    let a = c.args.inter.0 in
    let b = c.in-Some-first_open.higher in
    let same : c.model-model.result.now ≡ v.plan.model = c.model-model.ensures
    ∙ ap (λ (p : Planned). p.model) (sym c.requires.of_plan) in
    let all = none_missing v a (rw (c.participants-participants.ensures.participants, same) at
    (sym c.in_default.is ∙ c.first_missing.ensures)) in
    let on : ArePortsOn v.plan.model (offers_of v) a =
    none_off v.plan.model (offers_of v) a
    (rw (c.participants-participants.ensures.participants, same) at
    (sym c.in_default-first_off.is ∙ c.first_off.ensures)) in
    let enable : Enable v.plan.model (offers_of v) a =
    record { ports = on; guard = sym c.guard_holds.ensures ∙ c.if-not-guard_holds.false } in
    let open_ = open_found v a c.above.result.now b (rw same at c.above.ensures.above)
    (sym c.in-Some-first_open.is ∙ c.first_open.ensures) in (
      all,
      enable,
      open_,
      none_missing v b.0 (rw (c.participants.ensures.participants, same) at
          (sym c.in-None.is ∙ c.first_missing-2.ensures)),
    )
