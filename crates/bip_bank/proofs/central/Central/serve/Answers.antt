use Rattle.std.proofs.Common.{◌≡◌, ◌<◌, Some, None, slice_get, length, sym, subst, ◌∙◌}
use Rattle.std.specs.Prelude.{IfErr, IfOk}
use Rattle.bip_bank.proofs.CentralLemmas.{no_station, station_known, served_leaves, served_starves}
use Rattle.bip_bank.proofs.CentralLemmas.{served_steps}
use Rattle.bip_bank.specs.Banks.{CanDecide, DoesStep, HasNextSerial, IsActed, WantsMemory}
use Rattle.bip_bank.specs.Banks.{content_of}
use Rattle.bip_bank.specs.Central.{KeptCentral, kept_central}
use Rattle.bip_bank.specs.declared.banks.BankStep.TheVariants.{Serve}
use Rattle.bip_bank.proofs.central.Central.serve.Goals as goal

pub decide_first-requires : goal.decide_first-requires
decide_first-requires c =
    let at : slice_get c.stations.result.now c.args.station.0 ≡ Some c.in-Some.inter =
    sym c.interaction_at.ensures ∙ c.in-Some.is in
    station_known _ c.args.station.0 c.stations.result.now c.in-Some.inter c.self.invariant
    c.recall.ensures.planned.valid c.stations.ensures at

pub invariant_of-self : goal.invariant_of-self
invariant_of-self c =
    let at : slice_get c.stations.result.now c.args.station.0 ≡ Some c.in-Some.inter =
    sym c.interaction_at.ensures ∙ c.in-Some.is in
    let within : c.in-Some.inter.0 < length c.self.inside.waiting.items =
    station_known _ c.args.station.0 c.stations.result.now c.in-Some.inter c.self.invariant
    c.recall.ensures.planned.valid c.stations.ensures at in
    (served_leaves _ c.in-Some.inter.0 c.decide_first.new.table c.decide_first.new.queues.items
    c.decide_first.result c.self.invariant within c.decide_first.ensures.decided
    c.decide_first.ensures.table c.decide_first.ensures.queues).0

pub returns-in-Some-clause-acted : goal.returns-in-Some-clause-acted
returns-in-Some-clause-acted c =
    let at : slice_get c.stations.result.now c.args.station.0 ≡ Some c.in-Some.inter =
    sym c.interaction_at.ensures ∙ c.in-Some.is in
    let within : c.in-Some.inter.0 < length c.self.inside.waiting.items =
    station_known _ c.args.station.0 c.stations.result.now c.in-Some.inter c.self.invariant
    c.recall.ensures.planned.valid c.stations.ensures at in
    subst (λ (k : KeptCentral). IfOk c.decide_first.result
    (λ did. IsActed did (content_of (kept_central k))
    (content_of (kept_central (record {
      plan = c.self.inside.plan.now;
      base = c.self.inside.base;
      table = c.decide_first.new.table;
      waiting =
          c.decide_first.new.queues.items;
    }))))) c.self.view_is
    (served_leaves _ c.in-Some.inter.0 c.decide_first.new.table c.decide_first.new.queues.items
    c.decide_first.result c.self.invariant within c.decide_first.ensures.decided
    c.decide_first.ensures.table c.decide_first.ensures.queues).1

pub returns-in-Some-clause-does : goal.returns-in-Some-clause-does
returns-in-Some-clause-does c =
    let at : slice_get c.stations.result.now c.args.station.0 ≡ Some c.in-Some.inter =
    sym c.interaction_at.ensures ∙ c.in-Some.is in
    let b = content_of (kept_central (record {
      plan = c.self.inside.plan.now;
      base = c.self.inside.base;
      table = c.decide_first.new.table;
      waiting =
          c.decide_first.new.queues.items;
    })) in
    subst (λ (k : KeptCentral). IfOk c.decide_first.result
    (λ did. DoesStep (content_of (kept_central k)) (Serve c.args.station) did b)) c.self.view_is
    (served_steps _ c.args.station c.stations.result.now c.in-Some.inter c.decide_first.new.table
    c.decide_first.new.queues.items c.decide_first.result b c.self.invariant c.stations.ensures
    at c.decide_first.ensures.decided).0

pub returns-in-Some-clause-serial : goal.returns-in-Some-clause-serial
returns-in-Some-clause-serial c =
    let at : slice_get c.stations.result.now c.args.station.0 ≡ Some c.in-Some.inter =
    sym c.interaction_at.ensures ∙ c.in-Some.is in
    subst (λ (k : KeptCentral). IfOk c.decide_first.result
    (HasNextSerial (content_of (kept_central k)))) c.self.view_is
    (served_steps _ c.args.station c.stations.result.now c.in-Some.inter c.decide_first.new.table
    c.decide_first.new.queues.items c.decide_first.result
    (content_of (kept_central c.args.self.now)) c.self.invariant c.stations.ensures at
    c.decide_first.ensures.decided).1

pub returns-in-None-clause-does : goal.returns-in-None-clause-does
returns-in-None-clause-does c =
    let at : slice_get c.stations.result.now c.args.station.0 ≡ None = sym c.interaction_at.ensures
    ∙ c.in-None.is in
    subst (λ (k : KeptCentral). ¬ CanDecide (content_of (kept_central k)) c.args.station.0)
    c.self.view_is (no_station (record {
      plan = c.self.inside.plan.now;
      base = c.self.inside.base;
      table = c.self.inside.table;
      waiting =
          c.self.inside.waiting.items;
    }) c.args.station c.stations.result.now c.stations.ensures at)

pub returns-in-Some-clause-wants : goal.returns-in-Some-clause-wants
returns-in-Some-clause-wants c =
    let at : slice_get c.stations.result.now c.args.station.0 ≡ Some c.in-Some.inter =
    sym c.interaction_at.ensures ∙ c.in-Some.is in
    subst (λ (k : KeptCentral). IfErr c.decide_first.result
    (λ e. WantsMemory (content_of (kept_central k)) (Serve c.args.station))) c.self.view_is
    (served_starves _ c.args.station c.stations.result.now c.in-Some.inter c.decide_first.result
    c.self.invariant c.stations.ensures at c.decide_first.ensures.memory)
