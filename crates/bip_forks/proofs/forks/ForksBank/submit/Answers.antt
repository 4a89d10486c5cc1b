use Rattle.std.proofs.Common.{◌≡◌, ◌<◌, ℕ, List, length, set, sym, subst}
use Rattle.std.specs.Prelude.{OnErr, OnOk}
use Rattle.bip_partition.specs.Plans.{IsFit}
use Rattle.bip_bank.specs.Banks.{content_of, with_request}
use Rattle.bip_forks.proofs.ActLemmas.{has_place, submitted_is, submitted_kept, submitted_machine}
use Rattle.bip_forks.proofs.ActLemmas.{submitted_same, submitted_stays}
use Rattle.bip_forks.specs.Kept.{KeptForks, kept_forks, machine_of, station_at}
use Rattle.bip_forks.specs.Machines.{waiting_for}
use Rattle.bip_forks.specs.Stations.{KeptStation}
use Rattle.bip_forks.proofs.forks.ForksBank.submit.Goals as goal

pub unreachable-requires : goal.unreachable-requires
unreachable-requires c =
    let k : KeptForks = record {
      plan = c.self.inside.plan.now;
      base = c.self.inside.base;
      parts = record {
        stations = c.self.inside.stations.items;
        flight = c.self.inside.flight.items;
        grants = c.self.inside.grants.items;
      };
    } in
    let fit = subst (λ (j : KeptForks). IsFit j.plan c.args.request)
    (sym c.self.view_is) c.requires in
    has_place k c.args.request c.self.invariant fit
    (subst (λ (xs : List KeptStation). (s : ℕ) → s < length xs
    → (station_at xs s).inter.0 ≡ c.args.request.inter.0 → ⊥) c.deref.ensures.value
    c.in_default.ensures.none)

pub invariant_of-self : goal.invariant_of-self
invariant_of-self c =
    let k : KeptForks = record {
      plan = c.self.inside.plan.now;
      base = c.self.inside.base;
      parts = record {
        stations = c.self.inside.stations.items;
        flight = c.self.inside.flight.items;
        grants = c.self.inside.grants.items;
      };
    } in
    let fit = subst (λ (j : KeptForks). IsFit j.plan c.args.request)
    (sym c.self.view_is) c.requires in
    let place : (c.in-Some.place < length c.self.inside.stations.items)
    × ((station_at c.self.inside.stations.items c.in-Some.place).inter.0
    ≡ c.args.request.inter.0) = subst (λ (xs : List KeptStation). (c.in-Some.place < length xs)
    × ((station_at xs c.in-Some.place).inter.0 ≡ c.args.request.inter.0)) c.deref.ensures.value
    c.in-Some.ensures.some in
    submitted_kept k c.in-Some.place c.args.request c.index_mut.result.now c.submit.new.self
    c.submit.result c.self.invariant fit place.0 place.1 c.index_mut.ensures.value
    c.submit.ensures.ok c.submit.ensures.err

pub returns-clause-ok : goal.returns-clause-ok
returns-clause-ok c =
    let k : KeptForks = record {
      plan = c.self.inside.plan.now;
      base = c.self.inside.base;
      parts = record {
        stations = c.self.inside.stations.items;
        flight = c.self.inside.flight.items;
        grants = c.self.inside.grants.items;
      };
    } in
    let fit = subst (λ (j : KeptForks). IsFit j.plan c.args.request)
    (sym c.self.view_is) c.requires in
    let place : (c.in-Some.place < length c.self.inside.stations.items)
    × ((station_at c.self.inside.stations.items c.in-Some.place).inter.0
    ≡ c.args.request.inter.0) = subst (λ (xs : List KeptStation). (c.in-Some.place < length xs)
    × ((station_at xs c.in-Some.place).inter.0 ≡ c.args.request.inter.0)) c.deref.ensures.value
    c.in-Some.ensures.some in
    subst (λ (j : KeptForks). OnOk c.submit.result
    (content_of (kept_forks (record k {
      parts = record {
        stations = set c.self.inside.stations.items c.in-Some.place c.submit.new.self;
        flight =
            c.self.inside.flight.items;
        grants = c.self.inside.grants.items;
      };
    }))
    ≡ with_request c.args.request (content_of (kept_forks j)))) c.self.view_is
    (submitted_is k c.in-Some.place c.args.request c.index_mut.result.now c.submit.new.self
    c.submit.result c.self.invariant fit place.0 place.1 c.index_mut.ensures.value
    c.submit.ensures.ok)

pub returns-clause-err : goal.returns-clause-err
returns-clause-err c =
    let k : KeptForks = record {
      plan = c.self.inside.plan.now;
      base = c.self.inside.base;
      parts = record {
        stations = c.self.inside.stations.items;
        flight = c.self.inside.flight.items;
        grants = c.self.inside.grants.items;
      };
    } in
    let within : c.in-Some.place < length c.self.inside.stations.items =
    subst (λ (xs : List KeptStation). c.in-Some.place < length xs) c.deref.ensures.value
    c.in-Some.ensures.some.0 in
    subst (λ (j : KeptForks). OnErr c.submit.result
    (content_of (kept_forks (record k {
      parts = record {
        stations = set c.self.inside.stations.items c.in-Some.place c.submit.new.self;
        flight =
            c.self.inside.flight.items;
        grants = c.self.inside.grants.items;
      };
    })) ≡ content_of
    (kept_forks j))) c.self.view_is
    (submitted_stays k c.in-Some.place c.index_mut.result.now c.submit.new.self c.submit.result
    within c.index_mut.ensures.value c.submit.ensures.err)

pub returns-clause-machine : goal.returns-clause-machine
returns-clause-machine c =
    let k : KeptForks = record {
      plan = c.self.inside.plan.now;
      base = c.self.inside.base;
      parts = record {
        stations = c.self.inside.stations.items;
        flight = c.self.inside.flight.items;
        grants = c.self.inside.grants.items;
      };
    } in
    let fit = subst (λ (j : KeptForks). IsFit j.plan c.args.request)
    (sym c.self.view_is) c.requires in
    let place : (c.in-Some.place < length c.self.inside.stations.items)
    × ((station_at c.self.inside.stations.items c.in-Some.place).inter.0
    ≡ c.args.request.inter.0) = subst (λ (xs : List KeptStation). (c.in-Some.place < length xs)
    × ((station_at xs c.in-Some.place).inter.0 ≡ c.args.request.inter.0)) c.deref.ensures.value
    c.in-Some.ensures.some in
    subst (λ (j : KeptForks). OnOk c.submit.result
    (machine_of (record k {
      parts = record {
        stations = set c.self.inside.stations.items c.in-Some.place c.submit.new.self;
        flight =
            c.self.inside.flight.items;
        grants = c.self.inside.grants.items;
      };
    })
    ≡ waiting_for c.args.request (machine_of j))) c.self.view_is
    (submitted_machine k c.in-Some.place c.args.request c.index_mut.result.now c.submit.new.self
    c.submit.result c.self.invariant fit place.0 place.1 c.index_mut.ensures.value
    c.submit.ensures.ok)

pub returns-clause-same : goal.returns-clause-same
returns-clause-same c =
    let k : KeptForks = record {
      plan = c.self.inside.plan.now;
      base = c.self.inside.base;
      parts = record {
        stations = c.self.inside.stations.items;
        flight = c.self.inside.flight.items;
        grants = c.self.inside.grants.items;
      };
    } in
    let within : c.in-Some.place < length c.self.inside.stations.items =
    subst (λ (xs : List KeptStation). c.in-Some.place < length xs) c.deref.ensures.value
    c.in-Some.ensures.some.0 in
    subst (λ (j : KeptForks). OnErr c.submit.result
    ((record k {
      parts = record {
        stations = set c.self.inside.stations.items c.in-Some.place c.submit.new.self;
        flight =
            c.self.inside.flight.items;
        grants = c.self.inside.grants.items;
      };
    }) ≡ j)) c.self.view_is
    (submitted_same k c.in-Some.place c.index_mut.result.now c.submit.new.self c.submit.result
    within c.index_mut.ensures.value c.submit.ensures.err)
