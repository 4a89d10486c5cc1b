use Rattle.std.proofs.Common.{◌≡◌, ℕ, List, Some, None, slice_get, sym, subst, ◌∙◌, rules}
use Rattle.std.specs.Prelude.{IfErr}
use Rattle.bip_model.specs.declared.messages.Request.{Request}
use Rattle.bip_partition.specs.Plans.{Planned}
use Rattle.bip_table.specs.Reservations.{KeptRows}
use Rattle.bip_bank.proofs.CentralLemmas.{no_station, served_starves, station_known}
use Rattle.bip_bank.specs.Banks.{CanDecide, WantsMemory, content_of}
use Rattle.bip_bank.specs.Sharing.{token_at}
use Rattle.bip_bank.specs.declared.banks.BankStep.TheVariants.{Serve}
use Rattle.bip_ring.proofs.RingLemmas.{Serves, no_such_station, ring_starves, serves_ring}
use Rattle.bip_ring.proofs.RingLemmas.{with_desk}
use Rattle.bip_ring.specs.declared.places.Place.{Place}
use Rattle.bip_ring.specs.Rings.{KeptRing, kept_ring, token_place}
use Rattle.bip_ring.proofs.rings.Ring.serve.Goals as goal

pub decide_first-requires : goal.decide_first-requires
decide_first-requires c =
    let at : slice_get c.stations.result.now c.args.station.0 ≡ Some c.in-Some.inter =
    sym c.interaction_at.ensures ∙ c.in-Some.is in
    station_known _ c.args.station.0 c.stations.result.now c.in-Some.inter c.self.invariant.desk
    c.recall.ensures.planned.valid c.stations.ensures at

-- the ring as it is inside
abbrev inside : Planned → ℕ → KeptRows → List (List Request) → Place → ℕ → KeptRing
inside plan base table waiting place count = record {
  desk = record { plan = plan; base = base; table = table; waiting = waiting };
  place = place;
  count = count;
}

pub invariant_of-self : goal.invariant_of-self
invariant_of-self c =
    let at : slice_get c.stations.result.now c.args.station.0 ≡ Some c.in-Some.inter =
    sym c.interaction_at.ensures ∙ c.in-Some.is in
    let within = station_known _ c.args.station.0 c.stations.result.now c.in-Some.inter
    c.self.invariant.desk c.recall.ensures.planned.valid c.stations.ensures at in
    let r = inside c.self.inside.plan.now c.self.inside.base c.self.inside.token.table
    c.self.inside.waiting.items c.self.inside.place c.self.inside.count in
    (serves_ring r c.args.station c.stations.result.now c.in-Some.inter c.decide_first.new.table
    c.decide_first.new.queues.items c.decide_first.result c.self.invariant
    (c.is_at.ensures.0 (search rules)) c.stations.ensures at within
    c.decide_first.ensures.decided c.decide_first.ensures.table
    c.decide_first.ensures.queues).valid

pub returns-in-Some : goal.returns-in-Some
returns-in-Some c =
    let at : slice_get c.stations.result.now c.args.station.0 ≡ Some c.in-Some.inter =
    sym c.interaction_at.ensures ∙ c.in-Some.is in
    let has : token_place c.self.inside.place ≡ token_at c.args.station.0 =
    c.is_at.ensures.0 (search rules) in
    let within = station_known _ c.args.station.0 c.stations.result.now c.in-Some.inter
    c.self.invariant.desk c.recall.ensures.planned.valid c.stations.ensures at in
    let r = inside c.self.inside.plan.now c.self.inside.base c.self.inside.token.table
    c.self.inside.waiting.items c.self.inside.place c.self.inside.count in
    let all = serves_ring r c.args.station c.stations.result.now c.in-Some.inter
    c.decide_first.new.table c.decide_first.new.queues.items c.decide_first.result
    c.self.invariant has c.stations.ensures at within c.decide_first.ensures.decided
    c.decide_first.ensures.table c.decide_first.ensures.queues in
    let kept = subst (λ (k : KeptRing). Serves k c.args.station (with_desk r
    c.decide_first.new.table c.decide_first.new.queues.items) c.decide_first.result)
    c.self.view_is all in
    let starves = ring_starves r c.args.station c.decide_first.result has
    (served_starves _ c.args.station c.stations.result.now c.in-Some.inter c.decide_first.result
    c.self.invariant.desk c.stations.ensures at c.decide_first.ensures.memory) in
    record {
      does = kept.does;
      acted = kept.acted;
      serial = kept.serial;
      wants = subst (λ (k : KeptRing). IfErr c.decide_first.result
          (λ e. WantsMemory (content_of (kept_ring k)) (Serve c.args.station)))
          c.self.view_is starves;
      err = kept.same;
    }

pub returns-in-None-clause-does : goal.returns-in-None-clause-does
returns-in-None-clause-does c =
    let at : slice_get c.stations.result.now c.args.station.0 ≡ None =
    sym c.interaction_at.ensures ∙ c.in-None.is in
    let r = inside c.self.inside.plan.now c.self.inside.base c.self.inside.token.table
    c.self.inside.waiting.items c.self.inside.place c.self.inside.count in
    subst (λ (k : KeptRing). CanDecide (content_of (kept_ring k)) c.args.station.0 → ⊥)
    c.self.view_is (no_such_station r c.args.station.0 c.stations.result.now
    (no_station r.desk c.args.station c.stations.result.now c.stations.ensures at))
