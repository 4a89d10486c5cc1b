use Rattle.std.proofs.Common.{◌≡◌, ◌<◌, ◌∙◌, None, Some, ap, length, arith}
use Rattle.bip_model.specs.Partitions.{class_in}
use Rattle.bip_ip.specs.Records.{members_of, place_among}
use Rattle.bip_ip.proofs.RecordLemmas.{members_known, own_place, place_within, read_at, records_by}
use Rattle.bip_ip.proofs.RecordLemmas.{spread_set}
use Rattle.bip_ip.proofs.records.Records.take.Goals as goal

pub returns-clause-left : goal.returns-clause-left
returns-clause-left c =
    let p = c.self.inside.plan.now in
    let k = c.self.inside.class.0 in
    let a = c.args.inter.0 in
    let place = c.place_of-place.result in
    let declared : a < length p.model.interactions = rw (← c.self.view_is) at c.requires.declared in
    let own : class_in p.classes a ≡ k = rw (← c.self.view_is) at c.requires.own in
    let here : place_among (members_of p k) a ≡ Some place =
    own_place p a place k c.recall.ensures.planned declared own c.place_of-place.ensures in
    let within : place < length c.self.inside.places.items =
    omega (arith, place_within (members_of p k) a place here, c.self.invariant) in
    rw (c.take.ensures.after, ← c.self.view_is)
    (ap (records_by p k) (spread_set (members_of p k) c.self.inside.places.items
    (length p.model.interactions) a place None declared within here))

pub returns-clause-taken : goal.returns-clause-taken
returns-clause-taken c =
    let p = c.self.inside.plan.now in
    let k = c.self.inside.class.0 in
    let a = c.args.inter.0 in
    let place = c.place_of-place.result in
    let declared : a < length p.model.interactions = rw (← c.self.view_is) at c.requires.declared in
    let own : class_in p.classes a ≡ k = rw (← c.self.view_is) at c.requires.own in
    let here : place_among (members_of p k) a ≡ Some place =
    own_place p a place k c.recall.ensures.planned declared own c.place_of-place.ensures in
    let within : place < length c.self.inside.places.items =
    omega (arith, place_within (members_of p k) a place here, c.self.invariant) in
    c.take.ensures.value
    ∙ rw (← c.self.view_is) (read_at (members_of p k) c.self.inside.places.items
    (length p.model.interactions) a place c.index_mut.result.now
    (members_known p k c.recall.ensures.planned) here within c.index_mut.ensures.value)
