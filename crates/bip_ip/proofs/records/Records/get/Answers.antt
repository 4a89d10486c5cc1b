use Rattle.std.proofs.Common.{◌≡◌, ◌<◌, ◌∙◌, None, Some, length, sym, arith}
use Rattle.bip_ip.specs.Records.{members_of, place_among}
use Rattle.bip_ip.proofs.RecordLemmas.{members_known, place_within, read_at, read_none}
use Rattle.bip_ip.proofs.records.Records.get.Goals as goal

pub returns-in_default : goal.returns-in_default
returns-in_default c =
    let p = c.self.inside.plan.now in
    let k = c.self.inside.class.0 in
    let none : place_among (members_of p k) c.args.inter.0 ≡ None =
    rw (← c.self.view_is) at (sym c.in_default.ensures) in
    rw (← c.self.view_is) (read_none (members_of p k) c.self.inside.places.items
    (length p.model.interactions) c.args.inter.0
    (members_known p k c.recall.ensures.planned) none)

pub returns : goal.returns
returns c =
    let p = c.self.inside.plan.now in
    let k = c.self.inside.class.0 in
    let here : place_among (members_of p k) c.args.inter.0 ≡ Some c.in-Some.place =
    rw (← c.self.view_is) at (sym c.in-Some.ensures) in
    let within : c.in-Some.place < length c.self.inside.places.items =
    omega (
      arith,
      place_within (members_of p k) c.args.inter.0 c.in-Some.place here,
      c.self.invariant,
    ) in
    c.as_ref.ensures.value
    ∙ rw (← c.self.view_is) (read_at (members_of p k) c.self.inside.places.items
    (length p.model.interactions) c.args.inter.0 c.in-Some.place c.index.result.now
    (members_known p k c.recall.ensures.planned) here within c.index.ensures)
