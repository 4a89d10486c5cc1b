use Rattle.std.proofs.Common.{◌≡◌, ◌∙◌, List, ap, arith, length, sym}
use Rattle.bip_bank.proofs.StationLemmas.{few_stations}
use Rattle.bip_model.specs.declared.numbering.InterId.{InterId}
use Rattle.bip_partition.proofs.TableLemmas.{one_stations}
use Rattle.bip_ring.proofs.RingLemmas.{rests_idle}
use Rattle.bip_ring.proofs.rings.RingBank.idle_until.Goals as goal

pub idle_until-requires : goal.idle_until-requires
idle_until-requires c =
    let few = few_stations c.self.inside.plan.now c.self.invariant.stations c.recall.ensures.valid
    c.self.invariant.listed in
    record { few = omega (arith, few, c.self.invariant.counted) }

pub returns-clause-idle : goal.returns-clause-idle
returns-clause-idle c = λ list listed i low high.
    let all : length list ≡ c.args.self.now.count =
    rw (← c.self.view_is) (
    ap (λ (xs : List InterId). length xs) (one_stations c.args.self.now.desk.plan list
    c.self.invariant.stations listed (rw (← c.self.view_is) c.self.invariant.listed))
    ∙ sym c.self.invariant.counted) in
    rw all (rests_idle c.args.self.now _
    (rw (← c.self.view_is) (c.idle_until.ensures.idle i low high)))
