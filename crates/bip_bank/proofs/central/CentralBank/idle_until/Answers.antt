use Rattle.std.proofs.Common.{◌≡◌, List, ap, arith, length}
use Rattle.bip_bank.proofs.StationLemmas.{few_stations}
use Rattle.bip_bank.proofs.StepLemmas.{unasked_idle}
use Rattle.bip_model.specs.declared.numbering.InterId.{InterId}
use Rattle.bip_partition.proofs.TableLemmas.{one_stations}
use Rattle.bip_bank.proofs.central.CentralBank.idle_until.Goals as goal

pub returns-then-place-count-clause-idle : goal.returns-then-place-count-clause-idle
returns-then-place-count-clause-idle c = λ list listed.
    unasked_idle c.args.self.now (length list) c.args.from c.first_asked-place.result
    (λ s low high within. rw (← c.self.view_is, ← c.as_slice.ensures.value)
    (c.first_asked-place.ensures.between s low high))

pub step_count-requires : goal.step_count-requires
step_count-requires c =
    let few = few_stations c.self.inside.plan.now c.stations-count.result.now
    c.recall.ensures.valid c.stations-count.ensures in
    record { few = omega (arith, few) }

pub returns-clause-idle : goal.returns-clause-idle
returns-clause-idle c = λ list listed.
    let all : length list ≡ length c.stations-count.result.now =
    ap (λ (xs : List InterId). length xs) (one_stations c.args.self.now.plan list
    c.stations-count.result.now listed (rw (← c.self.view_is) c.stations-count.ensures)) in
    unasked_idle c.args.self.now (length list) c.args.from c.max.result
    (λ s low high within. rw (← c.self.view_is, ← c.as_slice.ensures.value)
    (c.first_asked-place.ensures.between s low
    (omega (arith, within, all, c.if-place-count.false))))
