use Rattle.std.proofs.Common.{arith}
use Rattle.bip_ring.proofs.RingLemmas.{rests_apart, rests_before, rests_flying, rests_outside}
use Rattle.bip_ring.proofs.places.idle_until.Goals as goal

pub returns-in-To-clause-idle : goal.returns-in-To-clause-idle
returns-in-To-clause-idle c = λ i low high. rw c.in-To.is (rests_flying c.args.count i c.in-To.field-0)

pub returns-then-holder-count-clause-idle : goal.returns-then-holder-count-clause-idle
returns-then-holder-count-clause-idle c = λ i low high.
    rw c.in-At.is (rests_outside c.args.count i c.in-At.holder c.if-holder-count.true)

pub returns-then-from-holder-clause-idle : goal.returns-then-from-holder-clause-idle
returns-then-from-holder-clause-idle c = λ i low high.
    rw c.in-At.is (rests_before c.args.count i c.in-At.holder high
    (omega (arith, c.if-holder-count.false)))

pub returns-then-from-pass-clause-idle : goal.returns-then-from-pass-clause-idle
returns-then-from-pass-clause-idle c = λ i low high.
    rw c.in-At.is (rests_apart c.args.count i c.next_station.result c.in-At.holder
    c.next_station.ensures
    (λ same. omega (arith, low, same, c.if-from-holder.false))
    (λ same. omega (arith, high, same)))

pub returns-else-from-pass-clause-idle : goal.returns-else-from-pass-clause-idle
returns-else-from-pass-clause-idle c = λ i low high.
    rw c.in-At.is (rests_apart c.args.count i c.next_station.result c.in-At.holder
    c.next_station.ensures
    (λ same. omega (arith, low, same, c.if-from-holder.false))
    (λ same. omega (arith, low, same, c.if-from-pass.false)))
