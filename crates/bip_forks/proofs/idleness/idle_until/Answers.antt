use Rattle.std.proofs.Common.{◌+◌, ◌*◌, arith, length}
use Rattle.bip_forks.proofs.IdlenessLemmas.{steps_idle}
use Rattle.bip_forks.specs.Kept.{fork_parts}
use Rattle.bip_forks.proofs.idleness.idle_until.Goals as goal

pub returns-then-served-count-clause-idle : goal.returns-then-served-count-clause-idle
returns-then-served-count-clause-idle c = λ sent gs.
    steps_idle (fork_parts c.args.stations.now sent gs) c.args.from c.next_served-served.result
    (omega (arith, c.if-served-count.true)) c.next_served-served.ensures.passed
    (λ k low high within. absurd (omega (arith, high, c.if-served-count.true)))
    (λ k low high within. absurd (omega (arith, high, c.if-served-count.true)))

pub returns-then-passing-pairs-clause-idle : goal.returns-then-passing-pairs-clause-idle
returns-then-passing-pairs-clause-idle c = λ sent gs.
    let n = length c.args.stations.now in
    steps_idle (fork_parts c.args.stations.now sent gs) c.args.from
    (n + c.next_pair-passing.result) (omega (arith, c.if-passing-pairs.true))
    (λ s low high within. c.next_served-served.ensures.passed s low
    (omega (arith, within, c.if-served-count.false)) within)
    (λ k low high within. c.next_pair-passing.ensures.passed k
    (omega (arith, c.next_served-served.ensures.least (n + k) low (omega arith)))
    (omega (arith, high)) within)
    (λ k low high within. absurd (omega (arith, high, c.if-passing-pairs.true)))

pub returns-then-asking-pairs-clause-idle : goal.returns-then-asking-pairs-clause-idle
returns-then-asking-pairs-clause-idle c = λ sent gs.
    let n = length c.args.stations.now in
    steps_idle (fork_parts c.args.stations.now sent gs) c.args.from
    (n + n * n + c.next_pair-asking.result) (omega (arith, c.if-asking-pairs.true))
    (λ s low high within. c.next_served-served.ensures.passed s low
    (omega (arith, within, c.if-served-count.false)) within)
    (λ k low high within. c.next_pair-passing.ensures.passed k
    (omega (arith, c.next_served-served.ensures.least (n + k) low (omega arith)))
    (omega (arith, within, c.if-passing-pairs.false)) within)
    (λ k low high within. c.next_pair-asking.ensures.passed k
    (omega (
      arith,
      c.next_pair-passing.ensures.least (n * n + k)
          (omega (arith, c.next_served-served.ensures.least (n + n * n + k) low (omega arith)))
          (omega arith),
    ))
    (omega (arith, high)) within)

pub returns-clause-idle : goal.returns-clause-idle
returns-clause-idle c = λ sent gs i low high.
    let n = length c.args.stations.now in
    steps_idle (fork_parts c.args.stations.now sent gs) c.args.from (n + n * n + n * n)
    (omega arith)
    (λ s first last within. c.next_served-served.ensures.passed s first
    (omega (arith, within, c.if-served-count.false)) within)
    (λ k first last within. c.next_pair-passing.ensures.passed k
    (omega (arith, c.next_served-served.ensures.least (n + k) first (omega arith)))
    (omega (arith, within, c.if-passing-pairs.false)) within)
    (λ k first last within. c.next_pair-asking.ensures.passed k
    (omega (
      arith,
      c.next_pair-passing.ensures.least (n * n + k)
          (omega (arith, c.next_served-served.ensures.least (n + n * n + k) first (omega arith)))
          (omega arith),
    ))
    (omega (arith, within, c.if-asking-pairs.false)) within)
    i low (omega (arith, low, high, c.max.ensures, c.step_count.ensures))
