use Rattle.std.specs.Prelude.{◌≡◌, ◌*◌, ◌≤◌, false, length}
use Rattle.bip_host.proofs.hosts.join_threads.Given as goal

abbrev pub invariant-loop-handle : goal.invariant-loop-handle
invariant-loop-handle g l =
    (goal.iterator-loop-handle g).can_next l.handle-iterator
    × (goal.iterator-loop-handle g).is_finite l.handle-iterator
    × (l.totals.figures.kind ≡ l.asked.kind) × (l.totals.figures.tables ≡ l.asked.tables)
    × (l.totals.is_short ≡ false)
    × (l.totals.figures.threads ≡ length l.yielded)
    × (l.totals.figures.turns ≤ l.totals.figures.threads * l.asked.limits.turns)
    × (l.totals.figures.most_turns ≤ l.asked.limits.turns)
