use Rattle.std.proofs.Common.{◌≤◌, List}
use Rattle.bipr.specs.Ahead.{AreAhead, AreExploredBehind}
use Rattle.bipr.specs.Explored.{IsProgressUntil}
use Rattle.bipr.specs.Streams.{Put, PutsEach, texts}
use Rattle.bipr.proofs.explored.answer_explore.Given as goal

abbrev pub invariant-loop-done : goal.invariant-loop-done
invariant-loop-done g l =
    AreExploredBehind l.plan l.asked 0 l.all
    × ((told : List Put) × PutsEach g.E.Stream.writes l.initial.errors told l.errors
    × IsProgressUntil l.asked l.done (texts told))
    × AreAhead l.plan l.asked l.ahead
    × (l.done ≤ l.all.tally.traces)
    × (l.all.tally.traces ≤ l.asked.seeds)
