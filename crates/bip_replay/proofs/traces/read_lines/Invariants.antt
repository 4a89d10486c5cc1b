use Rattle.bip_replay.proofs.TraceLemmas.{IsReadBefore}
use Rattle.bip_replay.proofs.traces.read_lines.Given as goal

abbrev pub invariant-loop-number : goal.invariant-loop-number
invariant-loop-number l = IsReadBefore l.model l.text l.end l.grants.items l.number-iterator
