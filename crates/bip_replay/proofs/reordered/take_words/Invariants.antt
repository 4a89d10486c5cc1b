use Rattle.std.proofs.Common.{◌≡◌, length}
use Rattle.bip_replay.proofs.ReorderedLemmas.{Takes}
use Rattle.bip_replay.specs.Runs.{standing_of}
use Rattle.bip_replay.proofs.reordered.take_words.Given as goal

abbrev pub invariant-loop : goal.invariant-loop
invariant-loop l = (l.end ≡ length l.initial.left.items)
    × Takes (standing_of l.position) l.initial.left.items l.left.items l.counter l.text l.rest
