use Rattle.std.proofs.Common.{◌≡◌, length, map}
use Rattle.std.specs.List.{range_with_len}
use Rattle.bip_walk.specs.Tallies.{joined_at}
use Rattle.bip_walk.proofs.tallies.Tally.counts_with.Given as goal

abbrev pub invariant-loop-place : goal.invariant-loop-place
invariant-loop-place l =
    (l.joined.items ≡ map (joined_at l.self.counts l.more.counts) (range_with_len 0 l.place))
    × (length l.joined.items ≡ l.place)
