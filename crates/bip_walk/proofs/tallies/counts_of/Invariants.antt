use Rattle.std.proofs.Common.{◌≡◌, length, map}
use Rattle.std.specs.List.{count_by, range_with_len}
use Rattle.bip_walk.specs.Tallies.{count_of_one, is_of_inter}
use Rattle.bip_walk.proofs.tallies.counts_of.Given as goal

abbrev pub invariant-loop-number : goal.invariant-loop-number
invariant-loop-number l =
    (l.counts.items
    ≡ map (λ a. count_of_one (count_by (is_of_inter a) l.grants)) (range_with_len 0 l.number))
    × (length l.counts.items ≡ l.number)
