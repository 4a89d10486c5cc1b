use Rattle.std.proofs.Common.{◌≡◌, ◌++◌}
use Rattle.std.specs.List.{flat_map, range_with_len}
use Rattle.bip_draw.specs.Tallies.{granted_at}
use Rattle.bip_draw.proofs.tallies.write_counts.Given as goal

abbrev pub invariant-loop-number : goal.invariant-loop-number
invariant-loop-number l = l.text.items ≡ l.initial.text.items
    ++ flat_map (granted_at l.model l.counts) (range_with_len 0 l.number)
