use Rattle.std.proofs.Common.{◌≡◌, ◌-◌}
use Rattle.bip_frame.specs.Entries.{one_moves, passed, read_entry, read_parts}
use Rattle.bip_frame.specs.Frames.{comp_of}
use Rattle.bip_frame.proofs.PassLemmas.{moved_or}
use Rattle.bip_frame.proofs.entries.pass_entries.Given as goal

abbrev pub invariant-loop : goal.invariant-loop
invariant-loop l = passed (moved_or l.moved) (read_parts read_entry comp_of
    (l.count - l.counter) l.low l.rest) ≡ passed one_moves
    (read_parts read_entry comp_of l.count 0 l.bytes)
