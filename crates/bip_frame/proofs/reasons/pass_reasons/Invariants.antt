use Rattle.std.proofs.Common.{◌≡◌, ◌-◌}
use Rattle.bip_frame.specs.Entries.{no_word, passed, read_parts, read_reason}
use Rattle.bip_frame.specs.Frames.{inter_of}
use Rattle.bip_frame.proofs.reasons.pass_reasons.Given as goal

abbrev pub invariant-loop : goal.invariant-loop
invariant-loop l = passed no_word (read_parts read_reason inter_of
    (l.count - l.counter) l.low l.rest) ≡ passed no_word
    (read_parts read_reason inter_of l.count 0 l.bytes)
