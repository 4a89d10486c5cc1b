use Rattle.std.proofs.Common.{◌≡◌, ℕ, ◌+◌, cond, length, take}
use Rattle.std.specs.Prelude.{slice_index_or}
use Rattle.bip_replay.specs.Expected.{takes_part}
use Rattle.bip_replay.proofs.runs.use_next.Given as goal

abbrev pub invariant-loop-participant : goal.invariant-loop-participant
invariant-loop-participant l =
    record {
      used : (base c : ℕ) → slice_index_or l.used c base ≡ cond
          (takes_part (take l.participant-index l.participants) c)
          (slice_index_or l.initial.used c base + 1) (slice_index_or l.initial.used c base);
      counted : length l.used ≡ length l.initial.used;
    }
