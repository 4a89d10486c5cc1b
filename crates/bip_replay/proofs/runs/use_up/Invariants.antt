use Rattle.std.proofs.Common.{◌≡◌, ℕ, length, max, take}
use Rattle.std.specs.Prelude.{slice_index_or}
use Rattle.bip_model.specs.Wants.{moved_in}
use Rattle.bip_replay.proofs.runs.use_up.Given as goal

abbrev pub invariant-loop-want : goal.invariant-loop-want
invariant-loop-want l =
    record {
      used : (base c : ℕ) → slice_index_or l.used c base ≡ max
          (slice_index_or l.initial.used c base) (moved_in (take l.want-index l.wants) c);
      counted : length l.used ≡ length l.initial.used;
    }
