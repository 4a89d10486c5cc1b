use Rattle.std.proofs.Common.{◌≡◌, length}
use Rattle.std.specs.Mem.Slots.{slots_items}
use Rattle.bip_words.proofs.ClosingLemmas.{rows_to}
use Rattle.bip_words.proofs.closing.read_rows.Given as goal

abbrev pub invariant-loop-row : goal.invariant-loop-row
invariant-loop-row l =
    record {
      rows : l.rows ≡ rows_to (slots_items l.closed.words) l.initial.rows 0 l.row;
      same : length l.rows ≡ length l.initial.rows;
    }
