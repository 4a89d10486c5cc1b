use Rattle.std.proofs.Common.{◌≡◌, ◌+◌, ◌%◌, ◌^◌, ◌++◌, [], length, vec_len}
use Rattle.std.specs.List.{AllByRecursion}
use Rattle.bip_words.specs.Closing.{notes_of, parts_of}
use Rattle.bip_words.specs.Tables.{IsOfTable}
use Rattle.bip_words.proofs.closing.join_all.Given as goal

abbrev pub decreases-loop-seat : goal.decreases-loop-seat
decreases-loop-seat l = vec_len l.seats

abbrev pub invariant-loop-seat : goal.invariant-loop-seat
invariant-loop-seat l =
    record {
      same : (l.token.table_id ≡ l.initial.token.table_id) × (l.token.id ≡ l.initial.token.id)
          × (l.token.me.0.claims ≡ []) × (l.token.me.0.counts ≡ l.initial.token.me.0.counts);
      seats : AllByRecursion (IsOfTable l.words.shared.table_id) l.seats.items;
      notes : notes_of l.seats.items ++ l.token.me.0.notes ≡ notes_of l.initial.seats.items
          ++ l.initial.token.me.0.notes;
      list : parts_of l.seats.items ++ l.token.me.0.grants ≡ parts_of l.initial.seats.items
          ++ l.initial.token.me.0.grants;
      count : (l.count + length (parts_of l.seats.items)) % 2 ^ 64 ≡ length
          (parts_of l.initial.seats.items) % 2 ^ 64;
    }
