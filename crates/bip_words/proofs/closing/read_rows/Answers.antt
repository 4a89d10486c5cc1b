use Rattle.std.proofs.Common.{◌≡◌, ◌+◌, ◌/◌, ◌<◌, ℕ, suc, sym, ap, ◌∙◌, length, slice_index, arith}
use Rattle.std.proofs.Common.{List, add-one}
use Rattle.std.specs.Mem.Slots.{slots_items}
use Rattle.bip_model.specs.declared.numbering.CompId.{CompId}
use Rattle.bip_words.proofs.ClosingLemmas.{row_read, rows_length, rows_to, word_is}
use Rattle.bip_words.specs.Rows.{with_number}
use Rattle.bip_words.proofs.closing.read_rows.Goals as goal

pub loop-row-preserved : goal.loop-row-preserved
loop-row-preserved c =
    let old = c.loop-row.invariant in
    let words : List ℕ = slots_items c.args.closed.now.words in
    let xs : List (CompId × ℕ) = c.args.rows.now in
    let r : ℕ = c.loop-row.row in
    let n : ℕ = c.word.result / 2 in
    let test = c.loop-row-test.true in
    let within : r < length xs = (let same = ap length c.as_slice-row-end.ensures.rows in
    omega (arith, test, same)) in
    let place : suc (0 + r) ≡ r + 1 = omega arith in
    let number : n ≡ slice_index words (suc (0 + r)) / 2 =
    ap (λ (k : ℕ). k / 2) (sym (word_is words (r + 1) c.word.result c.word.ensures)
    ∙ ap (slice_index words) (sym place)) in
    let rows : c.set.new.self ≡ rows_to words xs 0 (r + 1) = c.set.ensures
    ∙ (ap (λ (l : List (CompId × ℕ)). with_number l r n) old.rows
    ∙ (row_read words xs 0 r n within number ∙ ap (rows_to words xs 0) (sym (add-one r)))) in
    record { rows = rows; same = ap length rows ∙ rows_length words xs 0 (r + 1) }
