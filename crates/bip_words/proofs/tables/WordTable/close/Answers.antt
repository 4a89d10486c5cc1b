use Rattle.std.proofs.lemmas.List.Elements.{recursion_from_All}
use Rattle.std.proofs.Common.{◌≡◌, ◌∷◌, [], ◌++◌, ◌-◌, ℕ, sym, ap, ◌∙◌, subst, length, slice_index}
use Rattle.std.proofs.Common.{arith, List, append-nil, rules}
use Rattle.std.specs.Mem.Slots.{slots_items}
use Rattle.bip_model.specs.declared.numbering.CompId.{CompId}
use Rattle.bip_words.proofs.ClosingLemmas.{all_counted, is_closed, is_missing, most_listed, word_is}
use Rattle.bip_words.proofs.RuleLemmas.{stands}
use Rattle.bip_words.proofs.StepLemmas.{counts, enters, witnesses}
use Rattle.bip_words.specs.Closing.{IsClosedBy, LacksGrants, notes_of, parts_of, rows_by}
use Rattle.bip_words.specs.Knowledge.{that_counted}
use Rattle.bip_words.specs.Steps.{with_count}
use Rattle.bip_words.specs.Rule.{IsKept}
use Rattle.bip_words.specs.Tables.{Tabled}
use Rattle.bip_words.specs.declared.knowledge.Knowledge.{Knowledge}
use Rattle.bip_words.proofs.tables.WordTable.close.Goals as goal

pub load_new_seat-own-requires : goal.load_new_seat-own-requires
load_new_seat-own-requires c = let t = c.self.inside in let count = c.self.invariant.1 in
    (omega (arith, count), rw c.self.invariant.0 (enters t.rows _))

pub join_all-count-requires-clause-seats : goal.join_all-count-requires-clause-seats
join_all-count-requires-clause-seats c = recursion_from_All _ _
    (λ k d within. c.requires k d within ∙ sym (ap (λ (v : Tabled). v.id) c.self.view_is))

pub load-requires : goal.load-requires
load-requires c = let t = c.self.inside in let count = c.self.invariant.1 in
    (search rules, omega (arith, count), rw c.self.invariant.0 (counts t.rows _ _ _))

pub split_seat-token-requires : goal.split_seat-token-requires
split_seat-token-requires c = let t = c.self.inside in let count = c.self.invariant.1 in
    (search rules, omega (arith, count), rw c.self.invariant.0 (witnesses t.rows _ _))

pub returns-then-count-serial-clause-missing : goal.returns-then-count-serial-clause-missing
returns-then-count-serial-clause-missing c =
    let t = c.self.inside in
    let rows = ap (λ (v : Tabled). v.rows) c.self.view_is in
    let seats = c.args.seats.items in
    let parts = parts_of seats in
    let f = c.close_with-closed.ensures.values.2 in
    let v = c.split_seat-token.new.seat.me.0 in
    let own : v ≡ with_count c.load.result c.join_all-count.new.token.me.0 =
    ap (λ m. m.0) c.split_seat-token.ensures.2 ∙ ap (λ m. m.0) c.load.ensures.2.0 in
    let kept = subst (λ (k : List (CompId × ℕ)). IsKept k f.0) c.self.invariant.0 f.1.0 in
    let stood = stands t.rows f.0 kept in
    let list : v.grants ≡ parts = ap (λ (u : Knowledge). u.grants) own
    ∙ (c.join_all-count.ensures.grants ∙ (ap (λ m. parts ++ m.0.grants)
    c.load_new_seat-own.ensures.2 ∙ append-nil parts)) in
    let notes : v.notes ≡ notes_of seats = ap (λ (u : Knowledge). u.notes) own
    ∙ (c.join_all-count.ensures.notes ∙ (ap (λ m. notes_of seats ++ m.0.notes)
    c.load_new_seat-own.ensures.2 ∙ append-nil (notes_of seats))) in
    let serial : slice_index f.0.words 0 ≡ c.word-serial.result =
    ap (λ (l : List ℕ). slice_index l 0) f.2
    ∙ word_is (slots_items c.close_with-closed.result.words) 0 c.word-serial.result
    c.word-serial.ensures in
    let most = most_listed t.rows f.0 c.split_seat-token.new.seat.id v stood f.1.1 in
    let count = c.join_all-count.ensures.count in
    let fits = c.word-serial.type_inv in
    let less = c.if-count-serial.true in
    let lengths = ap length list in
    let n : ℕ = c.word-serial.result - c.join_all-count.result in
    subst (λ (k : List (CompId × ℕ)). LacksGrants k seats n) rows
    (is_missing t.rows f.0 c.split_seat-token.new.seat.id n v seats stood f.1.1 list notes
    (omega (arith, serial, most, count, fits, less, lengths)) (omega (arith, less)))

pub returns-clause-closed : goal.returns-clause-closed
returns-clause-closed c =
    let t = c.self.inside in
    let opening = ap (λ (v : Tabled). v.rows) c.self.view_is in
    let seats = c.args.seats.items in
    let parts = parts_of seats in
    let f = c.close_with-closed.ensures.values.2 in
    let v = c.split_seat-token.new.seat.me.0 in
    let own : v ≡ with_count c.load.result c.join_all-count.new.token.me.0 =
    ap (λ m. m.0) c.split_seat-token.ensures.2 ∙ ap (λ m. m.0) c.load.ensures.2.0 in
    let kept = subst (λ (k : List (CompId × ℕ)). IsKept k f.0) c.self.invariant.0 f.1.0 in
    let stood = stands t.rows f.0 kept in
    let list : v.grants ≡ parts = ap (λ (u : Knowledge). u.grants) own
    ∙ (c.join_all-count.ensures.grants ∙ (ap (λ m. parts ++ m.0.grants)
    c.load_new_seat-own.ensures.2 ∙ append-nil parts)) in
    let notes : v.notes ≡ notes_of seats = ap (λ (u : Knowledge). u.notes) own
    ∙ (c.join_all-count.ensures.notes ∙ (ap (λ m. notes_of seats ++ m.0.notes)
    c.load_new_seat-own.ensures.2 ∙ append-nil (notes_of seats))) in
    let serial : slice_index f.0.words 0 ≡ c.word-serial.result =
    ap (λ (l : List ℕ). slice_index l 0) f.2
    ∙ word_is (slots_items c.close_with-closed.result.words) 0 c.word-serial.result
    c.word-serial.ensures in
    let most = most_listed t.rows f.0 c.split_seat-token.new.seat.id v stood f.1.1 in
    let count = c.join_all-count.ensures.count in
    let fits = c.word-serial.type_inv in
    let less = c.if-count-serial.false in
    let lengths = ap length list in
    let idle : v.claims ≡ [] = ap (λ (u : Knowledge). u.claims) own
    ∙ c.join_all-count.ensures.same.2 in
    let closed = is_closed t.rows f.0 c.split_seat-token.new.seat.id v seats stood f.1.1 idle list
    notes (omega (arith, serial, most, count, fits, less, lengths)) in
    let rows : rows_by 0 f.0.words t.rows ≡ c.read_rows.new.rows =
    ap (λ (l : List ℕ). rows_by 0 l t.rows) f.2 ∙ sym c.read_rows.ensures in
    subst (λ (k : List (CompId × ℕ)). IsClosedBy k seats c.read_rows.new.rows c.word-serial.result)
    opening
    (subst (λ (l : List (CompId × ℕ)). IsClosedBy t.rows seats l c.word-serial.result) rows
    (subst (λ (k : ℕ). IsClosedBy t.rows seats (rows_by 0 f.0.words t.rows) k) serial closed))

pub returns-clause-counted : goal.returns-clause-counted
returns-clause-counted c =
    let t = c.self.inside in
    let f = c.close_with-closed.ensures.values.2 in
    let v = c.split_seat-token.new.seat.me.0 in
    let n : ℕ = c.load.result in
    let split = ap (λ m. m.0) c.split_seat-token.ensures.2 in
    let counted = ap (λ m. m.0) c.load.ensures.2.0 in
    let own : v ≡ with_count n c.join_all-count.new.token.me.0 = split ∙ counted in
    let stood = stands t.rows f.0 (subst (λ (k : List (CompId × ℕ)). IsKept k f.0)
    c.self.invariant.0 f.1.0) in
    let first : c.join_all-count.new.token.me.0.counts ≡ [] = c.join_all-count.ensures.same.3
    ∙ ap (λ m. m.0.counts) c.load_new_seat-own.ensures.2 in
    let counts : v.counts ≡ n ∷ [] = ap (λ (u : Knowledge). u.counts) own
    ∙ ap (λ (l : List ℕ). n ∷ l) first in
    let list : length v.grants ≡ length (parts_of c.args.seats.items) =
    ap length (ap (λ (u : Knowledge). u.grants) own
    ∙ (c.join_all-count.ensures.grants ∙ (ap (λ m. parts_of c.args.seats.items ++ m.0.grants)
    c.load_new_seat-own.ensures.2 ∙ append-nil (parts_of c.args.seats.items)))) in
    let least = c.load.ensures.2.1 in
    let mine : length v.grants ≡ length c.join_all-count.new.token.me.0.grants =
    ap (λ (u : Knowledge). length u.grants) own in
    let serial : slice_index f.0.words 0 ≡ c.word-serial.result =
    ap (λ (l : List ℕ). slice_index l 0) f.2
    ∙ word_is (slots_items c.close_with-closed.result.words) 0 c.word-serial.result
    c.word-serial.ensures in
    let most = most_listed t.rows f.0 c.split_seat-token.new.seat.id v stood f.1.1 in
    let count = c.join_all-count.ensures.count in
    let fits = c.word-serial.type_inv in
    let less = c.if-count-serial.false in
    let all = all_counted t.rows f.0 c.split_seat-token.new.seat.id n v stood f.1.1 counts
    (omega (arith, least, mine)) (omega (arith, serial, most, count, fits, less, list)) in (
      c.split_seat-token.ensures.3 ∙ (c.load.ensures.0
          ∙ (c.join_all-count.ensures.same.0 ∙ (c.load_new_seat-own.ensures.0
          ∙ ap (λ (v : Tabled). v.id) c.self.view_is))),
      ap (λ m. m.0) c.split_seat-token.ensures.4
          ∙ ap that_counted (sym (ap (λ (u : Knowledge). u.counts) split)
          ∙ (counts ∙ ap (λ (k : ℕ). k ∷ []) (all ∙ serial))),
    )
