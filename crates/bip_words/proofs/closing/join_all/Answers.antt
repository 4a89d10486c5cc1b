use Rattle.std.proofs.Common.{◌≡◌, ◌∷◌, [], ◌++◌, ◌+◌, ℕ, sym, ap, ◌∙◌, subst, length}
use Rattle.std.proofs.Common.{length-append, arith, List, append-nil}
use Rattle.bip_model.specs.declared.grants.Grant.{Grant}
use Rattle.std.specs.List.{AllByRecursion}
use Rattle.bip_words.proofs.ClosingLemmas.{each_split, gathered}
use Rattle.bip_words.specs.Closing.{notes_of, parts_of}
use Rattle.bip_words.specs.Tables.{IsOfTable, Seated}
use Rattle.bip_words.specs.declared.knowledge.Note.{Note}
use Rattle.bip_words.proofs.closing.join_all.Goals as goal

pub loop-seat-preserved : goal.loop-seat-preserved
loop-seat-preserved c =
    let old = c.loop-seat.invariant in
    let table = c.args.words.now.shared.table_id in
    let rest = c.pop.new.self.items in
    let seat = c.in-Some.seat in
    let whole : c.loop-seat.seats.items ≡ rest ++ seat ∷ [] = c.in-Some.ensures.items in
    let took = c.take_in-count.ensures in
    let split = each_split (IsOfTable table) rest seat
    (subst (AllByRecursion (IsOfTable table)) whole old.seats) in
    let snoc = gathered (λ (s : Seated). s.knows.grants) rest seat [] in
    let lengths : length (parts_of c.loop-seat.seats.items) ≡ length seat.knows.grants + length
    (parts_of rest) =
    ap (λ (l : List Seated). length (parts_of l)) whole
    ∙ (sym (ap length (append-nil (parts_of (rest ++ seat ∷ []))))
    ∙ (ap length snoc ∙ (length-append (parts_of rest) (seat.knows.grants ++ [])
    ∙ (let e = ap length (append-nil seat.knows.grants) in omega (arith, e))))) in
    record {
      same = (
        took.same.0 ∙ old.same.0,
        took.same.1 ∙ old.same.1,
        took.same.3,
        took.same.4 ∙ old.same.3,
      );
      seats = split.0;
      notes = ap (λ (l : List Note). notes_of rest ++ l) took.notes
          ∙ (sym (gathered (λ (s : Seated). s.knows.notes) rest seat c.loop-seat.token.me.0.notes)
          ∙ (ap (λ (l : List Seated). notes_of l ++ c.loop-seat.token.me.0.notes) (sym whole)
          ∙ old.notes));
      list = ap (λ (l : List (ℕ × Grant)). parts_of rest ++ l) took.grants
          ∙ (sym (gathered (λ (s : Seated). s.knows.grants) rest seat c.loop-seat.token.me.0.grants)
          ∙ (ap (λ (l : List Seated). parts_of l ++ c.loop-seat.token.me.0.grants) (sym whole)
          ∙ old.list));
      count = let a = old.count in let b = took.count in omega (arith, a, b, lengths);
    }
