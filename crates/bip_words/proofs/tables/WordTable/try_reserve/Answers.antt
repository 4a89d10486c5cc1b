use Rattle.std.proofs.Common.{ℕ, ap, ◌∙◌, subst, List}
use Rattle.std.proofs.lemmas.List.Elements.{recursion_from_All}
use Rattle.bip_model.specs.declared.wants.Want.{Want}
use Rattle.std.specs.List.{AllByRecursion}
use Rattle.bip_model.specs.declared.numbering.CompId.{CompId}
use Rattle.bip_words.proofs.ReservingLemmas.{all_free, attempted, none_after}
use Rattle.bip_words.specs.Knowledge.{asked_by}
use Rattle.bip_words.specs.Reserving.{Answered, HasWrittenRow, IsGrantedWith, LookedInOrder}
use Rattle.bip_words.specs.Reserving.{TriedOnce}
use Rattle.bip_words.specs.Rows.{HasRow, row_comps}
use Rattle.bip_words.specs.Steps.{IsSmall}
use Rattle.bip_words.specs.Tables.{Seated, Tabled}
use Rattle.bip_words.specs.declared.knowledge.Knowledge.{Knowledge}
use Rattle.bip_words.proofs.tables.WordTable.try_reserve.Goals as goal

pub reserve_rest-answer-requires-clause-free : goal.reserve_rest-answer-requires-clause-free
reserve_rest-answer-requires-clause-free c = all_free _ _ _ c.seat.invariant.1

pub reserve_rest-answer-requires-clause-small : goal.reserve_rest-answer-requires-clause-small
reserve_rest-answer-requires-clause-small c =
    recursion_from_All IsSmall c.args.request.now.wants c.requires.small

pub returns-in_default-answer : goal.returns-in_default-answer
returns-in_default-answer c =
    let e = c.reserve_rest-answer.ensures in
    let answer = c.reserve_rest-answer.result in
    let new = c.reserve_rest-answer.new.token.me.0 in
    let comps = row_comps c.args.self.now.rows in
    let q = c.args.request.now in
    let have = subst (λ (rows : List (CompId × ℕ)). AllByRecursion
    (HasRow (row_comps rows)) q.wants) (c.as_slice.ensures.rows
    ∙ ap (λ (v : Tabled). v.rows) c.self.view_is)
    (subst (λ (ws : List Want). AllByRecursion (HasRow (row_comps c.as_slice.result.now)) ws)
    c.as_slice-wants.ensures.wants c.in_default.ensures.none) in
    let before = ap (λ (v : Seated). v.knows) c.seat.view_is in
    record {
      seat = e.same.0 ∙ (ap (λ (v : Seated). v.table) c.seat.view_is ∙ c.requires.seat);
      answer = attempted c.args.self.now.rows (asked_by q) answer c.args.seat.now.knows new have
          (subst (λ (v : Knowledge). Answered comps (asked_by q) answer v new) before e.answer)
          (subst (λ (ws : List Want). IsGrantedWith answer
          (AllByRecursion (HasWrittenRow comps new.notes) ws)) c.as_slice-wants.ensures.wants
          e.written);
      order = subst (λ (v : Knowledge). LookedInOrder comps q.wants answer v new) before
          (subst (λ (ws : List Want). LookedInOrder comps ws answer c.seat.inside.token.me.0 new)
          c.as_slice-wants.ensures.wants e.order);
      once = subst (λ (v : Knowledge). TriedOnce comps q.wants answer v new) before
          (subst (λ (ws : List Want). TriedOnce comps ws answer c.seat.inside.token.me.0 new)
          c.as_slice-wants.ensures.wants e.once);
      unclaimed = e.claims ∙ none_after answer c.seat.inside.token.me.0.claims c.seat.invariant.1;
    }
