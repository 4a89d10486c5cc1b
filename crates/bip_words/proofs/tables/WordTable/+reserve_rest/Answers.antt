use Rattle.std.proofs.Common.{rules, ◌≡◌, ◌≢◌, ◌*◌, ◌/◌, ℕ, [], ◌∷◌, ◌++◌, List, refl, sym, ap, ◌∙◌}
use Rattle.std.proofs.Common.{subst, ⊎_elim, inr, arith, Any, All, false}
use mathlib.Core.Option.{some}
use lib.ListN.{get_elem?}
use Rattle.bip_model.proofs.NumberingLemmas.{Rises, rises_from_increasing}
use Rattle.bip_model.specs.Wants.{components_of, is_moved, moved_in}
use Rattle.bip_model.specs.declared.wants.Want.{Want}
use Rattle.bip_words.specs.declared.tables.Attempt.TheVariants.{Used, Busy}
use Rattle.bip_words.specs.declared.knowledge.Learned.TheVariants.{Look, Changed, Wrote}
use Rattle.std.specs.List.{AllByRecursion}
use Rattle.bip_model.specs.declared.numbering.CompId.{CompId}
use Rattle.bip_model.specs.declared.messages.Request.{Request}
use Rattle.bip_words.proofs.ReservingLemmas.{Moves, answered_out, any_middle, busy_change}
use Rattle.bip_words.proofs.ReservingLemmas.{busy_look, claims_head, covers_all, covers_more}
use Rattle.bip_words.proofs.ReservingLemmas.{each_middle, empty_is, free_more, granted_map}
use Rattle.bip_words.proofs.ReservingLemmas.{in_order, moved_here, moves_row, no_row, nothing_moves}
use Rattle.bip_words.proofs.ReservingLemmas.{number_is, number_small, once_around, once_changed}
use Rattle.bip_words.proofs.ReservingLemmas.{once_drawn, once_looked, refused_first, refused_here}
use Rattle.bip_words.proofs.ReservingLemmas.{refused_later, rises_later, tried_more, used_look}
use Rattle.bip_words.proofs.ReservingLemmas.{written_more}
use Rattle.bip_words.specs.Knowledge.{asked_by, claim, claims_on, knows, note, with_note}
use Rattle.bip_words.specs.Reserving.{Covers, FoundFresh, IsFree, IsWantedBelow, claims_after}
use Rattle.bip_words.specs.Reserving.{is_granted}
use Rattle.bip_words.specs.Rows.{HasRow, IsRowOf, row_comps}
use Rattle.bip_words.specs.Rule.{IsNotDue}
use Rattle.bip_words.specs.Steps.{IsCovered, IsSmall, owing}
use Rattle.bip_words.specs.Tables.{Tabled}
use Rattle.bip_words.specs.declared.knowledge.Claim.{Claim}
use Rattle.bip_words.specs.declared.knowledge.Knowledge.{Knowledge}
use Rattle.bip_words.proofs.tables.WordTable.+reserve_rest.Goals as goal

pub draw-requires-clause-moves : goal.draw-requires-clause-moves
draw-requires-clause-moves t c =
    let r = c.requires in
    let comps = row_comps c.args.self.now.rows in
    let claims = c.args.token.now.me.0.claims in
    let wants = c.args.asked.now.wants in
    let none : c.args.rest.now ≡ [] = empty_is c.args.rest.now c.in_default.ensures.cases in
    let covers = covers_all comps claims wants (subst (Covers comps claims wants) none r.covers) in
    let moves : Moves comps wants = moves_row comps claims wants covers r.wants.numbered
    r.wants.moving in
    ⊎_elim
    (λ (same : c.args.rest.now ≡ wants). absurd (nothing_moves comps
    (subst (Moves comps) (sym same ∙ none) moves)))
    (λ (same : c.args.token.now.me.0.asked ≡ c.args.asked.now).
    subst (λ (g : Request). Moves comps g.wants) (sym same) moves)
    r.asked

pub draw-requires-clause-covers : goal.draw-requires-clause-covers
draw-requires-clause-covers t c =
    let r = c.requires in
    let comps = row_comps c.args.self.now.rows in
    let claims = c.args.token.now.me.0.claims in
    let wants = c.args.asked.now.wants in
    let none : c.args.rest.now ≡ [] = empty_is c.args.rest.now c.in_default.ensures.cases in
    let covers = covers_all comps claims wants (subst (Covers comps claims wants) none r.covers) in
    ⊎_elim
    (λ (same : c.args.rest.now ≡ wants). absurd (nothing_moves comps
    (subst (Moves comps) (sym same ∙ none)
    (moves_row comps claims wants covers r.wants.numbered r.wants.moving))))
    (λ (same : c.args.token.now.me.0.asked ≡ c.args.asked.now).
    subst (λ (g : Request). AllByRecursion (IsCovered comps claims) g.wants) (sym same) covers)
    r.asked

pub draw-requires-clause-small : goal.draw-requires-clause-small
draw-requires-clause-small t c =
    let r = c.requires in
    let comps = row_comps c.args.self.now.rows in
    let claims = c.args.token.now.me.0.claims in
    let wants = c.args.asked.now.wants in
    let none : c.args.rest.now ≡ [] = empty_is c.args.rest.now c.in_default.ensures.cases in
    let covers = covers_all comps claims wants (subst (Covers comps claims wants) none r.covers) in
    ⊎_elim
    (λ (same : c.args.rest.now ≡ wants). absurd (nothing_moves comps
    (subst (Moves comps) (sym same ∙ none)
    (moves_row comps claims wants covers r.wants.numbered r.wants.moving))))
    (λ (same : c.args.token.now.me.0.asked ≡ c.args.asked.now).
    subst (λ (g : Request). AllByRecursion IsSmall g.wants) (sym same) r.small)
    r.asked

pub unreachable-requires : goal.unreachable-requires
unreachable-requires t c =
    let rows = subst (AllByRecursion (HasRow (row_comps c.args.self.now.rows)))
    c.in-Some.ensures.cases.0 c.requires.rows in
    no_row c.args.self.now.rows c.in-Some.want.now rows.0
    (subst (λ (rows : List (CompId × ℕ)). All
    (λ (e : CompId × ℕ). e.0.0 ≢ c.in-Some.want.now.comp.0) rows)
    (c.as_slice.ensures.rows ∙ ap (λ (v : Tabled). v.rows) c.self.view_is)
    c.in_default-row_of.ensures.none)

pub returns-then-found-eq1-clause-answer : goal.returns-then-found-eq1-clause-answer
returns-then-found-eq1-clause-answer t c =
    let comps = row_comps c.args.self.now.rows in
    let row = c.in-Some-row_of.row in
    let claims = c.args.token.now.me.0.claims in
    let here : IsRowOf comps row c.in-Some.want.now.comp.0 =
    subst (λ (rows : List (CompId × ℕ)). IsRowOf
    (row_comps rows) c.in-Some-row_of.row c.in-Some.want.now.comp.0)
    (c.as_slice.ensures.rows ∙ ap (λ (v : Tabled). v.rows) c.self.view_is)
    c.in-Some-row_of.ensures.row in
    let free = (subst (AllByRecursion (IsFree comps claims)) c.in-Some.ensures.cases.0
    c.requires.free).0 row here in
    busy_look comps row c.look_at-found.result
    (claims_on row claims) c.in-Some.want.now.comp.0 c.args.token.now.me.0
    c.look_at-found.new.token.me.0 here c.if-found-eq1.true free
    (ap (λ m. m.0) c.look_at-found.ensures.noted)

pub returns-then-found-eq1-clause-once : goal.returns-then-found-eq1-clause-once
returns-then-found-eq1-clause-once t c =
    let comps = row_comps c.args.self.now.rows in
    let row = c.in-Some-row_of.row in
    let here : IsRowOf comps row c.in-Some.want.now.comp.0 =
    subst (λ (rows : List (CompId × ℕ)). IsRowOf
    (row_comps rows) c.in-Some-row_of.row c.in-Some.want.now.comp.0)
    (c.as_slice.ensures.rows ∙ ap (λ (v : Tabled). v.rows) c.self.view_is)
    c.in-Some-row_of.ensures.row in
    once_looked comps c.args.rest.now c.in-Some.more.now c.in-Some.want.now
    (Busy c.in-Some.want.now.comp) row c.look_at-found.result
    (claims_on row c.args.token.now.me.0.claims) c.args.token.now.me.0
    c.look_at-found.new.token.me.0 c.in-Some.ensures.cases.0 refl here
    (ap (λ m. m.0.notes) c.look_at-found.ensures.noted)

pub returns-then-want-used-clause-answer : goal.returns-then-want-used-clause-answer
returns-then-want-used-clause-answer t c =
    let comps = row_comps c.args.self.now.rows in
    let row = c.in-Some-row_of.row in
    let claims = c.args.token.now.me.0.claims in
    let here : IsRowOf comps row c.in-Some.want.now.comp.0 =
    subst (λ (rows : List (CompId × ℕ)). IsRowOf
    (row_comps rows) c.in-Some-row_of.row c.in-Some.want.now.comp.0)
    (c.as_slice.ensures.rows ∙ ap (λ (v : Tabled). v.rows) c.self.view_is)
    c.in-Some-row_of.ensures.row in
    let free = (subst (AllByRecursion (IsFree comps claims)) c.in-Some.ensures.cases.0
    c.requires.free).0 row here in
    let n = c.look_at-found.result in
    let odd = c.if-found-eq1.false in
    let less = c.if-want-used.true in
    let P = IsWantedBelow c.in-Some.want.now.comp.0 (n / 2) in
    let done = c.requires.covers.0 in
    let whole : c.args.asked.now.wants ≡ done ++ c.in-Some.want.now ∷ c.in-Some.more.now =
    c.requires.covers.1 ∙ ap (λ (l : List Want). done ++ l) c.in-Some.ensures.cases.0 in
    used_look comps c.args.asked.now.wants row n
    (claims_on row claims) c.in-Some.want.now.comp.0 c.args.token.now.me.0
    c.look_at-found.new.token.me.0
    here (omega (arith, odd)) free
    (subst (Any P) (sym whole) (any_middle P done c.in-Some.more.now c.in-Some.want.now
    (refl, less)))
    c.look_at-found.ensures.most (ap (λ m. m.0) c.look_at-found.ensures.noted)

pub returns-then-want-used-clause-once : goal.returns-then-want-used-clause-once
returns-then-want-used-clause-once t c =
    let comps = row_comps c.args.self.now.rows in
    let row = c.in-Some-row_of.row in
    let here : IsRowOf comps row c.in-Some.want.now.comp.0 =
    subst (λ (rows : List (CompId × ℕ)). IsRowOf
    (row_comps rows) c.in-Some-row_of.row c.in-Some.want.now.comp.0)
    (c.as_slice.ensures.rows ∙ ap (λ (v : Tabled). v.rows) c.self.view_is)
    c.in-Some-row_of.ensures.row in
    once_looked comps c.args.rest.now c.in-Some.more.now c.in-Some.want.now
    (Used c.in-Some.want.now.comp (c.look_at-found.result / 2)) row c.look_at-found.result
    (claims_on row c.args.token.now.me.0.claims) c.args.token.now.me.0
    c.look_at-found.new.token.me.0 c.in-Some.ensures.cases.0 refl here
    (ap (λ m. m.0.notes) c.look_at-found.ensures.noted)

pub returns-then-claim_at-found-clause-answer : goal.returns-then-claim_at-found-clause-answer
returns-then-claim_at-found-clause-answer t c =
    let comps = row_comps c.args.self.now.rows in
    let row = c.in-Some-row_of.row in
    let claims = c.args.token.now.me.0.claims in
    let here : IsRowOf comps row c.in-Some.want.now.comp.0 =
    subst (λ (rows : List (CompId × ℕ)). IsRowOf
    (row_comps rows) c.in-Some-row_of.row c.in-Some.want.now.comp.0)
    (c.as_slice.ensures.rows ∙ ap (λ (v : Tabled). v.rows) c.self.view_is)
    c.in-Some-row_of.ensures.row in
    let free = (subst (AllByRecursion (IsFree comps claims)) c.in-Some.ensures.cases.0
    c.requires.free).0 row here in
    let n = c.look_at-found.result in
    let k = c.claim_at.result in
    let odd = c.if-found-eq1.false in
    let ne : k ≢ n = c.if-claim_at-found.true in
    let first = ap (λ m. m.0) c.look_at-found.ensures.noted in
    let still = ap (λ (v : Knowledge). claims_on row v.claims) first ∙ free in
    busy_change comps row n k (claims_on row claims)
    (claims_on row c.look_at-found.new.token.me.0.claims) c.in-Some.want.now.comp.0
    c.args.token.now.me.0 c.look_at-found.new.token.me.0 c.claim_at.new.token.me.0
    here ne free still first
    (ap (λ m. m.0) (c.claim_at.ensures.miss (λ e. ne (omega (arith, e, odd)))))

pub returns-then-claim_at-found-clause-once : goal.returns-then-claim_at-found-clause-once
returns-then-claim_at-found-clause-once t c =
    let comps = row_comps c.args.self.now.rows in
    let row = c.in-Some-row_of.row in
    let here : IsRowOf comps row c.in-Some.want.now.comp.0 =
    subst (λ (rows : List (CompId × ℕ)). IsRowOf
    (row_comps rows) c.in-Some-row_of.row c.in-Some.want.now.comp.0)
    (c.as_slice.ensures.rows ∙ ap (λ (v : Tabled). v.rows) c.self.view_is)
    c.in-Some-row_of.ensures.row in
    let n = c.look_at-found.result in
    let k = c.claim_at.result in
    let odd = c.if-found-eq1.false in
    let ne : k ≢ n = c.if-claim_at-found.true in
    let own : ℕ = claims_on row c.look_at-found.new.token.me.0.claims in
    once_changed comps c.args.rest.now c.in-Some.more.now c.in-Some.want.now row n
    (claims_on row c.args.token.now.me.0.claims) k own c.args.token.now.me.0
    c.claim_at.new.token.me.0 c.in-Some.ensures.cases.0 here
    (ap (λ m. m.0.notes) (c.claim_at.ensures.miss (λ e. ne (omega (arith, e, odd))))
    ∙ ap (λ m. note row k own Changed ∷ m.0.notes) c.look_at-found.ensures.noted)

pub reserve_rest-answer-requires : goal.reserve_rest-answer-requires
reserve_rest-answer-requires t c =
    let r = c.requires in
    let comps = row_comps c.args.self.now.rows in
    let n = c.look_at-found.result in
    let u : ℕ = n / 2 in
    let row = c.in-Some-row_of.row in
    let w = c.in-Some.want.now in
    let more = c.in-Some.more.now in
    let odd = c.if-found-eq1.false in
    let less = c.if-want-used.false in
    let same = c.if-claim_at-found.false in
    let here : get_elem? comps row ≡ some w.comp.0 =
    subst (λ (rows : List (CompId × ℕ)). IsRowOf
    (row_comps rows) c.in-Some-row_of.row c.in-Some.want.now.comp.0)
    (c.as_slice.ensures.rows ∙ ap (λ (v : Tabled). v.rows) c.self.view_is)
    c.in-Some-row_of.ensures.row in
    let cases = c.in-Some.ensures.cases in
    let looked : c.look_at-found.new.token.me.0 ≡ with_note
    (note row n (claims_on row c.args.token.now.me.0.claims) Look) c.args.token.now.me.0 =
    ap (λ m. m.0) c.look_at-found.ensures.noted in
    let hit : c.claim_at.new.token.me.0 ≡ knows
    (claim row (c.claim_at.result / 2) false ∷ c.look_at-found.new.token.me.0.claims)
    c.look_at-found.new.token.me.0.notes c.args.asked.now c.look_at-found.new.token.me.0.grants
    c.look_at-found.new.token.me.0.counts =
    ap (λ m. m.0) (c.claim_at.ensures.hit (omega (arith, same, odd))) in
    let claims : c.claim_at.new.token.me.0.claims ≡ claim row u false
    ∷ c.args.token.now.me.0.claims =
    ap (λ (v : Knowledge). v.claims) hit ∙ (ap (λ (l : List Claim). claim row
    (c.claim_at.result / 2) false ∷ l) (ap (λ (v : Knowledge). v.claims) looked)
    ∙ ap (λ (k : ℕ). claim row (k / 2) false ∷ c.args.token.now.me.0.claims) same) in
    let covers = covers_more comps c.args.token.now.me.0.claims
    (claim row u false) w c.args.asked.now.wants more
    (subst (Covers comps c.args.token.now.me.0.claims c.args.asked.now.wants) cases.0 r.covers)
    here (omega (arith, less)) in
    let rises = rises_later r.covers.0 (w ∷ more)
    (subst (λ (l : List Want). Rises (components_of l))
    (r.covers.1 ∙ ap (λ (l : List Want). r.covers.0 ++ l) cases.0)
    (rises_from_increasing (components_of c.args.asked.now.wants) r.wants.rising)) in
    let free = free_more comps c.args.token.now.me.0.claims (claim row u false) w more here rises.0
    (subst (AllByRecursion (IsFree comps c.args.token.now.me.0.claims)) cases.0 r.free).1 in
    let rows = (subst (AllByRecursion (HasRow comps)) cases.0 r.rows).1 in (
      search (rules, cases),
      (
        search rules,
        (
          subst (AllByRecursion IsNotDue) (sym claims) (refl, r.idle),
          (
            subst (λ (l : List Claim). Covers comps l c.args.asked.now.wants more)
                (sym claims) covers,
            (
              subst (λ (l : List Claim). AllByRecursion (IsFree comps l) more) (sym claims) free,
              (rows, (r.wants, (r.small, inr (ap (λ (v : Knowledge). v.asked) hit)))),
            ),
          ),
        ),
      ),
    )

pub give_at-requires-clause-number : goal.give_at-requires-clause-number
give_at-requires-clause-number t c =
    let r = c.requires in
    let whole : c.args.asked.now.wants ≡ r.covers.0 ++ c.in-Some.want.now ∷ c.in-Some.more.now =
    r.covers.1 ∙ ap (λ (l : List Want). r.covers.0 ++ l) c.in-Some.ensures.cases.0 in
    let small = each_middle IsSmall r.covers.0 c.in-Some.more.now c.in-Some.want.now
    (subst (AllByRecursion IsSmall) whole r.small) in
    number_small c.reserve_rest-answer.result
    (is_moved c.in-Some.want.now.role) c.in-Some.want.now.number
    (c.look_at-found.result / 2) c.number_after-number.result small
    (search rules) c.number_after-number.ensures

pub give_at-requires-clause-claim : goal.give_at-requires-clause-claim
give_at-requires-clause-claim t c =
    let r = c.requires in
    let comps = row_comps c.args.self.now.rows in
    let n = c.look_at-found.result in
    let u : ℕ = n / 2 in
    let row = c.in-Some-row_of.row in
    let w = c.in-Some.want.now in
    let more = c.in-Some.more.now in
    let odd = c.if-found-eq1.false in
    let less = c.if-want-used.false in
    let same = c.if-claim_at-found.false in
    let ans = c.reserve_rest-answer.result in
    let here : get_elem? comps row ≡ some w.comp.0 =
    subst (λ (rows : List (CompId × ℕ)). IsRowOf
    (row_comps rows) c.in-Some-row_of.row c.in-Some.want.now.comp.0)
    (c.as_slice.ensures.rows ∙ ap (λ (v : Tabled). v.rows) c.self.view_is)
    c.in-Some-row_of.ensures.row in
    let looked : c.look_at-found.new.token.me.0 ≡ with_note
    (note row n (claims_on row c.args.token.now.me.0.claims) Look) c.args.token.now.me.0 =
    ap (λ m. m.0) c.look_at-found.ensures.noted in
    let hit = ap (λ m. m.0) (c.claim_at.ensures.hit (omega (arith, same, odd))) in
    let claims : c.claim_at.new.token.me.0.claims ≡ claim row u false
    ∷ c.args.token.now.me.0.claims =
    ap (λ (v : Knowledge). v.claims) hit ∙ (ap (λ (l : List Claim). claim row
    (c.claim_at.result / 2) false ∷ l) (ap (λ (v : Knowledge). v.claims) looked)
    ∙ ap (λ (k : ℕ). claim row (k / 2) false ∷ c.args.token.now.me.0.claims) same) in
    let has = c.reserve_rest-answer.ensures.claims
    ∙ (ap (claims_after ans) claims ∙ claims_head ans row u c.args.token.now.me.0.claims) in
    let whole : c.args.asked.now.wants ≡ r.covers.0 ++ w ∷ more = r.covers.1
    ∙ ap (λ (l : List Want). r.covers.0 ++ l) c.in-Some.ensures.cases.0 in
    let rises = subst (λ (l : List Want). Rises (components_of l)) whole
    (rises_from_increasing (components_of c.args.asked.now.wants) r.wants.rising) in
    let moved : moved_in c.args.asked.now.wants w.comp.0 ≡ owing (is_moved w.role) w.number =
    ap (λ (l : List Want). moved_in l w.comp.0) whole ∙ moved_here r.covers.0 more w rises in
    let owes = granted_map ans (λ (e : c.reserve_rest-answer.new.token.me.0.asked
    ≡ c.args.asked.now). ap (λ (g : Request). moved_in g.wants w.comp.0) e ∙ moved)
    c.reserve_rest-answer.ensures.asked in (
      claim row u (is_granted ans),
      claims_after ans c.args.token.now.me.0.claims,
      w.comp.0,
      has,
      refl,
      here,
      c.number_after-number.ensures
          ∙ number_is ans (is_moved w.role) w.number u
          (moved_in c.reserve_rest-answer.new.token.me.0.asked.wants w.comp.0)
          (omega (arith, less)) owes,
    )

pub returns-clause-answer : goal.returns-clause-answer
returns-clause-answer t c =
    let n = c.look_at-found.result in
    let row = c.in-Some-row_of.row in
    let odd = c.if-found-eq1.false in
    let same = c.if-claim_at-found.false in
    let own : ℕ = claims_on row c.args.token.now.me.0.claims in
    let mine : ℕ = claims_on row c.reserve_rest-answer.new.token.me.0.claims in
    let looked : c.look_at-found.new.token.me.0 ≡ with_note
    (note row n own Look) c.args.token.now.me.0 = ap (λ m. m.0) c.look_at-found.ensures.noted in
    let hit = ap (λ m. m.0) (c.claim_at.ensures.hit (omega (arith, same, odd))) in
    let gave = ap (λ m. m.0) c.give_at.ensures.given in
    answered_out (row_comps c.args.self.now.rows)
    (asked_by c.args.asked.now) c.reserve_rest-answer.result (note row n own Look)
    (note row (2 * c.number_after-number.result) mine Wrote) c.args.token.now.me.0
    c.claim_at.new.token.me.0 c.reserve_rest-answer.new.token.me.0 c.give_at.new.token.me.0
    (ap (λ (v : Knowledge). v.grants) hit ∙ ap (λ (v : Knowledge). v.grants) looked)
    (ap (λ (v : Knowledge). v.notes) hit ∙ ap (λ (v : Knowledge). v.notes) looked)
    (ap (λ (v : Knowledge). v.grants) gave)
    (ap (λ (v : Knowledge). v.notes) gave)
    c.reserve_rest-answer.ensures.answer

pub returns-clause-once : goal.returns-clause-once
returns-clause-once t c =
    let comps = row_comps c.args.self.now.rows in
    let row = c.in-Some-row_of.row in
    let here : IsRowOf comps row c.in-Some.want.now.comp.0 =
    subst (λ (rows : List (CompId × ℕ)). IsRowOf
    (row_comps rows) c.in-Some-row_of.row c.in-Some.want.now.comp.0)
    (c.as_slice.ensures.rows ∙ ap (λ (v : Tabled). v.rows) c.self.view_is)
    c.in-Some-row_of.ensures.row in
    let n = c.look_at-found.result in
    let odd = c.if-found-eq1.false in
    let same = c.if-claim_at-found.false in
    let hit = ap (λ m. m.0.notes) (c.claim_at.ensures.hit (omega (arith, same, odd))) in
    once_around comps c.args.rest.now c.in-Some.more.now c.in-Some.want.now
    c.reserve_rest-answer.result row n (claims_on row c.args.token.now.me.0.claims)
    (2 * c.number_after-number.result) (claims_on row
    c.reserve_rest-answer.new.token.me.0.claims) c.args.token.now.me.0 c.claim_at.new.token.me.0
    c.reserve_rest-answer.new.token.me.0 c.give_at.new.token.me.0 c.in-Some.ensures.cases.0
    (tried_more c.reserve_rest-answer.result c.args.asked.now.wants c.requires.covers.0
    c.args.rest.now c.in-Some.more.now c.in-Some.want.now c.requires.wants.rising
    c.requires.covers.1 c.in-Some.ensures.cases.0 c.reserve_rest-answer.ensures.within)
    here
    (hit ∙ ap (λ m. m.0.notes) c.look_at-found.ensures.noted)
    (ap (λ m. m.0.notes) c.give_at.ensures.given)
    c.reserve_rest-answer.ensures.once

pub returns-in_default-clause-once : goal.returns-in_default-clause-once
returns-in_default-clause-once t c = once_drawn
    (row_comps c.args.self.now.rows) c.args.rest.now c.draw.result c.args.token.now.me.0
    c.draw.new.token.me.0 (empty_is c.args.rest.now c.in_default.ensures.cases)
    (ap (λ m. m.0.notes) c.draw.ensures.drawn)

pub returns-clause-written : goal.returns-clause-written
returns-clause-written t c =
    let comps = row_comps c.args.self.now.rows in
    let row = c.in-Some-row_of.row in
    let here : IsRowOf comps row c.in-Some.want.now.comp.0 =
    subst (λ (rows : List (CompId × ℕ)). IsRowOf
    (row_comps rows) c.in-Some-row_of.row c.in-Some.want.now.comp.0)
    (c.as_slice.ensures.rows ∙ ap (λ (v : Tabled). v.rows) c.self.view_is)
    c.in-Some-row_of.ensures.row in
    written_more comps c.reserve_rest-answer.result c.args.rest.now c.in-Some.more.now
    c.in-Some.want.now row (c.look_at-found.result / 2) c.number_after-number.result
    (claims_on row c.reserve_rest-answer.new.token.me.0.claims)
    c.reserve_rest-answer.new.token.me.0 c.give_at.new.token.me.0 c.in-Some.ensures.cases.0 here
    c.number_after-number.ensures (ap (λ m. m.0.notes) c.give_at.ensures.given)
    c.reserve_rest-answer.ensures.written

pub returns-then-found-eq1-clause-order : goal.returns-then-found-eq1-clause-order
returns-then-found-eq1-clause-order t c = refused_first
    (FoundFresh (row_comps c.args.self.now.rows) c.args.token.now.me.0
    c.look_at-found.new.token.me.0) c.args.asked.now.wants c.requires.covers.0 c.args.rest.now
    c.in-Some.more.now c.in-Some.want.now c.requires.wants.rising c.requires.covers.1
    c.in-Some.ensures.cases.0

pub returns-then-want-used-clause-order : goal.returns-then-want-used-clause-order
returns-then-want-used-clause-order t c = refused_first
    (FoundFresh (row_comps c.args.self.now.rows) c.args.token.now.me.0
    c.look_at-found.new.token.me.0) c.args.asked.now.wants c.requires.covers.0 c.args.rest.now
    c.in-Some.more.now c.in-Some.want.now c.requires.wants.rising c.requires.covers.1
    c.in-Some.ensures.cases.0

pub returns-then-claim_at-found-clause-order : goal.returns-then-claim_at-found-clause-order
returns-then-claim_at-found-clause-order t c =
    refused_first (FoundFresh (row_comps c.args.self.now.rows) c.args.token.now.me.0
    c.claim_at.new.token.me.0) c.args.asked.now.wants c.requires.covers.0 c.args.rest.now
    c.in-Some.more.now c.in-Some.want.now c.requires.wants.rising c.requires.covers.1
    c.in-Some.ensures.cases.0

pub returns-in_default-clause-order : goal.returns-in_default-clause-order
returns-in_default-clause-order t c = subst (AllByRecursion
    (FoundFresh (row_comps c.args.self.now.rows) c.args.token.now.me.0 c.draw.new.token.me.0))
    (sym (empty_is c.args.rest.now c.in_default.ensures.cases)) tt

pub returns-clause-order : goal.returns-clause-order
returns-clause-order t c =
    let comps = row_comps c.args.self.now.rows in
    let row = c.in-Some-row_of.row in
    let claims = c.args.token.now.me.0.claims in
    let here : IsRowOf comps row c.in-Some.want.now.comp.0 =
    subst (λ (rows : List (CompId × ℕ)). IsRowOf
    (row_comps rows) c.in-Some-row_of.row c.in-Some.want.now.comp.0)
    (c.as_slice.ensures.rows ∙ ap (λ (v : Tabled). v.rows) c.self.view_is)
    c.in-Some-row_of.ensures.row in
    let free = (subst (AllByRecursion (IsFree comps claims)) c.in-Some.ensures.cases.0
    c.requires.free).0 row here in
    let n = c.look_at-found.result in
    let odd = c.if-found-eq1.false in
    let less = c.if-want-used.false in
    let same = c.if-claim_at-found.false in
    let hit = ap (λ m. m.0.notes) (c.claim_at.ensures.hit (omega (arith, same, odd))) in
    in_order comps c.reserve_rest-answer.result c.args.rest.now c.in-Some.more.now
    c.in-Some.want.now row n (claims_on row claims)
    (note row (2 * c.number_after-number.result)
    (claims_on row c.reserve_rest-answer.new.token.me.0.claims) Wrote) c.args.token.now.me.0
    c.claim_at.new.token.me.0 c.reserve_rest-answer.new.token.me.0 c.give_at.new.token.me.0
    c.in-Some.ensures.cases.0 here (omega (arith, odd)) free (omega (arith, less))
    (hit ∙ ap (λ m. m.0.notes) c.look_at-found.ensures.noted)
    (ap (λ m. m.0.notes) c.give_at.ensures.given)
    c.reserve_rest-answer.ensures.once.keeps
    c.reserve_rest-answer.ensures.order

pub returns-then-found-eq1-clause-within : goal.returns-then-found-eq1-clause-within
returns-then-found-eq1-clause-within t c = refused_here c.args.rest.now c.in-Some.more.now
    c.in-Some.want.now c.in-Some.ensures.cases.0

pub returns-then-want-used-clause-within : goal.returns-then-want-used-clause-within
returns-then-want-used-clause-within t c = refused_here c.args.rest.now c.in-Some.more.now
    c.in-Some.want.now c.in-Some.ensures.cases.0

pub returns-then-claim_at-found-clause-within : goal.returns-then-claim_at-found-clause-within
returns-then-claim_at-found-clause-within t c =
    refused_here c.args.rest.now c.in-Some.more.now c.in-Some.want.now c.in-Some.ensures.cases.0

pub returns-clause-within : goal.returns-clause-within
returns-clause-within t c = refused_later c.reserve_rest-answer.result c.args.rest.now
    c.in-Some.more.now c.in-Some.want.now c.in-Some.ensures.cases.0
    c.reserve_rest-answer.ensures.within
