-- The rule says what a reader expects of it.
use Rattle.std.proofs.Common.{◌≡◌, ℕ, zero, suc, ◌+◌, ◌/◌, ◌<◌, List, [], ◌∷◌, length, refl, sym}
use Rattle.std.proofs.Common.{ap, ◌∙◌, subst, arith, ◌*◌, ◌≤◌, true, false, ⊎_elim, eq-eqb, ne_eqb}
use mathlib.Core.Option.{some}
use lib.ListN.{get_elem?}
use Rattle.atomic_table.specs.Table.{State}
use Rattle.bip_model.specs.Grants.{used_by}
use Rattle.bip_model.specs.declared.grants.Grant.{Grant}
use Rattle.bip_model.specs.declared.numbering.CompId.{CompId}
use Rattle.bip_model.specs.Wants.{moved_in}
use Rattle.std.specs.List.{AllByRecursion}
use mathlib.Core.Logic.{dite}
use native.Mathlib.Decide.{ℕ_discrete}
use Rattle.bip_model.specs.declared.messages.Request.{Request}
use Rattle.bip_words.proofs.OwedLemmas.{alone, nobody_owes, none_due}
use Rattle.bip_words.proofs.Passes.{Stands}
use Rattle.bip_words.proofs.RuleLemmas.{stands}
use Rattle.bip_words.proofs.Totals.{off_row, total_at}
use Rattle.bip_words.specs.Knowledge.{claims_on, seen_in}
use Rattle.bip_words.specs.Laws.{WordsSay, is_drawn, others_log}
use Rattle.bip_words.specs.Rows.{IsRowOf, floor_of, row_comps}
use Rattle.bip_words.specs.Rule.{IsClaimIn, IsDue, IsKept, IsNotDue, IsSeenIn, IsUsedBy, but_serial}
use Rattle.bip_words.specs.Rule.{claims_of, log_of, row_word}
use Rattle.bip_words.specs.declared.knowledge.Claim.{Claim}
use Rattle.bip_words.specs.declared.knowledge.Knowledge.{Knowledge}
use Rattle.bip_words.specs.declared.knowledge.Note.{Note}

at_below : (l : List ℕ) (r c : ℕ) → get_elem? l r ≡ some c → r < length l
at_below [] r c at = cc
at_below (x ∷ xs) zero c at = omega arith
at_below (x ∷ xs) (suc r) c at = let ih = at_below xs r c at in omega (arith, ih)

none_drawn : (cs : List Claim) → AllByRecursion IsNotDue cs → is_drawn cs ≡ false
none_drawn [] none = refl
none_drawn (c ∷ cs) none = none.0

all_drawn : (r : ℕ) (cs : List Claim) → 0 < claims_on r cs → AllByRecursion IsDue cs
    → is_drawn cs ≡ true
all_drawn r [] some_claim dues = absurd (omega arith)
all_drawn r (c ∷ cs) some_claim dues = dues.0

-- a claimed row's word is that of the used number
claim_used : (comps : List ℕ) (floor : ℕ → ℕ) (log : List Grant) (rows : ℕ) (words : List ℕ)
    (r c : ℕ) (cs : List Claim) → IsRowOf comps r c → 0 < claims_on r cs
    → AllByRecursion (IsClaimIn rows words) cs → AllByRecursion (IsUsedBy comps floor log) cs
    → row_word words r ≡ 2 * used_by floor log c + 1
claim_used comps floor log rows words r c [] row some_claim all used = absurd (omega arith)
claim_used comps floor log rows words r c (x ∷ xs) row some_claim all used =
    dite (ℕ_discrete x.row r)
    (λ e.
    let u : used_by floor log c ≡ x.used = used.0 c (ap (get_elem? comps) e ∙ row) in
    let w = all.0.1 in
    ap (row_word words) (sym e) ∙ omega (arith, u, w))
    (λ ne. claim_used comps floor log rows words r c xs row
    (let o = off_row r x xs ne in omega (arith, o, some_claim)) all.1 used.1)

pub seen_most : (words : List ℕ) (r : ℕ) (ns : List Note) → AllByRecursion (IsSeenIn words) ns
    → seen_in r ns ≤ row_word words r / 2
seen_most words r [] all = omega arith
seen_most words r (n ∷ ns) all =
    let rest = seen_most words r ns all.1 in
    dite (ℕ_discrete n.row r)
    (λ e.
    let here : n.word / 2 ≤ row_word words r / 2 =
    subst (λ (k : ℕ). n.word / 2 ≤ row_word words k / 2) e all.0 in
    rw (eq-eqb n.row r e) (omega (arith, here, rest)))
    (λ ne. rw (ne_eqb n.row r ne) (omega (arith, rest)))

pub reads : (rows : List (CompId × ℕ)) (s : State Request Knowledge) → IsKept rows s
    → WordsSay rows s
reads rows s h = record {
  serials = h.serials;
  history = h.history;
  even = λ r c there even.
      let none = k.first.claims r (at_below comps r c there) ∙ even in
      let owes = nobody_owes (length comps) s.words s.views r c k.first
      (at_below comps r c there) even in
      let u = h.used r c there in
      (none, omega (arith, owes, u, even));
  odd = λ r c there odd. k.first.claims r (at_below comps r c there) ∙ odd;
  claimer = claimer;
  seen = λ r j v at. seen_most s.words r v.notes (h.known j v at).1;
  counted = λ j v at. (h.known j v at).2;
}
  where
    comps : List ℕ
    comps = row_comps rows

    floor : ℕ → ℕ
    floor = floor_of rows

    k : Stands rows s
    k = stands rows s h

    claimer : (r c j : ℕ) (v : Knowledge) → IsRowOf comps r c → get_elem? s.views j ≡ some v
        → 0 < claims_on r v.claims → row_word s.words r ≡ 2 * used_by floor
        (others_log v (log_of s)) c + 1
    claimer r c j v there at some_claim = ⊎_elim waits flies (h.flight j v at)
      where
        waits : AllByRecursion IsNotDue v.claims
            → row_word s.words r ≡ 2 * used_by floor (others_log v (log_of s)) c + 1
        waits none =
            let mine = none_due r (moved_in v.asked.wants c) v.claims none in
            let all = alone (length comps) s.words s.views j r c v k.first at
            (at_below comps r c there) some_claim in
            let most = total_at (claims_of r) s.views j v at in
            let word = k.first.claims r (at_below comps r c there) in
            let u = h.used r c there in
            rw (none_drawn v.claims none) (omega (arith, mine, all, most, word, u, some_claim))

        flies : ((p : ℕ × Grant) × (rest : List (ℕ × Grant)) × (v.grants ≡ p ∷ rest)
            × AllByRecursion IsDue v.claims × (p.0 < length (log_of s))
            × AllByRecursion (IsUsedBy comps floor (but_serial p.0 (log_of s))) v.claims)
            → row_word s.words r ≡ 2 * used_by floor (others_log v (log_of s)) c + 1
        flies f = rw (all_drawn r v.claims some_claim f.3, f.2)
            (claim_used comps floor (but_serial f.0.0 (log_of s))
            (length rows) s.words r c v.claims there some_claim (h.known j v at).0 f.5)
