-- The rule, and the two passes by which it is proved.
use Rattle.std.proofs.Common.{◌≡◌, ℕ, zero, suc, ◌+◌, ◌/◌, ◌<◌, ◌≤◌, max, List, [], ◌∷◌, length}
use Rattle.std.proofs.Common.{length-append, refl, sym, ap, ◌∙◌, subst, inl, inr, eq-eqb, ne_eqb}
use Rattle.std.proofs.Common.{arith, Some, ◌^◌}
use Rattle.std.specs.Prelude.{slice_index, slice_get, if◌then◌else◌, nat_lt}
use Rattle.std.specs.List.{AllByRecursion}
use Rattle.std.proofs.lemmas.Bool.Decides.{nat_tests}
use mathlib.Core.Option.{some, some-injective}
use mathlib.Core.Logic.{dite}
use native.Mathlib.Decide.{ℕ_discrete}
use lib.ListN.{get_elem?}
use Rattle.atomic_table.specs.Table.{State}
use Rattle.bip_model.proofs.NumberingLemmas.{Rises, rises_from_increasing}
use Rattle.bip_model.specs.Grants.{IsHistory, used_by}
use Rattle.bip_model.specs.declared.grants.Grant.{Grant}
use Rattle.bip_model.specs.declared.numbering.CompId.{CompId}
use Rattle.bip_model.specs.declared.messages.Request.{Request}
use Rattle.bip_words.proofs.LogLemmas.{grants_append}
use Rattle.bip_words.proofs.Passes.{AllFlyAlone, IsClaimed, OwesGranted, Stands, count_of}
use Rattle.bip_words.proofs.Passes.{grants_of}
use Rattle.bip_words.proofs.Totals.{each_append}
use Rattle.bip_words.specs.Knowledge.{grants_at}
use Rattle.bip_words.specs.Rows.{IsRows, floor_of, row_comps}
use Rattle.bip_words.specs.Rule.{FliesAlone, IsKept, IsPlaced, all_grants, from_serial, grant_with}
use Rattle.bip_words.specs.Rule.{log_of, opening_word, owed_of, row_word, total, weight}
use Rattle.bip_words.specs.declared.knowledge.Knowledge.{Knowledge}

pub length_comps : (key : List (CompId × ℕ)) → length (row_comps key) ≡ length key
length_comps [] = refl
length_comps (e ∷ es) = ap suc (length_comps es)

pub above_at : (x : ℕ) (xs : List ℕ) (r c : ℕ) → AllByRecursion (λ y. x < y) xs
    → get_elem? xs r ≡ some c → x < c
above_at x [] r c above at = cc
above_at x (y ∷ ys) zero c above at = subst (λ (k : ℕ). x < k) (some-injective y c at) above.0
above_at x (y ∷ ys) (suc r) c above at = above_at x ys r c above.1 at

pub apart_of : (xs : List ℕ) → Rises xs → (i j c : ℕ) → get_elem? xs i ≡ some c
    → get_elem? xs j ≡ some c → i ≡ j
apart_of [] rises i j c at there = cc
apart_of (x ∷ xs) rises zero zero c at there = refl
apart_of (x ∷ xs) rises zero (suc j) c at there = let less = above_at x xs j c rises.0 there in
    let same = some-injective x c at in absurd (omega (arith, less, same))
apart_of (x ∷ xs) rises (suc i) zero c at there = let less = above_at x xs i c rises.0 at in
    let same = some-injective x c there in absurd (omega (arith, less, same))
apart_of (x ∷ xs) rises (suc i) (suc j) c at there = ap suc (apart_of xs rises.1 i j c at there)

found : (log : List Grant) (k : ℕ) (g : Grant) (ps : List (ℕ × Grant)) → slice_get log k ≡ Some g
    → AllByRecursion (IsPlaced log) ps → 0 < grants_at k ps → grant_with k ps ≡ g
found log k g [] at all some_grant = absurd (omega arith)
found log k g (p ∷ ps) at all some_grant = dite (ℕ_discrete p.0 k)
    (λ e. let same : Some p.1 ≡ Some g = sym all.0 ∙ (ap (slice_get log) e ∙ at) in
    let it : p.1 ≡ g = cc in rw (eq-eqb p.0 k e) it)
    (λ ne. rw (ne_eqb p.0 k ne) (found log k g ps at all.1
    (let less = rw (ne_eqb p.0 k ne) at some_grant in omega (arith, less))))

-- each seat has its grant
pub ordered : (log : List Grant) (ps : List (ℕ × Grant)) (k : ℕ) (tail : List Grant)
    → ((i : ℕ) → slice_get log (k + i) ≡ slice_get tail i)
    → ((i : ℕ) → i < length tail → 0 < grants_at (k + i) ps) → AllByRecursion (IsPlaced log) ps
    → from_serial k (length tail) ps ≡ tail
ordered log ps k [] here there all = refl
ordered log ps k (g ∷ gs) here there all =
    let at : slice_get log k ≡ Some g = subst (λ (i : ℕ). slice_get log i ≡ Some g) (omega arith)
    (here 0) in
    let some_grant : 0 < grants_at k ps = subst (λ (i : ℕ). 0 < grants_at i ps) (omega arith)
    (there 0 (omega arith)) in
    let head = found log k g ps at all some_grant in
    let tail = ordered log ps (suc k) gs
    (λ i. let next : suc k + i ≡ k + suc i = omega arith in ap (slice_get log) next ∙ here (suc i))
    (λ i below. let next : suc k + i ≡ k + suc i = omega arith in
    subst (λ (j : ℕ). 0 < grants_at j ps) (sym next) (there (suc i) (omega arith))) all in
    rw (head, tail) refl

pub length_from : (k n : ℕ) (ps : List (ℕ × Grant)) → length (from_serial k n ps) ≡ n
length_from k zero ps = refl
length_from k (suc n) ps = ap suc (length_from (suc k) n ps)

pub parts_length : (views : List Knowledge) → length (all_grants views) ≡ total count_of views
parts_length [] = refl
parts_length (v ∷ vs) = length-append v.grants (all_grants vs)
    ∙ ap (λ (k : ℕ). length v.grants + k) (parts_length vs)

pub parts_at : (k : ℕ) (views : List Knowledge)
    → grants_at k (all_grants views) ≡ total (grants_of k) views
parts_at k [] = refl
parts_at k (v ∷ vs) = grants_append k v.grants (all_grants vs)
    ∙ ap (λ (n : ℕ). grants_at k v.grants + n) (parts_at k vs)

parts_placed : (log : List Grant) (views : List Knowledge)
    → ((j : ℕ) (v : Knowledge) → get_elem? views j ≡ some v
    → AllByRecursion (IsPlaced log) v.grants) → AllByRecursion (IsPlaced log) (all_grants views)
parts_placed log [] all = tt
parts_placed log (v ∷ vs) all = each_append (IsPlaced log) v.grants (all_grants vs) (all 0 v refl)
    (parts_placed log vs (λ j u there. all (suc j) u there))

-- the log of the passes is that of the rule
pub order_is : (key : List (CompId × ℕ)) (s : State Request Knowledge) → (h : Stands key s)
    → log_of s ≡ h.log
order_is key s h =
    ap (λ (n : ℕ). from_serial 0 n (all_grants s.views)) (parts_length s.views ∙ h.second.counts)
    ∙ ordered h.log (all_grants s.views) 0 h.log
    (λ i. let e : 0 + i ≡ i = omega arith in ap (slice_get h.log) e)
    (λ i below.
    let one : grants_at i (all_grants s.views) ≡ 1 = parts_at i s.views
    ∙ (h.second.serials i ∙ grind (arith, nat_tests, below)) in
    let e : i ≡ 0 + i = omega arith in
    subst (λ (j : ℕ). 0 < grants_at j (all_grants s.views)) e
    (let q : 0 < grants_at i (all_grants s.views) = omega (arith, one) in q))
    (parts_placed h.log s.views h.second.placed)

-- who owes has the grant
owes_granted : (comps : List ℕ) (floor : ℕ → ℕ) (log : List Grant) (v : Knowledge)
    → FliesAlone comps floor log v → OwesGranted v
owes_granted comps floor log v (inl none) = inl none
owes_granted comps floor log v (inr f) = inr (let l =
    ap (λ (ps : List (ℕ × Grant)). length ps) f.2 in omega (arith, l))

pub stands : (rows : List (CompId × ℕ)) (s : State Request Knowledge) → IsKept rows s
    → Stands rows s
stands rows s h =
    let same = length_comps rows in
    let log_length : length (log_of s) ≡ length (all_grants s.views) =
    length_from 0 (length (all_grants s.views)) (all_grants s.views) in
    let count = h.count in
    let ticket : slice_index s.words 0 ≡ length (log_of s) = sym count ∙ sym log_length in
    record {
      log = log_of s;
      first = subst (λ (n : ℕ). IsClaimed n s.words s.views) (sym same)
          (record { size = h.size; claims = h.claims; known = h.known });
      second = record {
        apart = apart_of (row_comps rows) (rises_from_increasing (row_comps rows) h.valid.rising);
        few = let f = h.valid.few in omega (arith, f, same);
        opening = subst (λ (n : ℕ). (r c : ℕ) → get_elem? (row_comps rows) r ≡ some c
            → opening_word s.words n r ≡ floor_of rows c) (sym same) h.opening;
        ticket = ticket;
        history = h.history;
        used = h.used;
        small = h.small;
        rises = h.rises;
        serials = λ k. sym (parts_at k s.views)
            ∙ (h.serials k ∙ ap (λ (n : ℕ). if nat_lt k n then 1 else 0) ticket);
        counts = sym (parts_length s.views) ∙ sym log_length;
        placed = h.in_order;
        flight = λ j v at. owes_granted (row_comps rows) (floor_of rows) (log_of s) v
            (h.flight j v at);
      };
      third = h.flight;
    }

pub kept : (rows : List (CompId × ℕ)) (s : State Request Knowledge) → IsRows rows → Stands rows s
    → IsKept rows s
kept rows s valid k =
    let same = length_comps rows in
    let order = sym (order_is rows s k) in
    let first = subst (λ (n : ℕ). IsClaimed n s.words s.views) same k.first in
    record {
      valid = valid;
      size = first.size;
      opening = subst (λ (n : ℕ). (r c : ℕ) → get_elem? (row_comps rows) r ≡ some c
          → opening_word s.words n r ≡ floor_of rows c) same k.second.opening;
      count = parts_length s.views ∙ (k.second.counts ∙ sym k.second.ticket);
      serials = λ i. parts_at i s.views ∙ (k.second.serials i
          ∙ ap (λ (n : ℕ). if nat_lt i n then 1 else 0) (sym k.second.ticket));
      history = subst (IsHistory (floor_of rows)) order k.second.history;
      claims = first.claims;
      known = first.known;
      used = subst (λ (log : List Grant). (r c : ℕ) → get_elem? (row_comps rows) r ≡ some c
          → used_by (floor_of rows) log c ≡ max (row_word s.words r / 2)
          (total (owed_of r c) s.views)) order k.second.used;
      flight = subst (λ (log : List Grant). AllFlyAlone (row_comps rows)
          (floor_of rows) s.views log) order k.third;
      in_order = subst (λ (log : List Grant). (j : ℕ) (v : Knowledge) → get_elem? s.views j ≡ some v
          → AllByRecursion (IsPlaced log) v.grants) order k.second.placed;
      small = subst (λ (log : List Grant). (r c : ℕ) → get_elem? (row_comps rows) r ≡ some c
          → used_by (floor_of rows) log c < 2 ^ 58) order k.second.small;
      rises = subst (λ (log : List Grant). length log + weight (floor_of rows) (row_comps rows)
          ≤ weight (used_by (floor_of rows) log) (row_comps rows)) order k.second.rises;
    }
