-- What the last state of a table says.
use Rattle.std.proofs.Common.{◌≡◌, ◌≢◌, ℕ, zero, suc, ◌+◌, ◌/◌, ◌<◌, ◌≤◌, max, List, [], ◌∷◌, ◌++◌}
use Rattle.std.proofs.Common.{length, set, take, drop, append_assoc, refl, sym, ap, ◌∙◌, subst}
use Rattle.std.proofs.Common.{⊎_elim, inl, arith}
use Rattle.std.specs.Prelude.{slice_index, slice_get}
use Rattle.std.proofs.lemmas.Bool.Decides.{nat_tests}
use mathlib.Core.Option.{some, some-injective}
use lib.ListN.{get_elem?}
use Rattle.atomic_table.specs.Table.{State}
use Rattle.bip_model.specs.Grants.{IsHistory, used_by}
use Rattle.bip_model.specs.Wants.{moved_in}
use Rattle.bip_model.specs.declared.grants.Grant.{Grant}
use Rattle.bip_model.specs.declared.numbering.CompId.{CompId}
use Rattle.atomic_table.proofs.Lists.{at_set}
use Rattle.std.specs.List.{AllByRecursion, flat_map}
use Rattle.bip_model.specs.declared.messages.Request.{Request}
use Rattle.bip_words.proofs.LawLemmas.{seen_most}
use Rattle.bip_words.proofs.OwedLemmas.{none_due}
use Rattle.bip_words.proofs.Passes.{OwesGranted, Stands, count_of, grants_of}
use Rattle.bip_words.proofs.RuleLemmas.{ordered}
use Rattle.bip_words.proofs.Totals.{total_at, total_set}
use Rattle.bip_words.specs.Closing.{IsClosedBy, IsExplained, IsUsedRow, LacksGrants, notes_of}
use Rattle.bip_words.specs.Closing.{parts_of, rows_by}
use Rattle.bip_words.specs.Knowledge.{grants_at, nobody, seen_in}
use Rattle.bip_words.specs.Rows.{floor_of, row_comps, with_number}
use Rattle.bip_words.specs.Rule.{IsCountedIn, IsNotDue, IsPlaced, by_order, from_serial, owed_of}
use Rattle.bip_words.specs.Rule.{total}
use Rattle.bip_words.specs.Tables.{Seated}
use Rattle.bip_words.specs.declared.knowledge.Knowledge.{Knowledge}
use Rattle.bip_words.specs.declared.knowledge.Note.{Note}

none_granted : (k : ℕ) (views : List Knowledge) → total count_of views ≡ 0
    → total (grants_of k) views ≡ 0
none_granted k [] none = refl
none_granted k (v ∷ vs) none =
    let rest = none_granted k vs (omega (arith, none)) in
    let head : grants_of k v ≡ 0 = empty v.grants (omega (arith, none)) in
    omega (arith, rest, head)
  where
    empty : (l : List (ℕ × Grant)) → length l ≡ 0 → grants_at k l ≡ 0
    empty [] e = refl
    empty (x ∷ xs) e = absurd (omega (arith, e))

none_owed : (r c : ℕ) (views : List Knowledge) → total count_of views ≡ 0
    → ((j : ℕ) (u : Knowledge) → get_elem? views j ≡ some u → OwesGranted u)
    → total (owed_of r c) views ≡ 0
none_owed r c [] none all = refl
none_owed r c (v ∷ vs) none all =
    let rest = none_owed r c vs (omega (arith, none)) (λ j u there. all (suc j) u there) in
    let head : owed_of r c v ≡ 0 = ⊎_elim (none_due r (moved_in v.asked.wants c) v.claims)
    (λ (some_grant : 0 < length v.grants). absurd (omega (arith, none, some_grant)))
    (all 0 v refl) in
    omega (arith, rest, head)

same_comps : (k : ℕ) (words : List ℕ) (key : List (CompId × ℕ))
    → row_comps (rows_by k words key) ≡ row_comps key
same_comps k words [] = refl
same_comps k words (e ∷ es) = ap (λ (l : List ℕ). e.0.0 ∷ l) (same_comps (suc k) words es)

used_rows : (floor : ℕ → ℕ) (log : List Grant) (k : ℕ) (words : List ℕ) (key : List (CompId × ℕ))
    → ((r c : ℕ) → get_elem? (row_comps key) r ≡ some c
    → slice_index words (suc (k + r)) / 2 ≡ used_by floor log c)
    → AllByRecursion (IsUsedRow floor log) (rows_by k words key)
used_rows floor log k words [] all = tt
used_rows floor log k words (e ∷ es) all = (
  subst (λ (i : ℕ). slice_index words (suc i) / 2 ≡ used_by floor log e.0.0) (omega arith)
      (all 0 e.0.0 refl),
  used_rows floor log (suc k) words es (λ r c there.
      subst (λ (i : ℕ). slice_index words (suc i) / 2 ≡ used_by floor log c) (omega arith)
      (all (suc r) c there)),
)

pub most_listed : (key : List (CompId × ℕ)) (s : State Request Knowledge) (id : ℕ) (v : Knowledge)
    → Stands key s → get_elem? s.views id ≡ some v → length v.grants ≤ slice_index s.words 0
most_listed key s id v h at = let most = total_at count_of s.views id v at in let all =
    h.second.counts in let is = h.second.ticket in omega (arith, most, all, is)

seen_append : (r : ℕ) (xs ys : List Note) → seen_in r (xs ++ ys) ≡ max (seen_in r xs) (seen_in r ys)
seen_append r [] ys = omega arith
seen_append r (x ∷ xs) ys = let ih = seen_append r xs ys in omega (arith, ih)

-- what explains the notes of all seats explains those of each
explained_each : (key : List (CompId × ℕ)) (log : List Grant) (seats : List Seated)
    → ((r c : ℕ) → get_elem? (row_comps key) r ≡ some c
    → seen_in r (notes_of seats) ≤ used_by (floor_of key) log c)
    → AllByRecursion (IsExplained key log) seats
explained_each key log [] most = tt
explained_each key log (s ∷ ss) most = (
  λ r c there. (let m = most r c there in let two = seen_append r s.knows.notes (notes_of ss) in
      omega (arith, m, two)),
  explained_each key log ss (λ r c there. let m = most r c there in let two =
      seen_append r s.knows.notes (notes_of ss) in omega (arith, m, two)),
)

-- all that was noted is explained
explained : (key : List (CompId × ℕ)) (s : State Request Knowledge) (id : ℕ) (v : Knowledge)
    (seats : List Seated) → (h : Stands key s) → get_elem? s.views id ≡ some v
    → v.notes ≡ notes_of seats → AllByRecursion (IsExplained key h.log) seats
explained key s id v seats h at notes =
    explained_each key h.log seats (λ r c there.
    let seen = seen_most s.words r v.notes (h.first.known id v at).1 in
    let used = h.second.used r c there in
    let here : seen_in r v.notes ≡ seen_in r (notes_of seats) = ap (seen_in r) notes in
    omega (arith, seen, used, here))

pub is_missing : (key : List (CompId × ℕ)) (s : State Request Knowledge) (id n : ℕ) (v : Knowledge)
    (seats : List Seated) → Stands key s → get_elem? s.views id ≡ some v → v.grants ≡ parts_of seats
    → v.notes ≡ notes_of seats → slice_index s.words 0 ≡ length v.grants + n → 0 < n
    → LacksGrants key seats n
is_missing key s id n v seats h at list notes count some_left = record {
  log = h.log;
  some_left = some_left;
  count = sym h.second.ticket ∙ (count ∙ ap (λ (l : List (ℕ × Grant)). length l + n) list);
  history = h.second.history;
  placed = subst (AllByRecursion (IsPlaced h.log)) list (h.second.placed id v at);
  seen = explained key s id v seats h at notes;
}

pub is_closed : (key : List (CompId × ℕ)) (s : State Request Knowledge) (id : ℕ) (v : Knowledge)
    (seats : List Seated) → Stands key s → get_elem? s.views id ≡ some v → v.claims ≡ []
    → v.grants ≡ parts_of seats → v.notes ≡ notes_of seats → slice_index s.words 0 ≡ length v.grants
    → IsClosedBy key seats (rows_by 0 s.words key) (slice_index s.words 0)
is_closed key s id v seats h at idle list notes count =
    let log = sym (ap by_order (sym list) ∙ same) in record {
      all = count ∙ ap length list;
      history = subst (IsHistory (floor_of key)) log h.second.history;
      in_order = subst (λ (l : List Grant). AllByRecursion (IsPlaced l) (parts_of seats)) log
          (subst (AllByRecursion (IsPlaced h.log)) list (h.second.placed id v at));
      same_rows = same_comps 0 s.words key;
      used = subst (λ (l : List Grant). AllByRecursion (IsUsedRow (floor_of key) l)
          (rows_by 0 s.words key)) log (used_rows (floor_of key) h.log 0 s.words key each);
      seen = subst (λ (l : List Grant). AllByRecursion (IsExplained key l) seats) log
          (explained key s id v seats h at notes);
    }
  where
    others : List Knowledge
    others = set s.views id nobody

    none : total count_of others ≡ 0
    none = let t = total_set count_of s.views id v nobody at in let all = h.second.counts in
        let is = h.second.ticket in omega (arith, t, all, is, count)

    owes : (j : ℕ) (u : Knowledge) → get_elem? others j ≡ some u → OwesGranted u
    owes j u there = ⊎_elim
        (λ (x : (j ≡ id) × (nobody ≡ u)). subst OwesGranted x.1 (inl tt))
        (λ (x : (j ≢ id) × (get_elem? s.views j ≡ some u)). h.second.flight j u x.1)
        (at_set s.views id j nobody u there)

    length_is : length v.grants ≡ length h.log
    length_is = sym count ∙ h.second.ticket

    one : (k : ℕ) → k < length h.log → 0 < grants_at (0 + k) v.grants
    one k below =
        let t = total_set (grants_of k) s.views id v nobody at in
        let z = none_granted k others none in
        let s1 : total (grants_of k) s.views ≡ 1 = h.second.serials k
        ∙ grind (arith, nat_tests, below) in
        subst (λ (i : ℕ). 0 < grants_at i v.grants) (omega arith)
        (let q : 0 < grants_at k v.grants = omega (arith, t, z, s1) in q)

    same : by_order v.grants ≡ h.log
    same = ap (λ (n : ℕ). from_serial 0 n v.grants) length_is
        ∙ ordered h.log v.grants 0 h.log (λ i. let e : 0 + i ≡ i = omega arith in
        ap (slice_get h.log) e) one (h.second.placed id v at)

    each : (r c : ℕ) → get_elem? (row_comps key) r ≡ some c
        → slice_index s.words (suc (0 + r)) / 2 ≡ used_by (floor_of key) h.log c
    each r c there =
        let t = total_set (owed_of r c) s.views id v nobody at in
        let z = none_owed r c others none owes in
        let mine : owed_of r c v ≡ 0 = none_due r (moved_in v.asked.wants c) v.claims
        (subst (AllByRecursion IsNotDue) (sym idle) tt) in
        let u = h.second.used r c there in
        let e : 0 + r ≡ r = omega arith in
        ap (λ (i : ℕ). slice_index s.words (suc i) / 2) e ∙ omega (arith, t, z, mine, u)

-- a seat with all grants counted them all
pub all_counted : (key : List (CompId × ℕ)) (s : State Request Knowledge) (id n : ℕ) (v : Knowledge)
    → Stands key s → get_elem? s.views id ≡ some v → v.counts ≡ n ∷ [] → length v.grants ≤ n
    → slice_index s.words 0 ≡ length v.grants → n ≡ slice_index s.words 0
all_counted key s id n v h at counts least all = let most =
    (subst (AllByRecursion (IsCountedIn s.words)) counts (h.first.known id v at).2).0 in
    omega (arith, most, least, all)

pub gathered : {A : Type 0} (f : Seated → List A) (ps : List Seated) (p : Seated) (rest : List A)
    → flat_map f (ps ++ p ∷ []) ++ rest ≡ flat_map f ps ++ (f p ++ rest)
gathered f [] p rest = append_assoc (f p) [] rest
gathered f (x ∷ xs) p rest = append_assoc (f x) (flat_map f (xs ++ p ∷ [])) rest
    ∙ (ap (λ l. f x ++ l) (gathered f xs p rest)
    ∙ sym (append_assoc (f x) (flat_map f xs) (f p ++ rest)))

pub each_split : {A : Type 0} (P : A → Type 0) (xs : List A) (x : A)
    → AllByRecursion P (xs ++ x ∷ []) → AllByRecursion P xs × P x
each_split P [] x all = (tt, all.0)
each_split P (y ∷ ys) x all = let rest = each_split P ys x all.1 in ((all.0, rest.0), rest.1)

-- rows are read one by one
abbrev pub rows_to : List ℕ → List (CompId × ℕ) → ℕ → ℕ → List (CompId × ℕ)
rows_to words xs k r = rows_by k words (take r xs) ++ drop r xs

pub row_read : (words : List ℕ) (xs : List (CompId × ℕ)) (k r n : ℕ) → r < length xs
    → n ≡ slice_index words (suc (k + r)) / 2
    → with_number (rows_to words xs k r) r n ≡ rows_to words xs k (suc r)
row_read words [] k r n below is = absurd (omega arith)
row_read words (x ∷ xs) k zero n below is =
    let e : k + 0 ≡ k = omega arith in
    rw (is, e) refl
row_read words (x ∷ xs) k (suc r) n below is =
    ap (λ (l : List (CompId × ℕ)). (x.0, slice_index words (suc k) / 2) ∷ l)
    (row_read words xs (suc k) r n (omega arith)
    (is ∙ (let e : k + suc r ≡ suc k + r = omega arith in
    ap (λ (i : ℕ). slice_index words (suc i) / 2) e)))

pub rows_length : (words : List ℕ) (xs : List (CompId × ℕ)) (k r : ℕ)
    → length (rows_to words xs k r) ≡ length xs
rows_length words [] k zero = refl
rows_length words [] k (suc r) = refl
rows_length words (x ∷ xs) k zero = refl
rows_length words (x ∷ xs) k (suc r) = ap suc (rows_length words xs (suc k) r)

pub rows_done : (words : List ℕ) (xs : List (CompId × ℕ)) (k r : ℕ) → length xs ≤ r
    → rows_to words xs k r ≡ rows_by k words xs
rows_done words [] k zero le = refl
rows_done words [] k (suc r) le = refl
rows_done words (x ∷ xs) k zero le = absurd (omega arith)
rows_done words (x ∷ xs) k (suc r) le = ap (λ (l : List (CompId × ℕ)).
    (x.0, slice_index words (suc k) / 2) ∷ l) (rows_done words xs (suc k) r (omega arith))

pub word_is : (ws : List ℕ) (i n : ℕ) → get_elem? ws i ≡ some n → slice_index ws i ≡ n
word_is [] i n at = cc
word_is (x ∷ xs) zero n at = some-injective x n at
word_is (x ∷ xs) (suc i) n at = word_is xs i n at
