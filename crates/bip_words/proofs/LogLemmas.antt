-- The second pass: tickets, the grants by serial, and the history.
use Rattle.std.proofs.Common.{◌≡◌, ◌≢◌, ℕ, zero, suc, ◌+◌, ◌*◌, ◌/◌, ◌<◌, ◌≤◌, max, List, [], ◌∷◌}
use Rattle.std.proofs.Common.{◌++◌, length, length-append, set, refl, sym, ap, ◌∙◌, subst, ⊎_elim}
use Rattle.std.proofs.Common.{inl, inr, arith}
use Rattle.std.specs.Prelude.{slice_index, if◌then◌else◌, nat_lt, ◌==◌}
use Rattle.std.proofs.lemmas.Bool.Decides.{nat_tests}
use mathlib.Core.Option.{some, some-injective}
use mathlib.Core.Logic.{dite}
use native.Mathlib.Decide.{ℕ_discrete}
use lib.ListN.{get_elem?}
use Rattle.atomic_table.proofs.Lists.{at_set, at_snoc, set_else, set_here}
use Rattle.bip_model.proofs.HistoryLemmas.{IsHistory-append, moved_above, used_by-push}
use Rattle.bip_model.specs.Grants.{used_by}
use Rattle.bip_model.specs.Wants.{moved_in, IsFresh}
use Rattle.bip_model.specs.declared.wants.Want.{Want}
use Rattle.bip_model.specs.declared.grants.Grant.{Grant}
use Rattle.std.specs.List.{AllByRecursion}
use Rattle.bip_model.specs.declared.messages.Request.{Request}
use Rattle.bip_words.proofs.OwedLemmas.{alone, due_claims, due_owed, each_all, moved_small}
use Rattle.bip_words.proofs.OwedLemmas.{nobody_owes, none_due, none_on, owed_else, owed_here}
use Rattle.bip_words.proofs.OwedLemmas.{placed_last, placed_longer, unclaimed, weight_rises}
use Rattle.bip_words.proofs.Passes.{IsClaimed, IsLogged, OwesGranted, count_of, grants_of}
use Rattle.bip_words.proofs.Totals.{each_append, each_weaker, on_row, total_at, total_kept}
use Rattle.bip_words.proofs.Totals.{total_set, total_snoc, word_else, word_same}
use Rattle.bip_words.specs.Knowledge.{asked_by, both_of, claims_on, grants_at, knows, nobody}
use Rattle.bip_words.specs.Knowledge.{that_counted}
use Rattle.bip_words.specs.Rule.{IsClaimIn, IsNotDue, IsPlaced, claims_of, owed_of, owed_on}
use Rattle.bip_words.specs.Rule.{row_word, total}
use Rattle.bip_words.specs.Steps.{IsCovered, IsSmall, all_due, owing}
use Rattle.bip_words.specs.declared.knowledge.Claim.{Claim}
use Rattle.bip_words.specs.declared.knowledge.Knowledge.{Knowledge}

-- no grant is made, and each row's number with what is owed to it stays
pub unmoved : (comps : List ℕ) (floor : ℕ → ℕ) (words later : List ℕ) (views : List Knowledge)
    (id : ℕ) (v w : Knowledge) (log : List Grant)
    → IsLogged comps floor words views log → get_elem? views id ≡ some v
    → slice_index later 0 ≡ slice_index words 0
    → ((i : ℕ) → length comps < i → slice_index later i ≡ slice_index words i)
    → ((r c : ℕ) → get_elem? comps r ≡ some c
    → max (row_word later r / 2) (total (owed_of r c) (set views id w)) ≡ max
    (row_word words r / 2) (total (owed_of r c) views))
    → w.grants ≡ v.grants → OwesGranted w
    → IsLogged comps floor later (set views id w) log
unmoved comps floor words later views id v w log h at first keeps same list mine = record {
  apart = h.apart;
  few = h.few;
  opening = λ r c there. keeps (suc (length comps + r)) (omega arith) ∙ h.opening r c there;
  ticket = first ∙ h.ticket;
  history = h.history;
  used = λ r c there. h.used r c there ∙ sym (same r c there);
  small = h.small;
  rises = h.rises;
  serials = λ k. total_kept (grants_of k) views id v w at (ap (grants_at k) list) ∙ h.serials k;
  counts = total_kept count_of views id v w at (ap length list) ∙ h.counts;
  placed = λ j u there. ⊎_elim
      (λ (x : (j ≡ id) × (w ≡ u)). subst (λ (y : Knowledge). AllByRecursion (IsPlaced log) y.grants)
      x.1 (subst (AllByRecursion (IsPlaced log)) (sym list) (h.placed id v at)))
      (λ (x : (j ≢ id) × (get_elem? views j ≡ some u)). h.placed j u x.1)
      (at_set views id j w u there);
  flight = λ j u there. ⊎_elim
      (λ (x : (j ≡ id) × (w ≡ u)). subst OwesGranted x.1 mine)
      (λ (x : (j ≢ id) × (get_elem? views j ≡ some u)). h.flight j u x.1)
      (at_set views id j w u there);
}

-- the words stay, and what is owed
pub unmoved_words : (comps : List ℕ) (floor : ℕ → ℕ) (words : List ℕ) (views : List Knowledge)
    (id : ℕ) (v w : Knowledge) (log : List Grant)
    → IsLogged comps floor words views log → get_elem? views id ≡ some v
    → ((r c : ℕ) → owed_of r c w ≡ owed_of r c v) → w.grants ≡ v.grants → OwesGranted w
    → IsLogged comps floor words (set views id w) log
unmoved_words comps floor words views id v w log h at same list mine =
    unmoved comps floor words words views id v w log h at refl (λ i more. refl)
    (λ r c there. ap (λ (k : ℕ). max (row_word words r / 2) k)
    (total_kept (owed_of r c) views id v w at (same r c))) list mine

-- a claim: the row keeps its number, and nothing is due
pub claimed_log : (comps : List ℕ) (floor : ℕ → ℕ) (words : List ℕ) (views : List Knowledge)
    (id r n : ℕ) (v w : Knowledge) (log : List Grant)
    → IsLogged comps floor words views log → get_elem? views id ≡ some v → suc r < length words
    → r < length comps → n / 2 ≡ row_word words r / 2
    → AllByRecursion IsNotDue v.claims → AllByRecursion IsNotDue w.claims → w.grants ≡ v.grants
    → IsLogged comps floor (set words (suc r) n) (set views id w) log
claimed_log comps floor words views id r n v w log h at long lt half idle new list =
    unmoved comps floor words (set words (suc r) n) views id v w log h at
    (word_else words (suc r) 0 n (λ e. omega (arith, e)))
    (λ i more. word_else words (suc r) i n (λ e. omega (arith, e, more, lt)))
    (λ k c there.
    let t = total_kept (owed_of k c) views id v w at
    (none_due k (moved_in w.asked.wants c) w.claims new
    ∙ sym (none_due k (moved_in v.asked.wants c) v.claims idle)) in
    let x : row_word (set words (suc r) n) k / 2 ≡ row_word words k / 2 = dite (ℕ_discrete k r)
    (λ e. subst (λ (i : ℕ). row_word (set words (suc r) n) i / 2 ≡ row_word words i / 2) (sym e)
    (ap (λ (i : ℕ). i / 2) (word_same words (suc r) n long) ∙ half))
    (λ ne. ap (λ (i : ℕ). i / 2) (word_else words (suc r) (suc k) n
    (λ e. ne (omega (arith, e))))) in
    rw (t, x) refl)
    list
    (inl new)

-- commit and release: the claim made last is given up, and what it owed is written
pub given_log : (comps : List ℕ) (floor : ℕ → ℕ) (words : List ℕ) (views : List Knowledge)
    (id r d y : ℕ) (x : Claim) (rest : List Claim) (v w : Knowledge) (log : List Grant)
    → IsLogged comps floor words views log
    → IsClaimed (length comps) words views
    → IsClaimed (length comps) (set words (suc r) (2 * y)) (set views id w)
    → get_elem? views id ≡ some v → r < length comps → get_elem? comps r ≡ some d
    → v.claims ≡ x ∷ rest → w.claims ≡ rest → w.asked ≡ v.asked → w.grants ≡ v.grants → x.row ≡ r
    → claims_on r rest ≡ 0
    → row_word words r ≡ 2 * x.used + 1
    → y ≡ max x.used (owing x.due (moved_in v.asked.wants d))
    → IsLogged comps floor (set words (suc r) (2 * y)) (set views id w) log
given_log comps floor words views id r d y x rest v w log h k k' at lt comp has leaves asked list on
    none word gives =
    unmoved comps floor words (set words (suc r) (2 * y)) views id v w log h at
    (word_else words (suc r) 0 (2 * y) (λ e. omega (arith, e)))
    (λ i more. word_else words (suc r) i (2 * y) (λ e. omega (arith, e, more, lt))) each_row
    list owes_granted
  where
    owes_granted : OwesGranted w
    owes_granted = ⊎_elim
        (λ (none : AllByRecursion IsNotDue v.claims).
        inl (subst (AllByRecursion IsNotDue) (sym leaves)
        (subst (AllByRecursion IsNotDue) has none).1))
        (λ (some_grant : 0 < length v.grants).
        inr (subst (λ (l : List (ℕ × Grant)). 0 < length l) (sym list) some_grant))
        (h.flight id v at)

    long : suc r < length words
    long = let s = k.size in omega (arith, s, lt)

    each_row : (i c : ℕ) → get_elem? comps i ≡ some c
        → max (row_word (set words (suc r) (2 * y)) i / 2) (total (owed_of i c) (set views id w))
        ≡ max (row_word words i / 2) (total (owed_of i c) views)
    each_row i c there = dite (ℕ_discrete i r)
        (λ e.
        let same : c ≡ d = some-injective c d (sym there ∙ (ap (get_elem? comps) e ∙ comp)) in
        let new : row_word (set words (suc r) (2 * y)) r ≡ 2 * y =
        word_same words (suc r) (2 * y) long in
        let free = nobody_owes (length comps) (set words (suc r) (2 * y)) (set views id w) r d k' lt
        (rw new (omega arith)) in
        let one : claims_of r v ≡ suc (claims_on r rest) = ap (claims_on r) has
        ∙ on_row r x rest on in
        let all = alone (length comps) words views id r d v k at lt (omega (arith, one)) in
        let mine : owed_of r d v ≡ owing x.due (moved_in v.asked.wants d) =
        ap (owed_on r (moved_in v.asked.wants d)) has
        ∙ (owed_here r (moved_in v.asked.wants d) x rest on
        ∙ (let z = none_on r (moved_in v.asked.wants d) rest none in omega (arith, z))) in
        rw (e, same) (rw (new, free, all, mine, word) (omega (arith, gives))))
        (λ ne.
        let keeps = word_else words (suc r) (suc i) (2 * y) (λ e. ne (omega (arith, e))) in
        let n : ℕ = moved_in v.asked.wants c in
        let owes : owed_of i c w ≡ owed_of i c v =
        ap (λ (g : Request). owed_on i (moved_in g.wants c) w.claims) asked
        ∙ (ap (owed_on i n) leaves ∙ (sym (owed_else i n x rest (λ e. ne (sym e ∙ on)))
        ∙ sym (ap (owed_on i n) has))) in
        let t = total_kept (owed_of i c) views id v w at owes in
        rw (keeps, t) refl)

-- the ticket: the grant joins the history
pub drawn_log : (comps : List ℕ) (floor : ℕ → ℕ) (words : List ℕ) (views : List Knowledge)
    (id n : ℕ) (v w : Knowledge) (log : List Grant)
    → IsLogged comps floor words views log
    → IsClaimed (length comps) words views
    → IsClaimed (length comps) (set words 0 (n + 1)) (set views id w)
    → get_elem? views id ≡ some v → n ≡ length log
    → AllByRecursion IsNotDue v.claims → AllByRecursion (IsCovered comps v.claims) v.asked.wants
    → AllByRecursion IsSmall v.asked.wants
    → (r : ℕ) (d : ℕ) → get_elem? comps r ≡ some d → 0 < moved_in v.asked.wants d
    → w ≡ knows (all_due v.claims) v.notes v.asked ((n, asked_by v.asked) ∷ v.grants) v.counts
    → IsLogged comps floor (set words 0 (n + 1)) (set views id w) (log ++ asked_by v.asked ∷ [])
drawn_log comps floor words views id n v w log h k k' at is idle covers small row d comp moves new =
    record {
      apart = h.apart;
      few = h.few;
      opening = λ r c there. word_else words 0 (suc (length comps + r)) (n + 1)
          (λ e. omega (arith, e))
          ∙ h.opening r c there;
      ticket = word_same words 0 (n + 1) (let s = k.size in omega (arith, s))
          ∙ (let l = length-append log (asked_by v.asked ∷ []) in omega (arith, l, is));
      history = (IsHistory-append floor log (asked_by v.asked ∷ [])).1 (h.history, (fresh, tt));
      used = each_row;
      small = λ r c there. rw (after c) (let a = h.small r c there in let b =
          moved_small v.asked.wants c small in omega (arith, a, b));
      rises =
          let a = h.rises in
          let l = length-append log (asked_by v.asked ∷ []) in
          let above = moved_above used v.asked.wants d fresh moves in
          let b = weight_rises used (used_by floor (log ++ asked_by v.asked ∷ [])) comps row d
          (λ c. let e = after c in omega (arith, e)) comp
          (let e = after d in omega (arith, e, above)) in
          omega (arith, a, b, l);
      serials = serials;
      counts =
          let t = total_set count_of views id v w at in
          let l = length-append log (asked_by v.asked ∷ []) in
          let c = h.counts in
          let e = ap count_of new in
          omega (arith, t, l, c, e);
      placed = λ j u there. ⊎_elim
          (λ (x : (j ≡ id) × (w ≡ u)). subst (λ (y : Knowledge). AllByRecursion
          (IsPlaced (log ++ asked_by v.asked ∷ [])) y.grants) (sym new ∙ x.1) (
            subst (λ (i : ℕ). IsPlaced (log ++ asked_by v.asked ∷ [])
                (i, asked_by v.asked)) (sym is) (placed_last log (asked_by v.asked)),
            longer v.grants
                (h.placed id v at),
          ))
          (λ (x : (j ≢ id) × (get_elem? views j ≡ some u)). longer u.grants (h.placed j u x.1))
          (at_set views id j w u there);
      flight = λ j u there. ⊎_elim
          (λ (x : (j ≡ id) × (w ≡ u)). subst OwesGranted x.1
          (inr (let c = ap count_of new in omega (arith, c))))
          (λ (x : (j ≢ id) × (get_elem? views j ≡ some u)). h.flight j u x.1)
          (at_set views id j w u there);
    }
  where
    used : ℕ → ℕ
    used = used_by floor log

    longer : (l : List (ℕ × Grant)) → AllByRecursion (IsPlaced log) l
        → AllByRecursion (IsPlaced (log ++ asked_by v.asked ∷ [])) l
    longer l all = each_weaker (IsPlaced log) (IsPlaced (log ++ asked_by v.asked ∷ []))
        (λ p. placed_longer log (asked_by v.asked) p) l all

    -- a claimed row's number is the used one
    at_claim : (c : Claim) (d : ℕ) → IsClaimIn (length comps) words c
        → get_elem? comps c.row ≡ some d → 0 < claims_of c.row v → used_by floor log d ≡ c.used
    at_claim c d in_word there some_claim =
        let u = h.used c.row d there in
        let a = alone (length comps) words views id c.row d v k at in_word.0 some_claim in
        let z = none_due c.row (moved_in v.asked.wants d) v.claims idle in
        let x = in_word.1 in
        omega (arith, u, a, z, x)

    some_on : (c : Claim) (cs : List Claim) → 0 < claims_on c.row (c ∷ cs)
    some_on c cs = let o = on_row c.row c cs refl in omega (arith, o)

    fresh_by : (w : Want) (cs : List Claim) → AllByRecursion (IsClaimIn (length comps) words) cs
        → ((r : ℕ) → claims_on r cs ≤ claims_of r v) → IsCovered comps cs w
        → used_by floor log w.comp.0 < w.number
    fresh_by w [] all most none = absurd none
    fresh_by w (c ∷ cs) all most (inl this) =
        let s = some_on c cs in
        let m = most c.row in
        let e = at_claim c w.comp.0 all.0 this.0 (omega (arith, s, m)) in
        let b = this.1 in
        omega (arith, e, b)
    fresh_by w (c ∷ cs) all most (inr rest) =
        fresh_by w cs all.1 (λ r. let m = most r in omega (arith, m)) rest

    fresh : IsFresh used v.asked.wants
    fresh = each_all (λ (w : Want). used w.comp.0 < w.number) v.asked.wants
        (each_weaker (IsCovered comps v.claims) (λ (w : Want). used w.comp.0 < w.number)
        (λ w c. fresh_by w v.claims ((k.known id v at).0) (λ r. omega arith) c) v.asked.wants
        covers)

    after : (c : ℕ) → used_by floor (log ++ asked_by v.asked ∷ []) c ≡ max (used_by floor log c)
        (moved_in v.asked.wants c)
    after c = ap (λ (f : ℕ → ℕ). f c) (used_by-push floor log (asked_by v.asked))

    at' : get_elem? (set views id w) id ≡ some w
    at' = set_here views id w (there views id v at)
      where
        there : (l : List Knowledge) (i : ℕ) (u : Knowledge) → get_elem? l i ≡ some u → i < length l
        there [] i u e = cc
        there (x ∷ xs) zero u e = omega arith
        there (x ∷ xs) (suc i) u e = let ih = there xs i u e in omega (arith, ih)

    claims_same : (r : ℕ) → claims_of r w ≡ claims_of r v
    claims_same r = ap (claims_of r) new ∙ due_claims r v.claims

    each_row : (r c : ℕ) → get_elem? comps r ≡ some c
        → used_by floor (log ++ asked_by v.asked ∷ []) c ≡ max
        (row_word (set words 0 (n + 1)) r / 2) (total (owed_of r c) (set views id w))
    each_row r c there = dite (ℕ_discrete (claims_of r v) 0) free taken
      where
        lt : (l : List ℕ) (i : ℕ) → get_elem? l i ≡ some c → i < length l
        lt [] i e = cc
        lt (x ∷ xs) zero e = omega arith
        lt (x ∷ xs) (suc i) e = let ih = lt xs i e in omega (arith, ih)

        keeps : row_word (set words 0 (n + 1)) r ≡ row_word words r
        keeps = word_else words 0 (suc r) (n + 1) (λ e. omega (arith, e))

        free : claims_of r v ≡ 0 → used_by floor (log ++ asked_by v.asked ∷ []) c ≡ max
            (row_word (set words 0 (n + 1)) r / 2) (total (owed_of r c) (set views id w))
        free none =
            let z = unclaimed comps r c v.claims v.asked.wants h.apart covers there none in
            let a = none_on r (moved_in w.asked.wants c) w.claims (claims_same r ∙ none) in
            let b = none_on r (moved_in v.asked.wants c) v.claims none in
            let t = total_kept (owed_of r c) views id v w at (a ∙ sym b) in
            let u = h.used r c there in
            after c ∙ rw (keeps, t) (omega (arith, u, z))

        taken : claims_of r v ≢ 0 → used_by floor (log ++ asked_by v.asked ∷ []) c ≡ max
            (row_word (set words 0 (n + 1)) r / 2) (total (owed_of r c) (set views id w))
        taken some_claim =
            let most = total_at (claims_of r) views id v at in
            let word = k.claims r (lt comps r there) in
            let one : claims_of r v ≡ 1 = omega (arith, most, word, some_claim) in
            let old = alone (length comps) words views id r c v k at (lt comps r there)
            (omega (arith, one)) in
            let z = none_due r (moved_in v.asked.wants c) v.claims idle in
            let same = claims_same r in
            let now = alone (length comps) (set words 0 (n + 1)) (set views id w) id r c w k' at'
            (lt comps r there) (omega (arith, one, same)) in
            let owes : owed_of r c w ≡ moved_in v.asked.wants c = ap (owed_of r c) new
            ∙ due_owed r (moved_in v.asked.wants c) v.claims one in
            let u = h.used r c there in
            after c ∙ rw (keeps, now, owes) (omega (arith, u, old, z))

    serials : (i : ℕ) → total (grants_of i) (set views id w)
        ≡ (if nat_lt i (length (log ++ asked_by v.asked ∷ [])) then 1 else 0)
    serials i =
        let t = total_set (grants_of i) views id v w at in
        let e : grants_of i w ≡ (if n == i then 1 else 0) + grants_of i v = ap (grants_of i) new in
        let l : length (log ++ asked_by v.asked ∷ []) ≡ n + 1 =
        length-append log (asked_by v.asked ∷ []) ∙ omega (arith, is) in
        let o : total (grants_of i) views ≡ (if nat_lt i n then 1 else 0) = h.serials i
        ∙ ap (λ (j : ℕ). if nat_lt i j then 1 else 0) (sym is) in
        let s : (if nat_lt i n then 1 else 0) + (if n == i then 1 else 0)
        ≡ (if nat_lt i (n + 1) then 1 else 0) = step i n in
        rw l (omega (arith, t, e, o, s))
      where
        step : (i n : ℕ) → (if nat_lt i n then 1 else 0) + (if n == i then 1 else 0)
            ≡ (if nat_lt i (n + 1) then 1 else 0)
        step i n = grind (arith, nat_tests)

pub opened_log : (comps : List ℕ) (floor : ℕ → ℕ) (words : List ℕ) (views : List Knowledge)
    (ns : List ℕ) (log : List Grant) → IsLogged comps floor words views log
    → IsLogged comps floor words (views ++ that_counted ns ∷ []) log
opened_log comps floor words views ns log h = record {
  apart = h.apart;
  few = h.few;
  opening = h.opening;
  ticket = h.ticket;
  history = h.history;
  used = λ r c there. h.used r c there ∙ ap (λ (k : ℕ). max (row_word words r / 2) k)
      (sym (total_snoc (owed_of r c) views new ∙ omega arith));
  small = h.small;
  rises = h.rises;
  serials = λ k. total_snoc (grants_of k) views new ∙ (let s = h.serials k in omega (arith, s));
  counts = total_snoc count_of views new ∙ (let s = h.counts in omega (arith, s));
  placed = λ j u there. ⊎_elim (h.placed j u)
      (λ (is : new ≡ u). subst (λ (y : Knowledge). AllByRecursion (IsPlaced log) y.grants) is tt)
      (at_snoc views new u j there);
  flight = λ j u there. ⊎_elim (h.flight j u) (λ (is : new ≡ u). subst OwesGranted is (inl tt))
      (at_snoc views new u j there);
}
  where
    new : Knowledge
    new = that_counted ns

pub grants_append : (k : ℕ) (xs ys : List (ℕ × Grant))
    → grants_at k (xs ++ ys) ≡ grants_at k xs + grants_at k ys
grants_append k [] ys = omega arith
grants_append k (x ∷ xs) ys = let ih = grants_append k xs ys in omega (arith, ih)

pub taken_in_log : (comps : List ℕ) (floor : ℕ → ℕ) (words : List ℕ) (views : List Knowledge)
    (id other : ℕ) (v w : Knowledge) (log : List Grant) → IsLogged comps floor words views log
    → get_elem? views id ≡ some v → other ≢ id
    → get_elem? (set views id (both_of v w)) other ≡ some w → w.claims ≡ []
    → IsLogged comps floor words (set (set views id (both_of v w)) other nobody) log
taken_in_log comps floor words views id other v w log h at ne there idle = record {
  apart = h.apart;
  few = h.few;
  opening = h.opening;
  ticket = h.ticket;
  history = h.history;
  used = λ r c row.
      let x = total_set (owed_of r c) views id v b at in
      let y = total_set (owed_of r c) one other w nobody there in
      let z : owed_of r c w ≡ 0 = ap (owed_on r (moved_in w.asked.wants c)) idle in
      h.used r c row ∙ ap (λ (k : ℕ). max (row_word words r / 2) k) (omega (arith, x, y, z));
  small = h.small;
  rises = h.rises;
  serials = λ k.
      let x = total_set (grants_of k) views id v b at in
      let y = total_set (grants_of k) one other w nobody there in
      let l = grants_append k w.grants v.grants in
      (let q : total (grants_of k) (set one other nobody) ≡ total (grants_of k) views =
      omega (arith, x, y, l) in q) ∙ h.serials k;
  counts =
      let x = total_set count_of views id v b at in
      let y = total_set count_of one other w nobody there in
      let l = length-append w.grants v.grants in
      (let q : total count_of (set one other nobody) ≡ total count_of views =
      omega (arith, x, y, l) in q) ∙ h.counts;
  placed = λ j u here. ⊎_elim
      (λ (t : (j ≡ other) × (nobody ≡ u)). subst (λ (y : Knowledge). AllByRecursion
      (IsPlaced log) y.grants) t.1 tt)
      (λ (t : (j ≢ other) × (get_elem? one j ≡ some u)). ⊎_elim
      (λ (k : (j ≡ id) × (b ≡ u)). subst (λ (y : Knowledge). AllByRecursion (IsPlaced log) y.grants)
      k.1 (each_append (IsPlaced log) w.grants v.grants (h.placed other w there')
      (h.placed id v at)))
      (λ (k : (j ≢ id) × (get_elem? views j ≡ some u)). h.placed j u k.1)
      (at_set views id j b u t.1))
      (at_set one other j nobody u here);
  flight = λ j u here. ⊎_elim
      (λ (t : (j ≡ other) × (nobody ≡ u)). subst OwesGranted t.1 (inl tt))
      (λ (t : (j ≢ other) × (get_elem? one j ≡ some u)). ⊎_elim
      (λ (k : (j ≡ id) × (b ≡ u)). subst OwesGranted k.1
      (⊎_elim (λ (none : AllByRecursion IsNotDue v.claims). inl none)
      (λ (some_grant : 0 < length v.grants).
      inr (let l = length-append w.grants v.grants in omega (arith, l, some_grant)))
      (h.flight id v at)))
      (λ (k : (j ≢ id) × (get_elem? views j ≡ some u)). h.flight j u k.1)
      (at_set views id j b u t.1))
      (at_set one other j nobody u here);
}
  where
    b : Knowledge
    b = both_of v w

    one : List Knowledge
    one = set views id b

    there' : get_elem? views other ≡ some w
    there' = sym (set_else views id other b ne) ∙ there
