-- A grant in flight: the numbers of its claims are those that the other grants explain.
use Rattle.std.proofs.Common.{◌≡◌, ◌≢◌, ℕ, zero, suc, ◌+◌, ◌<◌, ◌≤◌, List, [], ◌∷◌, ◌++◌, length}
use Rattle.std.proofs.Common.{length-append, set, refl, sym, ap, ◌∙◌, subst, ⊎_elim, inl, inr}
use Rattle.std.proofs.Common.{arith}
use mathlib.Core.Option.{some}
use lib.ListN.{get_elem?}
use Rattle.atomic_table.proofs.Lists.{at_set, at_snoc}
use Rattle.bip_model.proofs.HistoryLemmas.{used_by-push}
use Rattle.bip_model.specs.Grants.{used_by}
use Rattle.bip_model.specs.Wants.{moved_in}
use Rattle.bip_model.specs.declared.grants.Grant.{Grant}
use Rattle.std.specs.List.{AllByRecursion}
use Rattle.bip_words.proofs.OwedLemmas.{alone, none_due, unclaimed}
use Rattle.bip_words.proofs.Passes.{AllFlyAlone, IsClaimed, IsLogged}
use Rattle.bip_words.proofs.Totals.{on_row, total_two}
use Rattle.bip_words.specs.Knowledge.{asked_by, both_of, claims_on, knows, nobody, that_counted}
use Rattle.bip_words.specs.Rule.{FliesAlone, IsClaimIn, IsDue, IsNotDue, IsUsedBy, but_serial}
use Rattle.bip_words.specs.Rule.{claims_of}
use Rattle.bip_words.specs.Steps.{IsCovered, all_due}
use Rattle.bip_words.specs.declared.knowledge.Claim.{Claim}
use Rattle.bip_words.specs.declared.knowledge.Knowledge.{Knowledge}

without_last : (log : List Grant) (g : Grant) → but_serial (length log) (log ++ g ∷ []) ≡ log
without_last [] g = refl
without_last (x ∷ xs) g = ap (λ (l : List Grant). x ∷ l) (without_last xs g)

without_longer : (k : ℕ) (log : List Grant) (g : Grant) → k < length log
    → but_serial k (log ++ g ∷ []) ≡ but_serial k log ++ g ∷ []
without_longer k [] g below = absurd (omega arith)
without_longer zero (x ∷ xs) g below = refl
without_longer (suc k) (x ∷ xs) g below = ap (λ (l : List Grant). x ∷ l)
    (without_longer k xs g (omega arith))

module _ (comps : List ℕ) (floor : ℕ → ℕ) where
  pub flies_set : (views : List Knowledge) (log : List Grant) (id : ℕ) (v w : Knowledge)
      → AllFlyAlone comps floor views log → get_elem? views id ≡ some v
      → (FliesAlone comps floor log v → FliesAlone comps floor log w)
      → AllFlyAlone comps floor (set views id w) log
  flies_set views log id v w h at step j u there = ⊎_elim
      (λ (x : (j ≡ id) × (w ≡ u)). subst (FliesAlone comps floor log) x.1 (step (h id v at)))
      (λ (x : (j ≢ id) × (get_elem? views j ≡ some u)). h j u x.1)
      (at_set views id j w u there)

  pub flies_given : (log : List Grant) (x : Claim) (rest : List Claim) (v w : Knowledge)
      → v.claims ≡ x ∷ rest → w.claims ≡ rest → w.grants ≡ v.grants → FliesAlone comps floor log v
      → FliesAlone comps floor log w
  flies_given log x rest v w has leaves list (inl none) =
      inl (subst (AllByRecursion IsNotDue) (sym leaves)
      (subst (AllByRecursion IsNotDue) has none).1)
  flies_given log x rest v w has leaves list (inr f) = inr (
    f.0,
    f.1,
    list ∙ f.2,
    subst (AllByRecursion IsDue) (sym leaves) (subst (AllByRecursion IsDue) has f.3).1,
    f.4,
    subst (AllByRecursion (IsUsedBy comps floor (but_serial f.0.0 log))) (sym leaves)
        (subst (AllByRecursion (IsUsedBy comps floor (but_serial f.0.0 log))) has f.5).1,
  )

  pub flies_opened : (views : List Knowledge) (log : List Grant) (ns : List ℕ)
      → AllFlyAlone comps floor views log → AllFlyAlone comps floor
      (views ++ that_counted ns ∷ []) log
  flies_opened views log ns h j u there = ⊎_elim (h j u)
      (λ (is : that_counted ns ≡ u). subst (FliesAlone comps floor log) is (inl tt))
      (at_snoc views (that_counted ns) u j there)

  pub flies_joined : (views : List Knowledge) (log : List Grant) (id other : ℕ) (v w : Knowledge)
      → AllFlyAlone comps floor views log → v.claims ≡ [] → get_elem? views id ≡ some v
      → get_elem? (set views id (both_of v w)) other ≡ some w
      → AllFlyAlone comps floor (set (set views id (both_of v w)) other nobody) log
  flies_joined views log id other v w h idle at there =
      flies_set (set views id (both_of v w)) log other w nobody
      (flies_set views log id v (both_of v w) h at
      (λ _. inl (subst (AllByRecursion IsNotDue) (sym idle) tt))) there (λ _. inl tt)

  pub flies_drawn : (words : List ℕ) (views : List Knowledge) (log : List Grant) (id n : ℕ)
      (v w : Knowledge) → AllFlyAlone comps floor views log → IsLogged comps floor words views log
      → IsClaimed (length comps) words views → get_elem? views id ≡ some v → n ≡ length log
      → AllByRecursion IsNotDue v.claims → AllByRecursion (IsCovered comps v.claims) v.asked.wants
      → w ≡ knows (all_due v.claims) v.notes v.asked ((n, asked_by v.asked) ∷ v.grants) v.counts
      → AllFlyAlone comps floor (set views id w) (log ++ asked_by v.asked ∷ [])
  flies_drawn words views log id n v w h l k at is idle covers new j u there = ⊎_elim
      (λ (x : (j ≡ id) × (w ≡ u)). subst (FliesAlone comps floor (log ++ asked_by v.asked ∷ []))
      (sym new ∙ x.1) mine)
      (λ (x : (j ≢ id) × (get_elem? views j ≡ some u)). others x.0 x.1 (h j u x.1))
      (at_set views id j w u there)
    where
      longer : length (log ++ asked_by v.asked ∷ []) ≡ n + 1
      longer = length-append log (asked_by v.asked ∷ []) ∙ omega (arith, is)

      mine_each : (cs : List Claim) → AllByRecursion (IsClaimIn (length comps) words) cs
          → ((r : ℕ) → claims_on r cs ≤ claims_of r v)
          → AllByRecursion (IsUsedBy comps floor (but_serial n (log ++ asked_by v.asked ∷ [])))
          (all_due cs)
      mine_each [] all most = tt
      mine_each (c ∷ cs) all most = (
        λ d row.
            let o = on_row c.row c cs refl in
            let m = most c.row in
            let a = alone (length comps) words views id c.row d v k at all.0.0
            (omega (arith, o, m)) in
            let z = none_due c.row (moved_in v.asked.wants d) v.claims idle in
            let used = l.used c.row d row in
            let word = all.0.1 in
            ap (λ (i : ℕ). used_by floor (but_serial i (log ++ asked_by v.asked ∷ [])) d) is
            ∙ (ap (λ (x : List Grant). used_by floor x d) (without_last log (asked_by v.asked))
            ∙ omega (arith, used, a, z, word)),
        mine_each cs all.1 (λ r. let m = most r in omega (arith, m)),
      )

      dues : (cs : List Claim) → AllByRecursion IsDue (all_due cs)
      dues [] = tt
      dues (c ∷ cs) = (refl, dues cs)

      mine : FliesAlone comps floor (log ++ asked_by v.asked ∷ [])
          (knows (all_due v.claims) v.notes v.asked ((n, asked_by v.asked) ∷ v.grants) v.counts)
      mine = inr (
        (n, asked_by v.asked),
        v.grants,
        refl,
        dues v.claims,
        omega (arith, longer),
        mine_each v.claims (k.known id v at).0 (λ r. omega arith),
      )

      other_each : j ≢ id → get_elem? views j ≡ some u → (i : ℕ) → i < length log
          → (cs : List Claim) → AllByRecursion (IsClaimIn (length comps) words) cs
          → ((r : ℕ) → claims_on r cs ≤ claims_of r u)
          → AllByRecursion (IsUsedBy comps floor (but_serial i log)) cs
          → AllByRecursion (IsUsedBy comps floor (but_serial i (log ++ asked_by v.asked ∷ []))) cs
      other_each ne at_u i below [] all most used = tt
      other_each ne at_u i below (c ∷ cs) all most used = (
        λ d row.
            let o = on_row c.row c cs refl in
            let m = most c.row in
            let two = total_two (claims_of c.row) views id j v u ne at at_u in
            let word = k.claims c.row all.0.0 in
            let z = unclaimed comps c.row d v.claims v.asked.wants l.apart covers row
            (omega (arith, o, m, two, word)) in
            let old = used.0 d row in
            let push = ap (λ (f : ℕ → ℕ). f d)
            (used_by-push floor (but_serial i log) (asked_by v.asked)) in
            ap (λ (x : List Grant). used_by floor x d)
            (without_longer i log (asked_by v.asked) below) ∙ (push ∙ omega (arith, old, z)),
        other_each ne at_u i below cs all.1 (λ r. let m = most r in omega (arith, m)) used.1,
      )

      others : j ≢ id → get_elem? views j ≡ some u → FliesAlone comps floor log u
          → FliesAlone comps floor (log ++ asked_by v.asked ∷ []) u
      others ne at_u (inl none) = inl none
      others ne at_u (inr f) = inr (
        f.0,
        f.1,
        f.2,
        f.3,
        (let b = f.4 in omega (arith, b, longer, is)),
        other_each ne at_u f.0.0 f.4 u.claims
            (k.known j u at_u).0 (λ r. omega arith) f.5,
      )
