-- The first pass: words, claims, and what was seen.
use Rattle.std.proofs.Common.{◌≡◌, ◌≢◌, ℕ, suc, ◌+◌, ◌/◌, ◌%◌, ◌<◌, ◌≤◌, List, [], ◌∷◌, ◌++◌}
use Rattle.std.proofs.Common.{length, length-set, set, refl, sym, ap, ◌∙◌, subst, ⊎_elim, arith}
use Rattle.std.specs.Prelude.{slice_index}
use Rattle.std.specs.List.{AllByRecursion}
use mathlib.Core.Option.{some}
use mathlib.Core.Logic.{dite}
use native.Mathlib.Decide.{ℕ_discrete}
use lib.ListN.{get_elem?}
use Rattle.atomic_table.proofs.Lists.{at_set, at_snoc, set_else}
use Rattle.bip_words.proofs.OwedLemmas.{alone}
use Rattle.bip_words.proofs.Passes.{IsClaimed}
use Rattle.bip_words.proofs.Totals.{claims_stay, counts_stay, each_append, notes_stay, row_written}
use Rattle.bip_words.proofs.Totals.{total_kept, total_set, total_snoc, total_two, word_else}
use Rattle.bip_words.proofs.Totals.{word_same}
use Rattle.bip_words.specs.Knowledge.{both_of, claims_on, nobody, that_counted}
use Rattle.bip_words.specs.Rule.{IsCountedIn, IsKnownIn, IsSeenIn, claims_of, row_word, total}
use Rattle.bip_words.specs.declared.knowledge.Knowledge.{Knowledge}

-- one view changes, and the words don't
pub noted : (rows : ℕ) (words : List ℕ) (views : List Knowledge) (id : ℕ) (v w : Knowledge)
    → IsClaimed rows words views → get_elem? views id ≡ some v
    → ((r : ℕ) → claims_of r w ≡ claims_of r v) → IsKnownIn rows words w
    → IsClaimed rows words (set views id w)
noted rows words views id v w h at same mine = record {
  size = h.size;
  claims = λ r lt. total_kept (claims_of r) views id v w at (same r) ∙ h.claims r lt;
  known = λ j u there. ⊎_elim
      (λ (x : (j ≡ id) × (w ≡ u)). subst (IsKnownIn rows words) x.1 mine)
      (λ (x : (j ≢ id) × (get_elem? views j ≡ some u)). h.known j u x.1)
      (at_set views id j w u there);
}

-- the ticket word rises, and a view changes
pub drawn : (rows : ℕ) (words : List ℕ) (views : List Knowledge) (id n : ℕ) (v w : Knowledge)
    → IsClaimed rows words views → get_elem? views id ≡ some v → slice_index words 0 ≤ n
    → ((r : ℕ) → claims_of r w ≡ claims_of r v) → IsKnownIn rows words w
    → IsClaimed rows (set words 0 n) (set views id w)
drawn rows [] views id n v w h at up same mine = absurd (let s = h.size in omega (arith, s))
drawn rows (x ∷ xs) views id n v w h at up same mine = let k =
    noted rows (x ∷ xs) views id v w h at same mine in record {
      size = k.size;
      claims = k.claims;
      known = λ j u there. let known = k.known j u there in
          (known.0, known.1, counts_stay (x ∷ xs) (n ∷ xs) u.counts up known.2);
    }

-- a row's word is written
pub wrote : (rows : ℕ) (words : List ℕ) (views : List Knowledge) (id r n : ℕ) (v w : Knowledge)
    → IsClaimed rows words views → get_elem? views id ≡ some v → r < rows
    → claims_of r w + row_word words r % 2 ≡ claims_of r v + n % 2
    → ((k : ℕ) → k ≢ r → claims_of k w ≡ claims_of k v)
    → row_word words r % 2 ≡ claims_of r v
    → row_word words r / 2 ≤ n / 2
    → IsKnownIn rows (set words (suc r) n) w
    → IsClaimed rows (set words (suc r) n) (set views id w)
wrote rows words views id r n v w h at lt here else alone up mine = record {
  size = length-set words (suc r) n ∙ h.size;
  claims = λ k below. dite (ℕ_discrete k r)
      (λ e.
      let t = total_set (claims_of r) views id v w at in
      let old = h.claims r lt in
      let new = word_same words (suc r) n long in
      subst (λ (i : ℕ). total (claims_of i) (set views id w) ≡ row_word (set words (suc r) n) i % 2)
      (sym e) (omega (arith, t, old, here, alone) ∙ ap (λ (i : ℕ). i % 2) (sym new)))
      (λ ne. total_kept (claims_of k) views id v w at (else k ne)
      ∙ (h.claims k below ∙ ap (λ (i : ℕ). i % 2)
      (sym (word_else words (suc r) (suc k) n (λ e. ne (omega (arith, e)))))));
  known = λ j u there. ⊎_elim
      (λ (x : (j ≡ id) × (w ≡ u)). subst (IsKnownIn rows (set words (suc r) n)) x.1 mine)
      (λ (x : (j ≢ id) × (get_elem? views j ≡ some u)).
      let two = total_two (claims_of r) views id j v u x.0 at x.1 in
      let old = h.claims r lt in
      let k = h.known j u x.1 in (
        claims_stay rows r n words u.claims (omega (arith, two, old, alone)) k.0,
        notes_stay r n words u.notes long up k.1,
        counts_stay words (set words (suc r) n) u.counts
            (row_written words r n) k.2,
      ))
      (at_set views id j w u there);
}
  where
    long : suc r < length words
    long = let s = h.size in omega (arith, s, lt)

-- a token is opened
pub opened : (rows : ℕ) (words : List ℕ) (views : List Knowledge) (ns : List ℕ)
    → IsClaimed rows words views → AllByRecursion (IsCountedIn words) ns
    → IsClaimed rows words (views ++ that_counted ns ∷ [])
opened rows words views ns h counted = record {
  size = h.size;
  claims = λ r lt. total_snoc (claims_of r) views (that_counted ns)
      ∙ (let c = h.claims r lt in omega (arith, c));
  known = λ j u there. ⊎_elim (h.known j u) (λ (is : that_counted ns ≡ u).
      subst (IsKnownIn rows words) is (tt, tt, counted))
      (at_snoc views (that_counted ns) u j there);
}

-- an idle token is taken in
pub taken_in : (rows : ℕ) (words : List ℕ) (views : List Knowledge) (id other : ℕ) (v w : Knowledge)
    → IsClaimed rows words views → get_elem? views id ≡ some v → other ≢ id
    → get_elem? (set views id (both_of v w)) other ≡ some w → w.claims ≡ []
    → IsClaimed rows words (set (set views id (both_of v w)) other nobody)
taken_in rows words views id other v w h at apart there idle =
    let b : Knowledge = both_of v w in
    let there' : get_elem? views other ≡ some w = sym (set_else views id other b apart) ∙ there in
    let one = noted rows words views id v b h at (λ r. refl) (
      (h.known id v at).0,
      each_append (IsSeenIn words) w.notes v.notes (h.known other w
          there').1 (h.known id v at).1,
      (h.known id v at).2,
    ) in
    noted rows words (set views id b) other w nobody one there (λ r. sym (ap (claims_on r) idle))
    (tt, tt, tt)
