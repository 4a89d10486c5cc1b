-- Words, totals over views, and facts of each element.
use Rattle.std.proofs.Common.{◌≡◌, ◌≢◌, ℕ, zero, suc, ◌+◌, ◌/◌, ◌<◌, ◌≤◌, List, [], ◌∷◌, ◌++◌}
use Rattle.std.proofs.Common.{length, set, refl, sym, ap, ◌∙◌, subst, eq-eqb, ne_eqb, arith}
use Rattle.std.specs.Prelude.{slice_index}
use mathlib.Core.Option.{some, some-injective, some-ne-none}
use mathlib.Core.Logic.{dite}
use native.Mathlib.Decide.{ℕ_discrete}
use lib.ListN.{get_elem?}
use Rattle.std.specs.List.{AllByRecursion}
use Rattle.bip_words.specs.Knowledge.{claims_on}
use Rattle.bip_words.specs.Rule.{IsClaimIn, IsCountedIn, IsSeenIn, row_word, total}
use Rattle.bip_words.specs.declared.knowledge.Claim.{Claim}
use Rattle.bip_words.specs.declared.knowledge.Knowledge.{Knowledge}
use Rattle.bip_words.specs.declared.knowledge.Note.{Note}

pub word_same : (ws : List ℕ) (i n : ℕ) → i < length ws → slice_index (set ws i n) i ≡ n
word_same [] i n lt = absurd (omega arith)
word_same (x ∷ xs) zero n lt = refl
word_same (x ∷ xs) (suc i) n lt = word_same xs i n (omega arith)

pub word_else : (ws : List ℕ) (i j n : ℕ) → j ≢ i → slice_index (set ws i n) j ≡ slice_index ws j
word_else [] i j n ne = refl
word_else (x ∷ xs) zero zero n ne = absurd (ne refl)
word_else (x ∷ xs) zero (suc j) n ne = refl
word_else (x ∷ xs) (suc i) zero n ne = refl
word_else (x ∷ xs) (suc i) (suc j) n ne = word_else xs i j n (λ e. ne (ap suc e))

pub word_again : (ws : List ℕ) (i : ℕ) → set ws i (slice_index ws i) ≡ ws
word_again [] i = refl
word_again (x ∷ xs) zero = refl
word_again (x ∷ xs) (suc i) = ap (λ (l : List ℕ). x ∷ l) (word_again xs i)

pub total_set : (f : Knowledge → ℕ) (views : List Knowledge) (k : ℕ) (v w : Knowledge)
    → get_elem? views k ≡ some v → total f (set views k w) + f v ≡ total f views + f w
total_set f [] k v w at = absurd (some-ne-none v (sym at))
total_set f (u ∷ vs) zero v w at = let same = ap f (some-injective u v at) in omega (arith, same)
total_set f (u ∷ vs) (suc k) v w at = let ih = total_set f vs k v w at in omega (arith, ih)

pub total_at : (f : Knowledge → ℕ) (views : List Knowledge) (k : ℕ) (v : Knowledge)
    → get_elem? views k ≡ some v → f v ≤ total f views
total_at f [] k v at = absurd (some-ne-none v (sym at))
total_at f (u ∷ vs) zero v at = let same = ap f (some-injective u v at) in omega (arith, same)
total_at f (u ∷ vs) (suc k) v at = let ih = total_at f vs k v at in omega (arith, ih)

pub total_two : (f : Knowledge → ℕ) (views : List Knowledge) (i j : ℕ) (v u : Knowledge) → j ≢ i
    → get_elem? views i ≡ some v → get_elem? views j ≡ some u → f v + f u ≤ total f views
total_two f [] i j v u ne at there = absurd (some-ne-none v (sym at))
total_two f (x ∷ vs) zero zero v u ne at there = absurd (ne refl)
total_two f (x ∷ vs) zero (suc j) v u ne at there = let same = ap f (some-injective x v at) in
    let rest = total_at f vs j u there in omega (arith, same, rest)
total_two f (x ∷ vs) (suc i) zero v u ne at there = let same = ap f (some-injective x u there) in
    let rest = total_at f vs i v at in omega (arith, same, rest)
total_two f (x ∷ vs) (suc i) (suc j) v u ne at there = let ih =
    total_two f vs i j v u (λ e. ne (ap suc e)) at there in omega (arith, ih)

pub total_snoc : (f : Knowledge → ℕ) (views : List Knowledge) (v : Knowledge)
    → total f (views ++ v ∷ []) ≡ total f views + f v
total_snoc f [] v = omega arith
total_snoc f (u ∷ vs) v = let ih = total_snoc f vs v in omega (arith, ih)

-- two views that count the same change no total
pub total_kept : (f : Knowledge → ℕ) (views : List Knowledge) (k : ℕ) (v w : Knowledge)
    → get_elem? views k ≡ some v → f w ≡ f v → total f (set views k w) ≡ total f views
total_kept f views k v w at same = let t = total_set f views k v w at in omega (arith, t, same)

pub each_weaker : {A : Type 0} (P Q : A → Type 0) → ((x : A) → P x → Q x) → (xs : List A)
    → AllByRecursion P xs → AllByRecursion Q xs
each_weaker P Q f [] all = tt
each_weaker P Q f (x ∷ xs) all = (f x all.0, each_weaker P Q f xs all.1)

pub each_append : {A : Type 0} (P : A → Type 0) (xs ys : List A) → AllByRecursion P xs
    → AllByRecursion P ys → AllByRecursion P (xs ++ ys)
each_append P [] ys a b = b
each_append P (x ∷ xs) ys a b = (a.0, each_append P xs ys a.1 b)

pub on_row : (r : ℕ) (c : Claim) (cs : List Claim) → c.row ≡ r
    → claims_on r (c ∷ cs) ≡ suc (claims_on r cs)
on_row r c cs e = rw (eq-eqb c.row r e) (omega arith)

pub off_row : (r : ℕ) (c : Claim) (cs : List Claim) → c.row ≢ r
    → claims_on r (c ∷ cs) ≡ claims_on r cs
off_row r c cs ne = rw (ne_eqb c.row r ne) (omega arith)

-- claims on other rows stand, whatever is written in row r
pub claims_stay : (rows r n : ℕ) (words : List ℕ) (cs : List Claim) → claims_on r cs ≡ 0
    → AllByRecursion (IsClaimIn rows words) cs
    → AllByRecursion (IsClaimIn rows (set words (suc r) n)) cs
claims_stay rows r n words [] none all = tt
claims_stay rows r n words (c ∷ cs) none all = dite (ℕ_discrete c.row r)
    (λ e. absurd (let one = on_row r c cs e in omega (arith, one, none)))
    (λ ne.
    let rest = off_row r c cs ne in (
      (all.0.0, word_else words (suc r) (suc c.row) n (λ e. ne (omega (arith, e))) ∙ all.0.1),
      claims_stay rows r n words cs (sym rest ∙ none) all.1,
    ))

-- what was counted stays so, where the ticket doesn't fall
pub counts_stay : (words later : List ℕ) (ns : List ℕ) → slice_index words 0 ≤ slice_index later 0
    → AllByRecursion (IsCountedIn words) ns → AllByRecursion (IsCountedIn later) ns
counts_stay words later [] up all = tt
counts_stay words later (n ∷ ns) up all = (
  omega (arith, up, all.0),
  counts_stay words later ns up all.1,
)

pub row_written : (words : List ℕ) (r n : ℕ) → slice_index words 0 ≤ slice_index
    (set words (suc r) n) 0
row_written words r n = let same = word_else words (suc r) 0 n (λ e. omega (arith, e)) in
    omega (arith, same)

-- what was seen stays so, where the number doesn't fall
pub notes_stay : (r n : ℕ) (words : List ℕ) (ns : List Note) → suc r < length words
    → row_word words r / 2 ≤ n / 2 → AllByRecursion (IsSeenIn words) ns
    → AllByRecursion (IsSeenIn (set words (suc r) n)) ns
notes_stay r n words [] lt up all = tt
notes_stay r n words (x ∷ ns) lt up all = (
  dite (ℕ_discrete x.row r)
      (λ e.
      let new : row_word (set words (suc r) n) x.row ≡ n =
      ap (λ (k : ℕ). row_word (set words (suc r) n) k) e ∙ word_same words (suc r) n lt in
      let old : row_word words x.row ≡ row_word words r = ap (row_word words) e in
      subst (λ (k : ℕ). x.word / 2 ≤ k / 2) (sym new)
      (omega (arith, up, subst (λ (k : ℕ). x.word / 2 ≤ k / 2) old all.0)))
      (λ ne. subst (λ (k : ℕ). x.word / 2 ≤ k / 2)
      (sym (word_else words (suc r) (suc x.row) n (λ e. ne (omega (arith, e))))) all.0),
  notes_stay r n words ns lt up all.1,
)
