-- What a position's words that are kept as text say.
use Rattle.std.proofs.Common.{◌≡◌, ℕ, zero, suc, ◌+◌, ◌<◌, List, [], ◌++◌, ◌∷◌, Some}
use Rattle.std.proofs.Common.{Err, Ok, OnErr, OnOk, Result, ap, arith, get_or, length, refl}
use Rattle.std.proofs.Common.{replicate, set, slice_get, subst, take, ◌∙◌}
use Rattle.std.specs.Fmt.{decimal}
use Rattle.bip_model.specs.Naming.{name_in}
use Rattle.bip_model.specs.Numbering.{last_number}
use Rattle.bip_model.specs.declared.numbering.CompId.{CompId}
use Rattle.bip_model.specs.declared.grants.Grant.{Grant}
use Rattle.bip_replay.specs.Expected.{HasExpected, HasNextWord, IsExpectedGrant, next_word}
use Rattle.bip_replay.specs.KeptWords.{AreKeptWords, IsKeptWord}
use Rattle.bip_replay.specs.Runs.{Kept, Standing, standing_of, standing_on}
use Rattle.bip_replay.specs.declared.kept_words.KeptWord.{KeptWord}

-- a word that is kept by the next number is the next word
pub kept_spelled : (p : Kept) (c : CompId) (w : KeptWord)
    → IsKeptWord (name_in p.model.component_names c.0) w
    → w.number ≡ (standing_of p).used c.0 + 1
    → take w.len w.bytes ≡ next_word (standing_of p) c
kept_spelled p c w is numbered =
    is.spelled (omega (arith, numbered))
    ∙ ap (λ (n : ℕ). name_in p.model.component_names c.0 ++ 58 ∷ decimal n) numbered

-- then there is a next word
pub kept_has : (p : Kept) (c : CompId) (w : KeptWord) → c.0 < length p.model.component_names
    → IsKeptWord (name_in p.model.component_names c.0) w
    → w.number ≡ (standing_of p).used c.0 + 1 → (standing_of p).used c.0 < last_number
    → HasNextWord (standing_of p) c
kept_has p c w known is numbered fits = record {
  known = known;
  name = is.named (omega (arith, numbered));
  next = fits;
}

-- what holds at each place of a list still does where another item that has it is put
each_put : {X : Type 0} (P : ℕ → X → Type 0) (xs : List X) (i : ℕ) (v : X)
    → ((c : ℕ) (x : X) → slice_get xs c ≡ Some x → P c x) → P i v
    → (c : ℕ) (x : X) → slice_get (set xs i v) c ≡ Some x → P c x
each_put P [] i v all is c x at = all c x at
each_put P (y ∷ ys) zero v all is zero x at = let same : v ≡ x = cc in subst (P 0) same is
each_put P (y ∷ ys) zero v all is (suc c) x at = all (suc c) x at
each_put P (y ∷ ys) (suc i) v all is zero x at = all zero x at
each_put P (y ∷ ys) (suc i) v all is (suc c) x at =
    each_put (λ k. P (suc k)) ys i v (λ k z is'. all (suc k) z is') is c x at

-- a word that is counted is kept in its place
pub kept_put : (names : List (List ℕ)) (ws : List KeptWord) (place : ℕ) (w : KeptWord)
    → AreKeptWords names ws → IsKeptWord (name_in names place) w
    → AreKeptWords names (set ws place w)
kept_put names ws place w all is =
    each_put (λ c v. IsKeptWord (name_in names c) v) ws place w all is

-- what holds of each item, and of what stands for one past the end, holds at any place
at_any : {X : Type 0} (P : X → Type 0) (xs : List X) (c : ℕ) (d : X)
    → ((x : X) → slice_get xs c ≡ Some x → P x) → P d → P (get_or xs c d)
at_any P [] c d all is = is
at_any P (x ∷ xs) zero d all is = all x refl
at_any P (x ∷ xs) (suc c) d all is = at_any P xs c d all is

-- a word that is kept in its place
pub kept_at : (names : List (List ℕ)) (ws : List KeptWord) (c : ℕ) → AreKeptWords names ws
    → IsKeptWord (name_in names c) (get_or ws c (record { bytes = []; len = 0; number = 0 }))
kept_at names ws c all =
    at_any (IsKeptWord (name_in names c)) ws c (record { bytes = []; len = 0; number = 0 })
    (λ w at. all c w at) (record {
      fits = omega arith;
      named = λ some. absurd (omega (arith, some));
      spelled = λ some. absurd (omega (arith, some));
    })

-- what holds of an item holds at each place of a list of it alone
all_alike : {X : Type 0} (P : X → Type 0) (n : ℕ) (v : X) → P v → (c : ℕ) (x : X)
    → slice_get (replicate n v) c ≡ Some x → P x
all_alike P zero v is c x at = absurd (cc)
all_alike P (suc n) v is zero x at = let same : v ≡ x = cc in subst P same is
all_alike P (suc n) v is (suc c) x at = all_alike P n v is c x at

-- no words are the words of any names
pub kept_none : (names : List (List ℕ)) (n : ℕ) (w : KeptWord)
    → ((name : List ℕ) → IsKeptWord name w) → AreKeptWords names (replicate n w)
kept_none names n w is c v at =
    all_alike (IsKeptWord (name_in names c)) n w (is (name_in names c)) c v at

-- a step, or a refusal, is of the same model
pub same_model : {T E : Type 0} (r : Result T E) (p q : Kept) (s : Standing)
    → s.model ≡ p.model → OnOk r (standing_of q ≡ s) → OnErr r (q ≡ p) → q.model ≡ p.model
same_model (Ok x) p q s same on err = ap (λ (t : Standing). t.model) on ∙ same
same_model (Err e) p q s same on err = ap (λ (k : Kept). k.model) err

pub same_expected : {T E : Type 0} (r : Result T E) (p q : Kept) (a : ℕ)
    → HasExpected (standing_of p) a
    → OnOk r ((g : Grant) → IsExpectedGrant (standing_of p) a g
    → standing_of q ≡ standing_on (standing_of p) g) → OnErr r (q ≡ p) → q.model ≡ p.model
same_expected (Ok x) p q a has on err = ap (λ (t : Standing). t.model) (on has.0 has.1)
same_expected (Err e) p q a has on err = ap (λ (k : Kept). k.model) err
