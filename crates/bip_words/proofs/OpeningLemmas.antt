-- The words of a new table keep the rule.
use Rattle.std.proofs.Common.{◌∙◌, ap, ◌≡◌, ℕ, zero, suc, ◌*◌, ◌/◌, ◌%◌, ◌<◌, ◌^◌, Bool, true}
use Rattle.std.proofs.Common.{false, List, [], ◌∷◌, length, map, refl, sym, subst, inl, eq-eqb}
use Rattle.std.proofs.Common.{ne_eqb, arith, All, ◌++◌, ◌+◌, length-append}
use Rattle.std.specs.Prelude.{slice_index, if◌then◌else◌, ◌==◌}
use Rattle.std.specs.List.{AllByRecursion}
use Rattle.std.proofs.lemmas.Bool.Decides.{nat_tests}
use mathlib.Core.Option.{some, some-injective}
use lib.ListN.{get_elem?}
use Rattle.atomic_table.specs.Table.{opening}
use Rattle.bip_model.proofs.NumberingLemmas.{Rises, rises_from_increasing}
use Rattle.bip_model.specs.declared.numbering.CompId.{CompId}
use Rattle.bip_words.proofs.RuleLemmas.{above_at}
use Rattle.bip_words.specs.Knowledge.{nobody}
use Rattle.bip_words.specs.Rows.{IsRows, floor_of, row_comps}
use Rattle.bip_words.specs.Rule.{FliesAlone, IsKept, IsKnownIn, IsPlaced}
use Rattle.bip_words.specs.declared.knowledge.Knowledge.{Knowledge}

abbrev numbers : List (CompId × ℕ) → List ℕ
numbers key = map (λ (e : CompId × ℕ). 2 * e.1) key

abbrev floors : List (CompId × ℕ) → List ℕ
floors key = map (λ (e : CompId × ℕ). 1 * e.1) key

length_numbers : (key : List (CompId × ℕ)) → length (numbers key ++ floors key)
    ≡ length key + length key
length_numbers key = length-append (numbers key) (floors key)
    ∙ (let a = twice key in let b = once key in omega (arith, a, b))
  where
    twice : (key : List (CompId × ℕ)) → length (numbers key) ≡ length key
    twice [] = refl
    twice (e ∷ es) = ap suc (twice es)

    once : (key : List (CompId × ℕ)) → length (floors key) ≡ length key
    once [] = refl
    once (e ∷ es) = ap suc (once es)

-- the first words are those of the rows
even_at : (key : List (CompId × ℕ)) (more : List ℕ) (r : ℕ) → r < length key
    → slice_index (numbers key ++ more) r % 2 ≡ 0
even_at [] more r lt = absurd (omega arith)
even_at (e ∷ es) more zero lt = omega arith
even_at (e ∷ es) more (suc r) lt = even_at es more r (omega arith)

-- the words behind them are the opening numbers
behind : (key : List (CompId × ℕ)) (more : List ℕ) (r : ℕ)
    → slice_index (numbers key ++ more) (length key + r) ≡ slice_index more r
behind [] more r = let e : 0 + r ≡ r = omega arith in ap (slice_index more) e
behind (e ∷ es) more r =
    let later : length (e ∷ es) + r ≡ suc (length es + r) = omega arith in
    ap (slice_index (numbers (e ∷ es) ++ more)) later ∙ behind es more r

floor_at : (key : List (CompId × ℕ)) (more : List ℕ) (r c : ℕ) → Rises (row_comps key)
    → get_elem? (row_comps key) r ≡ some c → floor_of key c ≡ slice_index
    (numbers key ++ more) r / 2
floor_at [] more r c rises at = cc
floor_at (e ∷ es) more zero c rises at = rw (eq-eqb e.0.0 c (some-injective e.0.0 c at))
    (omega arith)
floor_at (e ∷ es) more (suc r) c rises at = let less =
    above_at e.0.0 (row_comps es) r c rises.0 at in
    rw (ne_eqb e.0.0 c (λ e'. omega (arith, e', less))) (floor_at es more r c rises.1 at)

opened_at : (key : List (CompId × ℕ)) (r c : ℕ) → Rises (row_comps key)
    → get_elem? (row_comps key) r ≡ some c → slice_index (floors key) r ≡ floor_of key c
opened_at [] r c rises at = cc
opened_at (e ∷ es) zero c rises at = rw (eq-eqb e.0.0 c (some-injective e.0.0 c at)) (omega arith)
opened_at (e ∷ es) (suc r) c rises at = let less = above_at e.0.0 (row_comps es) r c rises.0 at in
    rw (ne_eqb e.0.0 c (λ e'. omega (arith, e', less))) (opened_at es r c rises.1 at)

floor_small : (key : List (CompId × ℕ)) (c : ℕ) → All (λ (e : CompId × ℕ). e.1 < 2 ^ 58) key
    → floor_of key c < 2 ^ 58
floor_small [] c small = omega arith
floor_small (e ∷ es) c small = pick (e.0.0 == c) e.1 (floor_of es c) (small 0 e (omega arith))
    (floor_small es c (λ k d within. small (suc k) d (omega arith)))
  where
    pick : (b : Bool) (m n : ℕ) → m < 2 ^ 58 → n < 2 ^ 58 → (if b then m else n) < 2 ^ 58
    pick true m n x y = x
    pick false m n x y = y

alone_at : (P : Knowledge → Type 0) → P nobody → (j : ℕ) (v : Knowledge)
    → get_elem? (nobody ∷ []) j ≡ some v → P v
alone_at P is zero v at = subst P (some-injective nobody v at) is
alone_at P is (suc j) v at = cc

pub opens : (key : List (CompId × ℕ)) → IsRows key → All (λ (e : CompId × ℕ). e.1 < 2 ^ 58) key
    → IsKept key (opening (0 ∷ (numbers key ++ floors key)) [] nobody)
opens key valid small =
    let rises = rises_from_increasing (row_comps key) valid.rising in
    let words : List ℕ = 0 ∷ (numbers key ++ floors key) in
    record {
      valid = valid;
      size = ap suc (length_numbers key);
      opening = λ r c there. behind key (floors key) r ∙ opened_at key r c rises there;
      count = refl;
      serials = λ k. grind (arith, nat_tests);
      history = tt;
      claims = λ r lt. sym (even_at key (floors key) r lt);
      known = alone_at (IsKnownIn (length key) words) (tt, tt, tt);
      used = λ r c there. let f = floor_at key (floors key) r c rises there in omega (arith, f);
      flight = alone_at (FliesAlone (row_comps key) (floor_of key) []) (inl tt);
      in_order = alone_at (λ (v : Knowledge). AllByRecursion (IsPlaced []) v.grants) tt;
      small = λ r c there. floor_small key c small;
      rises = omega arith;
    }
