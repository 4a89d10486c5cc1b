-- What is owed to rows, and by whom.
use Rattle.std.proofs.Common.{◌≡◌, ◌≢◌, ℕ, zero, suc, ◌+◌, ◌*◌, ◌%◌, ◌<◌, ◌≤◌, ◌^◌, Bool, true}
use Rattle.std.proofs.Common.{false, ◌&&◌, List, [], ◌∷◌, ◌++◌, length, set, refl, sym, ap, ◌∙◌}
use Rattle.std.proofs.Common.{subst, inl, inr, eq-eqb, ne_eqb, arith, Some}
use Rattle.std.specs.Prelude.{slice_get, if◌then◌else◌, All, ◌==◌}
use mathlib.Core.Option.{some, some-injective}
use mathlib.Core.Logic.{dite}
use native.Mathlib.Decide.{ℕ_discrete}
use lib.ListN.{get_elem?}
use Rattle.bip_model.specs.Wants.{moved_in, is_moved}
use Rattle.bip_model.specs.declared.wants.Want.{Want}
use Rattle.bip_model.specs.declared.grants.Grant.{Grant}
use Rattle.std.specs.List.{AllByRecursion}
use Rattle.bip_words.proofs.Passes.{IsClaimed}
use Rattle.bip_words.proofs.Totals.{off_row, on_row, total_set}
use Rattle.bip_words.specs.Knowledge.{claim, claims_on, nobody}
use Rattle.bip_words.specs.Rule.{IsNotDue, IsPlaced, claims_of, owed_of, owed_on, row_word, total}
use Rattle.bip_words.specs.Rule.{weight}
use Rattle.bip_words.specs.Steps.{IsBelow, IsCovered, IsSmall, all_due}
use Rattle.bip_words.specs.declared.knowledge.Claim.{Claim}
use Rattle.bip_words.specs.declared.knowledge.Knowledge.{Knowledge}

unowed : (b : Bool) (n : ℕ) (d : Bool) → d ≡ false → (if b && d then n else 0) ≡ 0
unowed true n d e = ap (λ (x : Bool). if x then n else 0) e
unowed false n d e = refl

pub none_due : (r n : ℕ) (cs : List Claim) → AllByRecursion IsNotDue cs → owed_on r n cs ≡ 0
none_due r n [] all = refl
none_due r n (c ∷ cs) all = let rest = none_due r n cs all.1 in let head =
    unowed (c.row == r) n c.due all.0 in omega (arith, rest, head)

pub owed_else : (r n : ℕ) (c : Claim) (cs : List Claim) → c.row ≢ r
    → owed_on r n (c ∷ cs) ≡ owed_on r n cs
owed_else r n c cs ne = rw (ne_eqb c.row r ne) (omega arith)

pub owed_here : (r n : ℕ) (c : Claim) (cs : List Claim) → c.row ≡ r
    → owed_on r n (c ∷ cs) ≡ (if c.due then n else 0) + owed_on r n cs
owed_here r n c cs e = rw (eq-eqb c.row r e) refl

-- a row without a claim is owed nothing
pub none_on : (r n : ℕ) (cs : List Claim) → claims_on r cs ≡ 0 → owed_on r n cs ≡ 0
none_on r n [] none = refl
none_on r n (c ∷ cs) none = dite (ℕ_discrete c.row r)
    (λ e. absurd (let one = on_row r c cs e in omega (arith, one, none)))
    (λ ne. owed_else r n c cs ne ∙ none_on r n cs (sym (off_row r c cs ne) ∙ none))

pub due_claims : (r : ℕ) (cs : List Claim) → claims_on r (all_due cs) ≡ claims_on r cs
due_claims r [] = refl
due_claims r (c ∷ cs) = ap (λ (k : ℕ). (if c.row == r then 1 else 0) + k) (due_claims r cs)

-- once the claims are due, a row with one of them is owed the number
pub due_owed : (r n : ℕ) (cs : List Claim) → claims_on r cs ≡ 1 → owed_on r n (all_due cs) ≡ n
due_owed r n [] one = absurd (omega (arith, one))
due_owed r n (c ∷ cs) one = dite (ℕ_discrete c.row r)
    (λ e.
    let k = on_row r c cs e in
    let rest = none_on r n (all_due cs) (due_claims r cs ∙ omega (arith, k, one)) in
    owed_here r n (claim c.row c.used true) (all_due cs) e ∙ omega (arith, rest))
    (λ ne. owed_else r n (claim c.row c.used true) (all_due cs) ne
    ∙ due_owed r n cs (sym (off_row r c cs ne) ∙ one))

total_none : (r c : ℕ) (views : List Knowledge) → total (claims_of r) views ≡ 0
    → total (owed_of r c) views ≡ 0
total_none r c [] none = refl
total_none r c (v ∷ vs) none =
    let head : owed_of r c v ≡ 0 = none_on r (moved_in v.asked.wants c) v.claims
    (omega (arith, none)) in
    let rest = total_none r c vs (omega (arith, none)) in
    omega (arith, head, rest)

-- only the token that has the claim owes
pub alone : (rows : ℕ) (words : List ℕ) (views : List Knowledge) (id r c : ℕ) (v : Knowledge)
    → IsClaimed rows words views → get_elem? views id ≡ some v → r < rows → 0 < claims_of r v
    → total (owed_of r c) views ≡ owed_of r c v
alone rows words views id r c v h at lt some_claim =
    let t = total_set (claims_of r) views id v nobody at in
    let o = total_set (owed_of r c) views id v nobody at in
    let old = h.claims r lt in
    let none = total_none r c (set views id nobody) (omega (arith, t, old, some_claim)) in
    omega (arith, o, none)

-- and where none has a claim, nobody does
pub nobody_owes : (rows : ℕ) (words : List ℕ) (views : List Knowledge) (r c : ℕ)
    → IsClaimed rows words views → r < rows → row_word words r % 2 ≡ 0
    → total (owed_of r c) views ≡ 0
nobody_owes rows words views r c h lt even = total_none r c views (h.claims r lt ∙ even)

pub covered_on : (comps : List ℕ) (r : ℕ) (w : Want) (cs : List Claim)
    → ((i j c : ℕ) → get_elem? comps i ≡ some c → get_elem? comps j ≡ some c → i ≡ j)
    → IsCovered comps cs w → get_elem? comps r ≡ some w.comp.0 → 0 < claims_on r cs
covered_on comps r w [] apart none there = absurd none
covered_on comps r w (c ∷ cs) apart (inl this) there = let k =
    on_row r c cs (apart c.row r w.comp.0 this.0 there) in omega (arith, k)
covered_on comps r w (c ∷ cs) apart (inr rest) there = let k =
    covered_on comps r w cs apart rest there in omega (arith, k)

-- what isn't claimed isn't moved
pub unclaimed : (comps : List ℕ) (r c : ℕ) (cs : List Claim) (ws : List Want)
    → ((i j c : ℕ) → get_elem? comps i ≡ some c → get_elem? comps j ≡ some c → i ≡ j)
    → AllByRecursion (IsCovered comps cs) ws → get_elem? comps r ≡ some c → claims_on r cs ≡ 0
    → moved_in ws c ≡ 0
unclaimed comps r c cs [] apart all there none = refl
unclaimed comps r c cs (w ∷ ws) apart all there none =
    let ne : w.comp.0 ≢ c = λ e. let k = covered_on comps r w cs apart all.0
    (there ∙ ap some (sym e)) in omega (arith, k, none) in
    rw (ne_eqb w.comp.0 c ne) (unclaimed comps r c cs ws apart all.1 there none)

pub moved_small : (ws : List Want) (c : ℕ) → AllByRecursion IsSmall ws → moved_in ws c < 2 ^ 58
moved_small [] c all = omega arith
moved_small (w ∷ ws) c all = pick ((w.comp.0 == c) && is_moved w.role) w.number
    (moved_in ws c) all.0 (moved_small ws c all.1)
  where
    pick : (b : Bool) (m n : ℕ) → m < 2 ^ 58 → n < 2 ^ 58 → (if b then m else n) < 2 ^ 58
    pick true m n x y = x
    pick false m n x y = y

pub each_all : {A : Type 0} (P : A → Type 0) (xs : List A) → AllByRecursion P xs → All P xs
each_all P [] all k d within = absurd (omega arith)
each_all P (x ∷ xs) all zero d within = all.0
each_all P (x ∷ xs) all (suc k) d within = each_all P xs all.1 k d (omega arith)

pub weight_below : (f : ℕ → ℕ) (comps : List ℕ)
    → ((r c : ℕ) → get_elem? comps r ≡ some c → f c < 2 ^ 58)
    → weight f comps ≤ length comps * 2 ^ 58
weight_below f [] all = omega arith
weight_below f (c ∷ cs) all = let head = all 0 c refl in let rest =
    weight_below f cs (λ r d there. all (suc r) d there) in omega (arith, head, rest)

pub weight_more : (f g : ℕ → ℕ) (comps : List ℕ) → ((c : ℕ) → f c ≤ g c)
    → weight f comps ≤ weight g comps
weight_more f g [] up = omega arith
weight_more f g (c ∷ cs) up = let rest = weight_more f g cs up in let head = up c in
    omega (arith, rest, head)

pub weight_rises : (f g : ℕ → ℕ) (comps : List ℕ) (r c : ℕ) → ((c : ℕ) → f c ≤ g c)
    → get_elem? comps r ≡ some c → f c < g c → weight f comps < weight g comps
weight_rises f g [] r c up there more = cc
weight_rises f g (d ∷ ds) zero c up there more =
    let rest = weight_more f g ds up in
    let same : d ≡ c = some-injective d c there in
    let head : f d < g d = subst (λ (k : ℕ). f k < g k) (sym same) more in
    omega (arith, rest, head)
weight_rises f g (d ∷ ds) (suc r) c up there more = let rest =
    weight_rises f g ds r c up there more in let head = up d in omega (arith, rest, head)

pub placed_longer : (log : List Grant) (g : Grant) (p : ℕ × Grant) → IsPlaced log p
    → IsPlaced (log ++ g ∷ []) p
placed_longer log g (k, h) is = longer log k is
  where
    longer : (l : List Grant) (k : ℕ) → slice_get l k ≡ Some h → slice_get (l ++ g ∷ []) k ≡ Some h
    longer [] k is = cc
    longer (x ∷ xs) zero is = is
    longer (x ∷ xs) (suc k) is = longer xs k is

pub placed_last : (log : List Grant) (g : Grant) → slice_get (log ++ g ∷ []) (length log) ≡ Some g
placed_last [] g = refl
placed_last (x ∷ xs) g = placed_last xs g

pub placed_below : (log : List Grant) (p : ℕ × Grant) → IsPlaced log p → IsBelow (length log) p
placed_below log (k, h) is = below log k is
  where
    below : (l : List Grant) (k : ℕ) → slice_get l k ≡ Some h → k < length l
    below [] k is = cc
    below (x ∷ xs) zero is = omega arith
    below (x ∷ xs) (suc k) is = let ih = below xs k is in omega (arith, ih)
