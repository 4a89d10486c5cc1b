-- The first of a list in order is the lowest, and of a property that can be tested the lowest
-- number that has it.
use Rattle.std.proofs.Common.{◌≡◌, ◌⊎◌, ℕ, zero, suc, ◌<◌, Bool, false, List, [], ◌∷◌, map, get_or}
use Rattle.std.proofs.Common.{Some, find, inl, inr, ap, arith, subst}
use Rattle.std.specs.Prelude.{Contains}
use Rattle.std.specs.List.Sorted.{IsStrictlyIncreasing}
use Rattle.std.proofs.lemmas.Bool.{cases_Bool, cases_lt, cases_order}
use Rattle.bip_model.proofs.ClimbLemmas.{Decided}
use Rattle.bip_model.proofs.ListLemmas.{Contains-cases, Contains-none, below_later}
use Rattle.bip_model.proofs.NumberingLemmas.{increasing_tail}
use Rattle.bip_model.specs.Numbering.{IsLowest}

-- of things whose numbers rise, the first that passes is the lowest that does
pub first_is_lowest : {X : Type 0} (number : X → ℕ) (p : X → Bool) (xs : List X) (x : X)
    → IsStrictlyIncreasing (map number xs) → find p xs ≡ Some x → (y : X) → Contains xs y
    → number y < number x → p y ≡ false
first_is_lowest number p [] x rising is y at below = absurd (Contains-none y at)
first_is_lowest number p (z ∷ zs) x rising is y at below = elim (cases_Bool (p z)) [
  | inl passes ↦
      let here : Some z ≡ Some x = rw passes at is in
      let equal : z ≡ x = cc in
      elim (Contains-cases z zs y at) [
        | inl same ↦ absurd (omega (arith, ap number same, ap number equal))
        | inr there ↦
            let later : number z < number (get_or zs there.0 y) =
            below_later number (z ∷ zs) rising 0 (suc there.0) y (omega arith)
            (omega (arith, there.1)) in
            absurd (omega (arith, later, ap number there.2, ap number equal))
      ]
  | inr fails ↦ elim (Contains-cases z zs y at) [
    | inl same ↦ rw (← same) fails
    | inr there ↦ first_is_lowest number p zs x (increasing_tail (number z) (map number zs) rising)
        (rw fails at is) y there below
  ]
]

-- the lowest number below a bound that has a property, or none
pub lowest_or_none : (P : ℕ → Type 0) → ((k : ℕ) → Decided (P k)) → (n : ℕ)
    → ((k : ℕ) → k < n → ¬ P k) ⊎ ((k : ℕ) × IsLowest P k)
lowest_or_none P test zero = inl (λ k below. absurd (omega (arith, below)))
lowest_or_none P test (suc n) = elim (lowest_or_none P test n) [
  | inr found ↦ inr found
  | inl none ↦ elim (test n) [
    | inl here ↦ inr (n, record { here = here; lower = none })
    | inr out ↦ inl (λ k below. elim (cases_lt k n)
        [ inl less ↦ none k less | inr past ↦ λ is. out (subst P (omega arith) is) ])
  ]
]

-- the lowest number is one alone
pub lowest_same : (P : ℕ → Type 0) (n k : ℕ) → IsLowest P n → IsLowest P k → n ≡ k
lowest_same P n k one other = elim (cases_order n k) [
  | inl same ↦ same
  | inr (inl below) ↦ absurd (other.lower n below one.here)
  | inr (inr above) ↦ absurd (one.lower k above other.here)
]
