-- The first enabled interaction of a row is the lowest.
use Rattle.std.proofs.Common.{◌≡◌, ℕ, ◌<◌, List, length, map, get_or, ap, ◌∙◌, inl, inr, arith, ◌⊎◌}
use Rattle.std.proofs.Common.{subst, zero, suc}
use Rattle.std.specs.Prelude.{Contains}
use Rattle.std.specs.List.Sorted.{IsStrictlyIncreasing}
use Rattle.std.proofs.lemmas.Bool.{cases_lt}
use Rattle.std.proofs.lemmas.List.{get_or-map, get_or_default, length-map}
use Rattle.std.proofs.lemmas.List.Kept.{AllPairs-from_increasing}
use Rattle.bip_model.specs.declared.numbering.InterId.{InterId}
use Rattle.bip_model.specs.declared.parts.System.{System}
use Rattle.bip_model.specs.Priorities.{HasAbove, IsListAbove}
use Rattle.bip_model.proofs.ClimbLemmas.{HasAbove-decided}
use Rattle.bip_model.proofs.StepLemmas.{enabled_or_not}
use Rattle.bip_model.specs.Steps.{IsEnabled, IsLowestAbove, MayRun}
use Rattle.bip_model.specs.States.{State}

-- the numbers of a row rise
rises : (row : List InterId) (i j : ℕ) (d : InterId)
    → IsStrictlyIncreasing (map (λ (b : InterId). b.0) row) → i < j → j < length row
    → (get_or row i d).0 < (get_or row j d).0
rises row i j d rising before within =
    let shorter : i < length row = omega arith in
    let mapped : j < length (map (λ (b : InterId). b.0) row) = simp length-map within in
    let e = get_or-map (λ (b : InterId). b.0) row i d 0 shorter in
    let f = get_or-map (λ (b : InterId). b.0) row j d 0 within in
    let g = AllPairs-from_increasing (map (λ (b : InterId). b.0) row) rising i j 0 before mapped in
    omega (arith, e, f, g)

pub lowest_above : (m : System) (s : State) (a : ℕ) (row : List InterId) (i : ℕ) (d : InterId)
    → IsListAbove m.priorities a row → i < length row → IsEnabled m s (get_or row i d).0
    → ((k : ℕ) (e : InterId) → k < i → ¬ IsEnabled m s (get_or row k e).0)
    → IsLowestAbove m s a (get_or row i d).0
lowest_above m s a row i d is within enabled earlier = record {
  above = (is.exact (get_or row i d).0).0 (
    i,
    within,
    get_or_default row i (get_or row i d) d within,
  );
  enabled = enabled;
  lower = lower;
}
  where
    lower : (c : ℕ) → c < (get_or row i d).0 → HasAbove m.priorities a c → ¬ IsEnabled m s c
    lower c below above =
        let n : InterId = record { 0 = c } in
        let here : Contains row n = (is.exact c).1 above in
        let k : ℕ = here.0 in
        let inside : k < length row = here.1 in
        let at : (get_or row k d).0 ≡ c = ap (λ (b : InterId). b.0)
        (get_or_default row k d n inside ∙ here.2) in
        λ other.
        elim (cases_lt k i) [
          | inl before ↦ earlier k d before (rw at other)
          | inr later ↦
              elim (cases_lt i k) [
                | inl after ↦ let up = rises row i k d is.rising after inside in
                    absurd (omega (arith, up, at))
                | inr same ↦ let e : k ≡ i = omega arith in
                    absurd (omega (arith, at, ap (λ j. (get_or row j d).0) e))
              ]
        ]

-- the lowest of those above one that are enabled, below a bound, or none
lowest_below : (m : System) (s : State) (a n : ℕ)
    → ((c : ℕ) → c < n → HasAbove m.priorities a c → ¬ IsEnabled m s c)
    ⊎ ((b : ℕ) × IsLowestAbove m s a b)
lowest_below m s a zero = inl (λ c below. absurd (omega (arith, below)))
lowest_below m s a (suc n) =
    elim (lowest_below m s a n) [
      | inr found ↦ inr found
      | inl none ↦
          elim (HasAbove-decided m.priorities a n) [
            | inr apart ↦ inl (λ c below above. elim (cases_lt c n) [
              | inl less ↦ none c less above
              | inr past ↦
                  absurd (apart (subst (HasAbove m.priorities a) (omega arith) above))
            ])
            | inl up ↦
                elim (enabled_or_not m s n) [
                  | inl on ↦ inr (n, record { above = up; enabled = on; lower = none })
                  | inr off ↦ inl (λ c below above. elim (cases_lt c n) [
                    | inl less ↦ none c less above
                    | inr past ↦
                        λ enabled. off (subst (IsEnabled m s) (omega arith) enabled)
                  ])
                ]
          ]
    ]

-- what is enabled may run, or one above it is enabled
pub may_or_below : (m : System) (s : State) (a : ℕ) → IsEnabled m s a → MayRun m s a
    ⊎ ((b : ℕ) × IsLowestAbove m s a b)
may_or_below m s a enabled =
    elim (lowest_below m s a (length m.interactions)) [
      | inr found ↦ inr found
      | inl none ↦ inl (record {
        enabled = enabled;
        clear = λ b above on. none b on.declared above on;
      })
    ]
