-- Whether one interaction stands above another, and that something stands free where nothing stands
-- above itself.
use Rattle.std.proofs.Common.{◌≡◌, ℕ, List, [], ◌∷◌, ◌⊎◌, inl, inr, ap, sym}
use Rattle.std.specs.Prelude.{All, Contains}
use Rattle.std.proofs.lemmas.Bool.{cases_eq}
use Rattle.std.proofs.lemmas.List.Elements.{All-nil, All-cons, All-weaker, All-contains}
use Rattle.bip_model.specs.Priorities.{HasAbove, declared, through, IsCyclic, pair}
use Rattle.bip_model.specs.declared.parts.Pair.{Pair}
use Rattle.bip_model.proofs.AboveLemmas.{HasAbove-trans}
use Rattle.bip_model.proofs.ListLemmas.{Contains-head, Contains-tail, Contains-cases, Contains-none}

-- what holds, or doesn't
abbrev pub Decided : Type 0 → Type 0
Decided P = P ⊎ (¬ P)

-- the same, or above
abbrev pub IsUpTo : List Pair → ℕ → ℕ → Type 0
IsUpTo pairs a b = (a ≡ b) ⊎ HasAbove pairs a b

-- a way up through one more pair, or without it
abbrev pub IsByPair : Pair → List Pair → ℕ → ℕ → Type 0
IsByPair p pairs a b = HasAbove pairs a b ⊎ (IsUpTo pairs a p.low.0 × IsUpTo pairs p.high.0 b)

wider : {p : Pair} {pairs : List Pair} {a b : ℕ} → HasAbove pairs a b → HasAbove (p ∷ pairs) a b
wider {p} {pairs} (declared at) = declared (Contains-tail p _ pairs at)
wider {p} {pairs} (through at rest) = through (Contains-tail p _ pairs at) (wider rest)

by_pair : (p : Pair) (pairs : List Pair) (a b : ℕ) → IsUpTo pairs a p.low.0
    → IsUpTo pairs p.high.0 b → HasAbove (p ∷ pairs) a b
by_pair p pairs a b below beyond =
    let step : HasAbove (p ∷ pairs) p.low.0 p.high.0 = declared (Contains-head p pairs) in
    let up : HasAbove (p ∷ pairs) a p.high.0 =
    elim below [ inl same ↦ rw same step | inr way ↦ HasAbove-trans (wider way) step ] in
    elim beyond [ inl same ↦ rw (← same) up | inr way ↦ HasAbove-trans up (wider way) ]

-- a step, and then a way up
step_by_pair : {p : Pair} {pairs : List Pair} {a b c : ℕ} → (p ≡ pair a b)
    ⊎ Contains pairs (pair a b) → IsByPair p pairs b c → IsByPair p pairs a c
step_by_pair (inl same) (inl way) = inr (
  inl (ap (λ (q : Pair). q.low.0) (sym same)),
  rw (ap (λ (q : Pair). q.high.0) same) (inr way),
)
step_by_pair (inl same) (inr (below, beyond)) =
    inr (inl (ap (λ (q : Pair). q.low.0) (sym same)), beyond)
step_by_pair (inr at) (inl way) = inl (through at way)
step_by_pair (inr at) (inr (inl same, beyond)) = inr (inr (rw (← same) (declared at)), beyond)
step_by_pair (inr at) (inr (inr below, beyond)) = inr (inr (through at below), beyond)

split : {p : Pair} {pairs : List Pair} {a b : ℕ} → HasAbove (p ∷ pairs) a b → IsByPair p pairs a b
split {p} {pairs} {a} {b} (declared at) =
    elim (Contains-cases p pairs (pair a b) at) [
      | inl same ↦ inr (
        inl (ap (λ (q : Pair). q.low.0) (sym same)),
        inl (ap (λ (q : Pair). q.high.0) same),
      )
      | inr there ↦ inl (declared there)
    ]
split {p} {pairs} {a} {b} (through {b = x} at rest) =
    step_by_pair (Contains-cases p pairs (pair a x) at) (split rest)

pub none_above : (a b : ℕ) → ¬ HasAbove [] a b
none_above a b (declared at) = Contains-none (pair a b) at
none_above a b (through {b = x} at rest) = Contains-none (pair a x) at

pub up_to_decided : {pairs : List Pair} (a b : ℕ) → Decided (HasAbove pairs a b)
    → Decided (IsUpTo pairs a b)
up_to_decided a b decided =
    elim (cases_eq a b) [
      | inl same ↦ inl (inl same)
      | inr other ↦ elim decided [
        | inl way ↦ inl (inr way)
        | inr none ↦
            inr (λ up. elim up [ inl same ↦ other same | inr way ↦ none way ])
      ]
    ]

pub HasAbove-decided : (pairs : List Pair) (a b : ℕ) → Decided (HasAbove pairs a b)
HasAbove-decided [] a b = inr (none_above a b)
HasAbove-decided (p ∷ pairs) a b =
    elim (HasAbove-decided pairs a b) [
      | inl way ↦ inl (wider way)
      | inr none ↦
          elim (up_to_decided a p.low.0 (HasAbove-decided pairs a p.low.0)) [
            | inr below ↦ inr (λ up. elim (split up) [ inl way ↦ none way | inr by ↦ below by.0 ])
            | inl below ↦
                elim (up_to_decided p.high.0 b (HasAbove-decided pairs p.high.0 b)) [
                  | inr beyond ↦ inr (λ up. elim (split up)
                      [ inl way ↦ none way | inr by ↦ beyond by.1 ])
                  | inl beyond ↦ inl (by_pair p pairs a b below beyond)
                ]
          ]
    ]

-- what stands above something is the second of a pair
HasAbove-last : {pairs : List Pair} {a b : ℕ} → HasAbove pairs a b → (x : ℕ)
    × Contains pairs (pair x b)
HasAbove-last {a} (declared at) = (a, at)
HasAbove-last (through at rest) = HasAbove-last rest

-- the second interaction of a pair doesn't both stand above one and satisfy P
abbrev pub IsQuiet : List Pair → (ℕ → Type 0) → ℕ → Pair → Type 0
IsQuiet pairs P m p = HasAbove pairs m p.high.0 → ¬ P p.high.0

-- one that satisfies P and has none above it that does, as far as some pairs tell: where the next
-- pair tells of one, that one is higher
climb : (pairs : List Pair) → ¬ IsCyclic pairs → (P : ℕ → Type 0) → ((a : ℕ) → Decided (P a))
    → (a : ℕ) → P a → (some : List Pair) → (m : ℕ) × P m × All (IsQuiet pairs P m) some
climb pairs acyclic P test a here [] = (a, here, All-nil (IsQuiet pairs P a))
climb pairs acyclic P test a here (p ∷ some) =
    let (m, here', quiet) = climb pairs acyclic P test a here some in
    elim (HasAbove-decided pairs m p.high.0) [
      | inr none ↦ (m, here', All-cons (IsQuiet pairs P m) p some (λ up _. none up) quiet)
      | inl up ↦
          elim (test p.high.0) [
            | inr not' ↦ (m, here', All-cons (IsQuiet pairs P m) p some (λ _. not') quiet)
            | inl higher ↦ (
              p.high.0,
              higher,
              All-cons (IsQuiet pairs P p.high.0) p some
                  (λ round _. acyclic (p.high.0, round))
                  (All-weaker (IsQuiet pairs P m) (IsQuiet pairs P p.high.0)
                  (λ q still above. still (HasAbove-trans up above)) some quiet),
            )
          ]
    ]

-- where one satisfies P, one does with none above it that does
pub highest : (pairs : List Pair) → ¬ IsCyclic pairs → (P : ℕ → Type 0) → ((a : ℕ) → Decided (P a))
    → (a : ℕ) → P a → (m : ℕ) × P m × ((b : ℕ) → HasAbove pairs m b → ¬ P b)
highest pairs acyclic P test a here =
    let (m, here', quiet) = climb pairs acyclic P test a here pairs in
    (m, here', λ b up. All-contains (IsQuiet pairs P m) pairs _ quiet (HasAbove-last up).1 up)

-- what stands below something is the first of a pair
HasAbove-first : {pairs : List Pair} {a b : ℕ} → HasAbove pairs a b → (x : ℕ)
    × Contains pairs (pair a x)
HasAbove-first {b = b} (declared at) = (b, at)
HasAbove-first (through {b = x} at rest) = (x, at)

-- the first interaction of a pair doesn't stand above itself
abbrev IsStraight : List Pair → Pair → Type 0
IsStraight pairs p = ¬ HasAbove pairs p.low.0 p.low.0

straight : (pairs some : List Pair) → IsCyclic pairs ⊎ All (IsStraight pairs) some
straight pairs [] = inr (All-nil (IsStraight pairs))
straight pairs (p ∷ some) =
    elim (HasAbove-decided pairs p.low.0 p.low.0) [
      | inl round ↦ inl (p.low.0, round)
      | inr ends ↦ elim (straight pairs some) [
        | inl cyclic ↦ inl cyclic
        | inr rest ↦
            inr (All-cons (IsStraight pairs) p some ends rest)
      ]
    ]

-- pairs are cyclic, or they aren't
pub cyclic_or_not : (pairs : List Pair) → Decided (IsCyclic pairs)
cyclic_or_not pairs = elim (straight pairs pairs) [
  | inl cyclic ↦ inl cyclic
  | inr all ↦ inr (λ cyclic. All-contains (IsStraight pairs) pairs _ all
      (HasAbove-first cyclic.1).1 cyclic.1)
]
