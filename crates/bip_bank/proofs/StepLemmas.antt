-- The steps of a bank by number, and which of them are idle.
use Rattle.std.proofs.Common.{◌≡◌, ℕ, ◌<◌, ◌≤◌, ◌+◌, ◌*◌, ◌-◌, Bool, true, false, cond, nat_lt}
use Rattle.std.proofs.Common.{◌∙◌, ap, arith, inl, inr, subst, sym}
use Rattle.std.proofs.lemmas.Bool.Decides.{nat_tests}
use Rattle.std.proofs.lemmas.Bool.{cases_lt}
use Rattle.bip_bank.proofs.IdlenessLemmas.{oldest_asked}
use Rattle.bip_bank.specs.Banks.{BankContent, content_of}
use Rattle.bip_bank.specs.Central.{KeptCentral, kept_central}
use Rattle.bip_bank.specs.Idleness.{IsAskedAt, IsIdleBecause}
use Rattle.bip_bank.specs.Steps.{AreIdle, pair_at, step_at}
use Rattle.bip_bank.specs.declared.banks.BankStep.TheVariants.{Ask, Pass, Serve}
use Rattle.bip_bank.specs.declared.banks.BankStep.{BankStep}
use Rattle.bip_bank.specs.declared.banks.StationId.{StationId}
use Rattle.bip_bank.specs.declared.idleness.WhyIdle.TheVariants.{NoneOfIt, NothingOpen}
use Rattle.bip_bank.specs.declared.idleness.WhyIdle.{WhyIdle}

-- a step is idle for a reason
abbrev pub IsIdle : BankContent → BankStep → Type 0
IsIdle b step = (why : WhyIdle) × IsIdleBecause b step why

-- What a number says of its step.

pub serve_at : (n i : ℕ) → i < n → step_at n i ≡ Serve (record { 0 = i })
serve_at n i within =
    let here : nat_lt i n ≡ true = grind (arith, nat_tests, within) in
    ap (λ (b : Bool). cond b (Serve (record { 0 = i }))
    (cond (nat_lt (i - n) (n * n)) (Pass (pair_at n (i - n)).0 (pair_at n (i - n)).1)
    (Ask (pair_at n (i - n - n * n)).0 (pair_at n (i - n - n * n)).1))) here

pub pass_at : (n k : ℕ) → k < n * n → step_at n (n + k) ≡ Pass (pair_at n k).0 (pair_at n k).1
pass_at n k within =
    let past : nat_lt (n + k) n ≡ false = grind (arith, nat_tests) in
    let same : n + k - n ≡ k = omega arith in
    let here : nat_lt k (n * n) ≡ true = grind (arith, nat_tests, within) in
    ap (λ (b : Bool). cond b (Serve (record { 0 = n + k }))
    (cond (nat_lt (n + k - n) (n * n)) (Pass (pair_at n (n + k - n)).0 (pair_at n (n + k - n)).1)
    (Ask (pair_at n (n + k - n - n * n)).0 (pair_at n (n + k - n - n * n)).1))) past
    ∙ ap (λ (j : ℕ). cond (nat_lt j (n * n)) (Pass (pair_at n j).0 (pair_at n j).1)
    (Ask (pair_at n (j - n * n)).0 (pair_at n (j - n * n)).1)) same
    ∙ ap (λ (b : Bool). cond b (Pass (pair_at n k).0 (pair_at n k).1)
    (Ask (pair_at n (k - n * n)).0 (pair_at n (k - n * n)).1)) here

pub ask_at : (n k : ℕ) → step_at n (n + n * n + k) ≡ Ask (pair_at n k).0 (pair_at n k).1
ask_at n k =
    let past : nat_lt (n + n * n + k) n ≡ false = grind (arith, nat_tests) in
    let same : n + n * n + k - n ≡ n * n + k = omega arith in
    let here : nat_lt (n * n + k) (n * n) ≡ false = grind (arith, nat_tests) in
    let rest : n * n + k - n * n ≡ k = omega arith in
    ap (λ (b : Bool). cond b (Serve (record { 0 = n + n * n + k }))
    (cond (nat_lt (n + n * n + k - n) (n * n))
    (Pass (pair_at n (n + n * n + k - n)).0 (pair_at n (n + n * n + k - n)).1)
    (Ask (pair_at n (n + n * n + k - n - n * n)).0 (pair_at n (n + n * n + k - n - n * n)).1)))
    past
    ∙ ap (λ (j : ℕ). cond (nat_lt j (n * n)) (Pass (pair_at n j).0 (pair_at n j).1)
    (Ask (pair_at n (j - n * n)).0 (pair_at n (j - n * n)).1)) same
    ∙ ap (λ (b : Bool). cond b (Pass (pair_at n (n * n + k)).0 (pair_at n (n * n + k)).1)
    (Ask (pair_at n (n * n + k - n * n)).0 (pair_at n (n * n + k - n * n)).1)) here
    ∙ ap (λ (j : ℕ). Ask (pair_at n j).0 (pair_at n j).1) rest

-- those behind all that serve pass or ask
one_of : (holds : BankStep → Type 0) (b : Bool) (x y : BankStep) → holds x → holds y
    → holds (cond b x y)
one_of holds true x y one other = one
one_of holds false x y one other = other

pub behind_serving : (holds : BankStep → Type 0) (n i : ℕ) → n ≤ i
    → ((s t : StationId) → holds (Pass s t)) → ((s t : StationId) → holds (Ask s t))
    → holds (step_at n i)
behind_serving holds n i past passes asks =
    let behind : nat_lt i n ≡ false = grind (arith, nat_tests, past) in
    subst holds (sym (ap (λ (b : Bool). cond b (Serve (record { 0 = i }))
    (cond (nat_lt (i - n) (n * n)) (Pass (pair_at n (i - n)).0 (pair_at n (i - n)).1)
    (Ask (pair_at n (i - n - n * n)).0 (pair_at n (i - n - n * n)).1))) behind))
    (one_of holds (nat_lt (i - n) (n * n)) _ _
    (passes (pair_at n (i - n)).0 (pair_at n (i - n)).1)
    (asks (pair_at n (i - n - n * n)).0 (pair_at n (i - n - n * n)).1))

-- Steps that are idle one after another.

pub none_idle : (b : BankContent) (n from : ℕ) → AreIdle b n from from
none_idle b n from = λ i low high. absurd (omega (arith, low, high))

pub idle_then : (b : BankContent) (n from middle to : ℕ) → AreIdle b n from middle
    → AreIdle b n middle to → AreIdle b n from to
idle_then b n from middle to before after = λ i low high. elim (cases_lt i middle) [
  | inl first ↦ before i low first
  | inr later ↦ after i (omega (arith, later)) high
]

pub one_idle : (b : BankContent) (n from to : ℕ) → AreIdle b n from to → IsIdle b (step_at n to)
    → AreIdle b n from (to + 1)
one_idle b n from to before here = idle_then b n from to (to + 1) before
    (λ i low high. subst (λ (j : ℕ). IsIdle b (step_at n j)) (omega (arith, low, high)) here)

-- a central bank's steps are idle up to a station that may be asked, and all where there is none
pub unasked_idle : (c : KeptCentral) (n from to : ℕ)
    → ((s : ℕ) → from ≤ s → s < to → s < n → IsAskedAt c.plan c.waiting s → ⊥)
    → AreIdle (content_of (kept_central c)) n from to
unasked_idle c n from to none = λ i low high. elim (cases_lt i n) [
  | inl within ↦ subst (IsIdle (content_of (kept_central c))) (sym (serve_at n i within))
      (NothingOpen, λ has. none i low high within (oldest_asked c i has))
  | inr past ↦ behind_serving (IsIdle (content_of (kept_central c))) n i (omega (arith, past))
      (λ s t. (NoneOfIt, tt)) (λ s t. (NoneOfIt, tt))
]
