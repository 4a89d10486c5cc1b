-- Why a step of forks does nothing, as a bank has it.
use Rattle.std.proofs.Common.{◌≡◌, ℕ, zero, suc, ◌<◌, ◌≤◌, ◌+◌, ◌*◌, ◌-◌, ◌/◌, ◌%◌, Bool, true}
use Rattle.std.proofs.Common.{false, cond, length, map}
use Rattle.std.proofs.Common.{Option, None, Some, refl, sym, ap, ◌∙◌, subst, inl, inr, arith}
use Rattle.std.proofs.Common.{slice_get}
use Rattle.std.specs.Option.{option_map}
use Rattle.std.specs.Prelude.{IfNone, IfSome}
use Rattle.std.proofs.lemmas.Bool.{cases_lt}
use Rattle.std.proofs.lemmas.List.{length-map}
use Rattle.std.proofs.lemmas.Nat.{div-mul-add, div_below, mod-mul-add}
use Rattle.std.proofs.lemmas.Option.{slice_get_cases}
use Rattle.bip_table.specs.Rows.{used_at}
use Rattle.bip_bank.specs.Banks.{BankContent, CanWantMemory, HasOldest, content_of}
use Rattle.bip_bank.specs.ForkSharing.{ForkState, away, clean, dirty}
use Rattle.bip_bank.proofs.StepLemmas.{ask_at, pass_at, serve_at}
use Rattle.bip_bank.specs.Idleness.{IsIdleBecause}
use Rattle.bip_bank.specs.Steps.{AreIdle, step_at, step_count}
use Rattle.bip_bank.specs.declared.banks.Acted.TheVariants.{Moved}
use Rattle.bip_bank.specs.declared.banks.BankStep.TheVariants.{Ask, Deliver, Pass, Serve}
use Rattle.bip_bank.specs.declared.banks.BankStep.{BankStep}
use Rattle.bip_bank.specs.declared.idleness.WhyIdle.TheVariants.{ForkClean, ForkElsewhere, ForkHere}
use Rattle.bip_bank.specs.declared.idleness.WhyIdle.TheVariants.{Lacking, NoFork, NoRequestToken}
use Rattle.bip_bank.specs.declared.idleness.WhyIdle.TheVariants.{NotAskedFor, NothingOpen}
use Rattle.bip_bank.specs.declared.idleness.WhyIdle.TheVariants.{NothingThere}
use Rattle.bip_bank.specs.declared.idleness.WhyIdle.{WhyIdle}
use Rattle.bip_forks.proofs.ActLemmas.{all_lie, content_is, wants_as}
use Rattle.bip_forks.proofs.KeptLemmas.{apart_of, steps_deliver}
use Rattle.bip_forks.proofs.ServedLemmas.{lying_of}
use Rattle.bip_forks.proofs.SharingLemmas.{forks_bank, has_all_of, no_side, not_away, oldest_of}
use Rattle.bip_forks.proofs.SharingLemmas.{side_is}
use Rattle.bip_forks.proofs.ViewLemmas.{waiting_at}
use Rattle.bip_forks.specs.Idleness.{AreIdleHere, IsIdleWith, IsUnservedHere}
use Rattle.bip_forks.specs.Kept.{AppliesTo, ForkParts, IsIdleHere, IsKeptForks, KeptForks}
use Rattle.bip_forks.specs.Kept.{kept_forks, lying}
use Rattle.bip_forks.specs.Kept.{machine_of, sending_of, side_at, station_at}
use Rattle.bip_forks.specs.Laws.{content, fork_state, parcel_of}
use Rattle.bip_forks.specs.Machines.{ShareFork}
use Rattle.bip_forks.specs.Stations.{AsksNothing, HasFirst, IsUnserved, KeepsFork}
use Rattle.bip_forks.specs.declared.exchanges.Exchange.TheVariants as exchange
use Rattle.bip_forks.specs.declared.sending.Sent.{Sent}
use Rattle.bip_forks.specs.declared.shares.Fork.{Fork}
use Rattle.bip_forks.specs.declared.shares.Side.{Side}

-- a step that applies can be done, but for want of memory
arrives_at : (k : KeptForks) (n : ℕ) (x : Sent) → IsKeptForks k
    → slice_get k.parts.flight n ≡ Some x → CanWantMemory (content (machine_of k)) (Deliver n)
arrives_at k n x is at =
    let step = steps_deliver k n x is at in
    (_, (forks_bank (machine_of k) _ (Deliver n) Moved is.machine step.does).0)

pub can_act : (k : KeptForks) (step : BankStep) → IsKeptForks k → AppliesTo k.parts step
    → CanWantMemory (content_of (kept_forks k)) step
can_act k (Deliver n) is within = subst (λ (b : BankContent). CanWantMemory b (Deliver n))
    (sym (content_is k is)) (elim ((slice_get_cases k.parts.flight n).1) [
      | inl found ↦ arrives_at k n found.0 is found.2
      | inr past ↦ absurd (omega (arith, within, past.0))
    ])
can_act k (Serve s) is applies = wants_as k (Serve s) is applies
can_act k (Pass s t) is applies = wants_as k (Pass s t) is applies
can_act k (Ask s t) is applies = wants_as k (Ask s t) is applies

-- what a station has of a fork
abbrev share_of : KeptForks → ℕ → ℕ → Type 0
share_of k s t = ShareFork (machine_of k).net s t

shared_at : (k : KeptForks) (s t : ℕ) → IsKeptForks k → (side_at k.parts.stations s t).shared ≡ true
    → share_of k s t
shared_at k s t is shared = (is.machine.net.share s t).0 shared

state_away : (side : Side) → side.fork ≡ None → fork_state (lying side) ≡ away
state_away side none =
    ap (λ (o : Option Fork). fork_state (option_map (λ (f : Fork). record {
      clean = side.clean;
      numbers = used_at f.rows;
    }) o)) none

state_clean : (side : Side) (f : Fork) → side.fork ≡ Some f → side.clean ≡ true
    → fork_state (lying side) ≡ clean
state_clean side f here unsullied =
    ap fork_state (lying_of side f here)
    ∙ ap {B = ForkState} (λ (b : Bool). cond b clean dirty) unsullied

-- an open request of a station
first_of : (k : KeptForks) (s : ℕ) → IsKeptForks k → s < length k.parts.stations
    → HasOldest (content (machine_of k)) s → HasFirst (station_at k.parts.stations s).waiting
first_of k s is within has =
    let asked = oldest_of (machine_of k) s is.machine has in (
      asked.0,
      asked.1,
      sym (waiting_at k.parts.stations s within (apart_of k is)) ∙ asked.2,
    )

none_past : (k : KeptForks) (s : ℕ) → IsKeptForks k → length k.parts.stations ≤ s
    → HasOldest (content (machine_of k)) s → ⊥
none_past k s is past has =
    let known = is.machine.net.known s has.number has.station in
    omega (arith, past, known.0)

-- why a step does nothing
idle_in : (k : KeptForks) (step : BankStep) (why : WhyIdle) → IsKeptForks k
    → IsIdleHere k.parts step why → IsIdleBecause (content (machine_of k)) step why
idle_in k (Deliver n) NothingThere is past =
    omega (
      arith,
      past,
      length-map k.parts.flight sending_of,
      length-map (map sending_of k.parts.flight) parcel_of,
    )
idle_in k (Deliver n) why is here = absurd here
idle_in k (Serve s) why is (inl (within, un)) = unserved why un
  where
    unserved : (w : WhyIdle) → IsUnserved (station_at k.parts.stations s.0) w
        → IsIdleBecause (content (machine_of k)) (Serve s) w
    unserved NothingOpen none = λ has. none (first_of k s.0 is within has)
    unserved Lacking lacks = λ each.
        lacks (all_lie k s.0 is (has_all_of (machine_of k) s.0 is.machine each))
    unserved w un' = absurd un'
idle_in k (Serve s) why is (inr (past, same)) =
    subst (IsIdleBecause (content (machine_of k)) (Serve s)) (sym same) (none_past k s.0 is past)
idle_in k (Pass s t) why is keeps = kept why keeps
  where
    kept : (w : WhyIdle) → KeepsFork (side_at k.parts.stations s.0 t.0) w
        → IsIdleBecause (content (machine_of k)) (Pass s t) w
    kept NoFork apart = no_side (machine_of k) s.0 t.0 apart
    kept ForkElsewhere (shared, none) = (
      _,
      side_is (machine_of k) s.0 t.0 away _ (shared_at k s.0 t.0 is shared) shared
          (state_away (side_at k.parts.stations s.0 t.0) none) refl,
      refl,
    )
    kept ForkClean (shared, unsullied, fork) = (
      _,
      side_is (machine_of k) s.0 t.0 clean _ (shared_at k s.0 t.0 is shared) shared
          (state_clean (side_at k.parts.stations s.0 t.0) fork.0 fork.1 unsullied) refl,
      refl,
    )
    kept NotAskedFor (shared, gone) = (
      _,
      side_is (machine_of k) s.0 t.0 _ false (shared_at k s.0 t.0 is shared) shared refl gone,
      refl,
    )
    kept w keeps' = absurd keeps'
idle_in k (Ask s t) why is (inl (within, asks)) = unasked why asks
  where
    unasked : (w : WhyIdle) → AsksNothing (station_at k.parts.stations s.0) t.0 w
        → IsIdleBecause (content (machine_of k)) (Ask s t) w
    unasked NothingOpen none = λ has. none (first_of k s.0 is within has)
    unasked NoFork apart = no_side (machine_of k) s.0 t.0 apart
    unasked ForkHere (shared, fork) = (
      _,
      side_is (machine_of k) s.0 t.0 _ _ (shared_at k s.0 t.0 is shared) shared refl refl,
      not_away ((machine_of k).forks s.0 t.0) _
          (lying_of (side_at k.parts.stations s.0 t.0) fork.0 fork.1),
    )
    unasked NoRequestToken (shared, gone) = (
      _,
      side_is (machine_of k) s.0 t.0 _ false (shared_at k s.0 t.0 is shared) shared refl gone,
      refl,
    )
    unasked w asks' = absurd asks'
idle_in k (Ask s t) why is (inr (past, same)) =
    subst (IsIdleBecause (content (machine_of k)) (Ask s t)) (sym same) (none_past k s.0 is past)

pub idle_as : (k : KeptForks) (step : BankStep) (r : Option WhyIdle) → IsKeptForks k
    → IfSome r (IsIdleHere k.parts step) → IfSome r (IsIdleBecause (content_of (kept_forks k)) step)
idle_as k step None is here = tt
idle_as k step (Some why) is here = subst (λ (b : BankContent). IsIdleBecause b step why)
    (sym (content_is k is)) (idle_in k step why is here)

pub acts_as : (k : KeptForks) (step : BankStep) (r : Option WhyIdle) → IsKeptForks k
    → IfNone r (AppliesTo k.parts step) → IfNone r (CanWantMemory (content_of (kept_forks k)) step)
acts_as k step None is applies = can_act k step is applies
acts_as k step (Some why) is applies = tt

-- Which steps are idle, by number.

-- pairs of a row that begins behind others
row_at : (n row t k : ℕ) → t < n → k ≡ row * n + t → (k / n ≡ row) × (k % n ≡ t)
row_at n row t k within is = (
  ap (λ (j : ℕ). j / n) is ∙ div-mul-add row n t within,
  ap (λ (j : ℕ). j % n) is ∙ mod-mul-add row n t within,
)

pub row_passed : (Idle : ℕ → ℕ → Type 0) (n row to bound from : ℕ) → bound ≤ n
    → ((k : ℕ) → from ≤ k → k < row * n + to → Idle (k / n) (k % n))
    → ((t : ℕ) → to ≤ t → t < bound → Idle row t)
    → (k : ℕ) → from ≤ k → k < row * n + bound → Idle (k / n) (k % n)
row_passed Idle n row to bound from short before here k low high =
    elim (cases_lt k (row * n + to)) [
      | inl first ↦ before k low first
      | inr later ↦ let t : ℕ = k - row * n in
          let at = row_at n row t k (omega (arith, later, high, short)) (omega (arith, later)) in
          rw (at.0, at.1) (here t (omega (arith, later)) (omega (arith, later, high)))
    ]

some_of : (n k : ℕ) → k < n * n → 0 < n
some_of zero k within = absurd (omega (arith, within))
some_of (suc n) k within = omega arith

-- all steps of stations: those that serve, then those that pass, then those that ask
module _ (p : ForkParts) where
  abbrev Count : ℕ
  Count = length p.stations

  pub serving_idle : (s : ℕ) → s < Count → IsUnservedHere p.stations s
      → (why : WhyIdle) × IsIdleHere p (step_at Count s) why
  serving_idle s within un =
      subst (λ (step : BankStep). (why : WhyIdle) × IsIdleHere p step why)
      (sym (serve_at Count s within)) (un.0, inl (within, un.1))

  pub passing_idle : (k : ℕ) → k < Count * Count
      → IsIdleWith exchange.Pass p.stations (k / Count) (k % Count)
      → (why : WhyIdle) × IsIdleHere p (step_at Count (Count + k)) why
  passing_idle k within is =
      subst (λ (step : BankStep). (why : WhyIdle) × IsIdleHere p step why)
      (sym (pass_at Count k within)) is

  pub asking_idle : (k : ℕ) → 0 < Count → k < Count * Count
      → IsIdleWith exchange.Ask p.stations (k / Count) (k % Count)
      → (why : WhyIdle) × IsIdleHere p (step_at Count (Count + Count * Count + k)) why
  asking_idle k some within is =
      subst (λ (step : BankStep). (why : WhyIdle) × IsIdleHere p step why)
      (sym (ask_at Count k)) (is.0, inl (div_below k Count Count some within, is.1))

  -- those from a number on, below another, where of each kind those between are idle
  pub steps_idle : (from to : ℕ) → to ≤ step_count Count
      → ((s : ℕ) → from ≤ s → s < to → s < Count → IsUnservedHere p.stations s)
      → ((k : ℕ) → from ≤ Count + k → Count + k < to → k < Count * Count
      → IsIdleWith exchange.Pass p.stations (k / Count) (k % Count))
      → ((k : ℕ) → from ≤ Count + Count * Count + k → Count + Count * Count + k < to
      → k < Count * Count → IsIdleWith exchange.Ask p.stations (k / Count) (k % Count))
      → AreIdleHere p from to
  steps_idle from to all serving passing asking = λ i low high. elim (cases_lt i Count) [
    | inl first ↦ serving_idle i first (serving i low high first)
    | inr past ↦ elim (cases_lt i (Count + Count * Count)) [
      | inl second ↦
          let k : ℕ = i - Count in
          let within : k < Count * Count = omega (arith, second, past) in
          subst (λ (j : ℕ). (why : WhyIdle) × IsIdleHere p (step_at Count j) why)
          (omega (arith, past))
          (passing_idle k within
          (passing k (omega (arith, low, past)) (omega (arith, high, past)) within))
      | inr third ↦
          let k : ℕ = i - (Count + Count * Count) in
          let within : k < Count * Count = omega (arith, third, high, all) in
          subst (λ (j : ℕ). (why : WhyIdle) × IsIdleHere p (step_at Count j) why)
          (omega (arith, third))
          (asking_idle k (any k within) within
          (asking k (omega (arith, low, third)) (omega (arith, high, third)) within))
    ]
  ]
    where
      any : (k : ℕ) → k < Count * Count → 0 < Count
      any k inside = some_of Count k inside

-- as a bank has them
pub idle_steps_as : (k : KeptForks) (n from to : ℕ) → IsKeptForks k → n ≡ length k.parts.stations
    → AreIdleHere k.parts from to → AreIdle (content_of (kept_forks k)) n from to
idle_steps_as k n from to is counted idle = λ i low high.
    let here = idle i low high in
    let step : BankStep = step_at (length k.parts.stations) i in
    subst (λ (m : ℕ). (why : WhyIdle) × IsIdleBecause (content_of (kept_forks k)) (step_at m i) why)
    (sym counted) (here.0, idle_as k step (Some here.0) is here.1)
