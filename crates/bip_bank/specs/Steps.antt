-- The steps of a bank by number, and which of them are idle.
use Rattle.std.specs.Prelude.{◌<◌, ◌≤◌, ◌+◌, ◌*◌, ◌/◌, ◌%◌, ◌-◌, ℕ, if◌then◌else◌, nat_lt}
use Rattle.bip_bank.specs.Banks.{BankContent}
use Rattle.bip_bank.specs.Idleness.{IsIdleBecause}
use Rattle.bip_bank.specs.declared.banks.BankStep.TheVariants.{Ask, Pass, Serve}
use Rattle.bip_bank.specs.declared.banks.BankStep.{BankStep}
use Rattle.bip_bank.specs.declared.banks.StationId.{StationId}
use Rattle.bip_bank.specs.declared.idleness.WhyIdle.{WhyIdle}

-- the pairs of so many stations, by number from 0: by the first one, then by the second
abbrev pub pair_at : ℕ → ℕ → StationId × StationId
pair_at n i = (record { 0 = i / n }, record { 0 = i % n })

-- the steps of a bank with so many stations, but for those that deliver, by number: those that
-- serve, by station; then those that pass, by pair; then those that ask, by pair
abbrev pub step_at : ℕ → ℕ → BankStep
step_at n i =
    if nat_lt i n then Serve (record { 0 = i })
    else if nat_lt (i - n) (n * n) then Pass (pair_at n (i - n)).0 (pair_at n (i - n)).1
    else Ask (pair_at n (i - n - n * n)).0 (pair_at n (i - n - n * n)).1

-- how many there are
abbrev pub step_count : ℕ → ℕ
step_count n = n + n * n + n * n

-- of these steps, those from one number on, below another one, do nothing, each for a reason
abbrev pub AreIdle : BankContent → ℕ → ℕ → ℕ → Type 0
AreIdle b n from to =
    (i : ℕ) → from ≤ i → i < to → (why : WhyIdle) × IsIdleBecause b (step_at n i) why
