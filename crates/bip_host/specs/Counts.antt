-- What actors count.
use Rattle.std.specs.Prelude.{ℕ, ◌+◌, ◌-◌, ◌^◌, false, min}
use Rattle.bip_host.specs.declared.counts.Counts.{Counts}
use Rattle.bip_host.specs.declared.counts.Posted.{Posted}
use Rattle.bip_host.specs.declared.counts.Posted.TheVariants.{Lost, Sent}

abbrev pub nothing_counted : Counts
nothing_counted =
    record {
      told = 0;
      lost = 0;
      passes = 0;
      asks = 0;
      refusals = 0;
      busy = 0;
      wanted_memory = false;
    }

-- a sum, as far as 64 bits count
abbrev pub sum_of : ℕ → ℕ → ℕ
sum_of a b = min (a + b) (2 ^ 64 - 1)

abbrev pub counted_up : ℕ → ℕ
counted_up n = sum_of n 1

-- with a message counted that is lost, where it is
abbrev pub with_posted : Posted → Counts → Counts
with_posted Sent counts = counts
with_posted Lost counts = record counts { lost = counted_up counts.lost }
