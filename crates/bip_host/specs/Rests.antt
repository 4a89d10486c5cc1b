-- When a thread is ahead of the others, and what it counts.
use Rattle.std.specs.Prelude.{ℕ, ◌+◌, ◌-◌, ◌/◌, ◌^◌, ◌<◌, min}
use Rattle.bip_host.specs.declared.rests.Rest.{Rest}

-- one more, as far as 32 bits count
abbrev one_more : ℕ → ℕ
one_more n = min (n + 1) (2 ^ 32 - 1)

-- a turn is made
abbrev pub counted_turn : Rest → Rest
counted_turn r = record r { made = one_more r.made }

-- a turn did something
abbrev pub stirs : Rest → Rest
stirs r = record (counted_turn r) { streak = 0 }

-- a turn did nothing
abbrev pub idles : Rest → Rest
idles r = record (counted_turn r) { streak = one_more r.streak }

-- how many turns more than the others on average are none too many: 8, and one more for each 256
-- that did nothing, one behind another
abbrev lead : Rest → ℕ
lead r = 8 + r.streak / 256

-- it has made more turns than that
abbrev pub IsAhead : Rest → Type 0
IsAhead r = r.average + lead r < r.made
