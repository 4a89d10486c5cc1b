-- What the stations of a bank share, and where the steps of a ring take its token.
use Rattle.std.specs.Prelude.{◌≡◌, ◌⊎◌, ℕ, ⊤, suc, ◌<◌, List, Contains, length}
use Rattle.bip_bank.specs.ForkSharing.{ForkSharing, HasEachFork, TakesForks, made_dirty}
use Rattle.bip_bank.specs.declared.banks.BankStep.TheVariants.{Deliver, Pass}
use Rattle.bip_bank.specs.declared.banks.BankStep.{BankStep}

-- where a token is: at a station, or in flight to one
pub data TokenPlace : Type 0 where
  token_at : ℕ → TokenPlace
  token_to : ℕ → TokenPlace

-- what stations share: nothing; one token, among so many stations; forks, with their request
-- tokens; or in another form, with the stations that lack some of it, and how many things are in
-- flight
pub data Sharing : Type 0 where
  alone : Sharing
  ring : ℕ → TokenPlace → Sharing
  forks : ForkSharing → Sharing
  otherwise : List ℕ → ℕ → Sharing

-- a station lacks nothing of what stations share
abbrev pub LacksNothing : Sharing → ℕ → Type 0
LacksNothing alone s = ⊤
LacksNothing (ring count place) s = place ≡ token_at s
LacksNothing (forks f) s = HasEachFork f s
LacksNothing (otherwise lacking flying) s = ¬ Contains lacking s

-- how many things are in flight among the stations
abbrev pub in_flight : Sharing → ℕ
in_flight alone = 0
in_flight (ring count (token_at s)) = 0
in_flight (ring count (token_to s)) = 1
in_flight (forks f) = length f.flight
in_flight (otherwise lacking flying) = flying

-- a station of a ring, and the next one: the first one after the last
pub record IsNextStation (count s t : ℕ) : Type 0 where
  pub station : s < count
  pub next : (suc s < count) × (t ≡ suc s) ⊎ (suc s ≡ count) × (t ≡ 0)

-- where a step takes a ring's token: a station that has it hands it on to the next one, and it
-- arrives as the first thing in flight
abbrev pub TakesToken : ℕ → TokenPlace → BankStep → TokenPlace → Type 0
TakesToken count (token_at h) (Pass s t) to =
    (h ≡ s.0) × IsNextStation count s.0 t.0 × (to ≡ token_to t.0)
TakesToken count (token_to h) (Deliver k) to = (k ≡ 0) × (to ≡ token_at h)
TakesToken count place step to = ⊥

-- what stations share in another form
abbrev pub IsOtherwise : Sharing → Type 0
IsOtherwise later = (lacking : List ℕ) × (flying : ℕ) × (later ≡ otherwise lacking flying)

-- what a step, not one that serves, moves of what stations share, and what that leaves, where some
-- of the stations have an open request: nothing where nothing is shared; a ring's token; forks and
-- their request tokens; whatever it may be in another form
abbrev pub MovesShared : (ℕ → Type 0) → Sharing → BankStep → Sharing → Type 0
MovesShared waits alone step later = ⊥
MovesShared waits (ring count place) step later =
    (to : TokenPlace) × TakesToken count place step to × (later ≡ ring count to)
MovesShared waits (forks f) step later =
    (to : ForkSharing) × TakesForks waits f step to × (later ≡ forks to)
MovesShared waits (otherwise lacking flying) step later = IsOtherwise later

-- such a step moves nothing; in another form it may be any
abbrev pub MovesNothingShared : (ℕ → Type 0) → Sharing → BankStep → Type 0
MovesNothingShared waits alone step = ⊤
MovesNothingShared waits (ring count place) step =
    (to : TokenPlace) → ¬ TakesToken count place step to
MovesNothingShared waits (forks f) step = (to : ForkSharing) → ¬ TakesForks waits f step to
MovesNothingShared waits (otherwise lacking flying) step = ⊤

-- a decision leaves what stations share as it was; but all forks of the station that decided are
-- dirty then, and in another form it may leave other stations with some of it
abbrev pub StaysShared : (ℕ → Type 0) → Sharing → Sharing → Type 0
StaysShared decides (forks f) later = (s : ℕ) × decides s × (later ≡ forks (made_dirty s f))
StaysShared decides (otherwise lacking flying) later = IsOtherwise later
StaysShared decides sharing later = later ≡ sharing
