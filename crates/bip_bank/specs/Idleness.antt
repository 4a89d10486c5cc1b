-- Why a step of a bank does nothing, by its content and what its stations share.
use Rattle.std.specs.Prelude.{◌≡◌, ℕ, ⊤, ◌≤◌, List, [], ◌∷◌, None, Some, false, slice_index_or}
use Rattle.bip_model.specs.declared.messages.Request.{Request}
use Rattle.bip_partition.specs.Plans.{Planned}
use Rattle.bip_bank.specs.Banks.{BankContent, HasOldest, IsStationOf}
use Rattle.bip_bank.specs.ForkSharing.{ForkSide, away, clean, side_of}
use Rattle.bip_bank.specs.Sharing.{IsNextStation, LacksNothing, Sharing, alone, forks}
use Rattle.bip_bank.specs.Sharing.{in_flight, ring, token_at, token_to}
use Rattle.bip_bank.specs.declared.banks.BankStep.TheVariants.{Ask, Deliver, Pass, Serve}
use Rattle.bip_bank.specs.declared.banks.BankStep.{BankStep}
use Rattle.bip_bank.specs.declared.idleness.WhyIdle.TheVariants.{ForkClean, ForkElsewhere, ForkHere}
use Rattle.bip_bank.specs.declared.idleness.WhyIdle.TheVariants.{Lacking, NoFork, NoRequestToken}
use Rattle.bip_bank.specs.declared.idleness.WhyIdle.TheVariants.{NoneOfIt, NotAskedFor, NotNext}
use Rattle.bip_bank.specs.declared.idleness.WhyIdle.TheVariants.{NothingOpen, NothingThere}
use Rattle.bip_bank.specs.declared.idleness.WhyIdle.TheVariants.{TokenElsewhere, TokenInFlight}
use Rattle.bip_bank.specs.declared.idleness.WhyIdle.{WhyIdle}

-- the steps that a form of a bank doesn't have: where nothing is shared, all but those that serve;
-- in a ring those that ask
abbrev pub HasNoSuch : Sharing → BankStep → Type 0
HasNoSuch alone (Serve s) = ⊥
HasNoSuch alone step = ⊤
HasNoSuch (ring count place) (Ask s t) = ⊤
HasNoSuch sharing step = ⊥

-- the token of a ring is in flight
abbrev pub IsTokenFlying : Sharing → Type 0
IsTokenFlying (ring count (token_to h)) = ⊤
IsTokenFlying sharing = ⊥

-- it is at another station
abbrev pub IsTokenElsewhere : Sharing → ℕ → Type 0
IsTokenElsewhere (ring count (token_at h)) s = ¬ (h ≡ s)
IsTokenElsewhere sharing s = ⊥

-- of two stations of a ring, the second isn't the next one
abbrev pub IsNotNext : Sharing → ℕ → ℕ → Type 0
IsNotNext (ring count place) s t = ¬ IsNextStation count s t
IsNotNext sharing s t = ⊥

-- two stations share no fork
abbrev pub SharesNoFork : Sharing → ℕ → ℕ → Type 0
SharesNoFork (forks f) s t = side_of f.sides s t ≡ None
SharesNoFork sharing s t = ⊥

-- they share one, and this is true of what the first has of it
abbrev pub HasOfFork : (ForkSide → Type 0) → Sharing → ℕ → ℕ → Type 0
HasOfFork so (forks f) s t = (side : ForkSide) × (side_of f.sides s t ≡ Some side) × so side
HasOfFork so sharing s t = ⊥

-- why a step does nothing
abbrev pub IsIdleBecause : BankContent → BankStep → WhyIdle → Type 0
IsIdleBecause b step NoneOfIt = HasNoSuch b.sharing step
IsIdleBecause b (Deliver k) NothingThere = in_flight b.sharing ≤ k
IsIdleBecause b (Serve s) NothingOpen = ¬ HasOldest b s.0
IsIdleBecause b (Serve s) Lacking = ¬ LacksNothing b.sharing s.0
IsIdleBecause b (Serve s) TokenInFlight = IsTokenFlying b.sharing
IsIdleBecause b (Serve s) TokenElsewhere = IsTokenElsewhere b.sharing s.0
IsIdleBecause b (Pass s t) TokenInFlight = IsTokenFlying b.sharing
IsIdleBecause b (Pass s t) TokenElsewhere = IsTokenElsewhere b.sharing s.0
IsIdleBecause b (Pass s t) NotNext = IsNotNext b.sharing s.0 t.0
IsIdleBecause b (Pass s t) NoFork = SharesNoFork b.sharing s.0 t.0
IsIdleBecause b (Pass s t) ForkElsewhere = HasOfFork (λ x. x.fork ≡ away) b.sharing s.0 t.0
IsIdleBecause b (Pass s t) ForkClean = HasOfFork (λ x. x.fork ≡ clean) b.sharing s.0 t.0
IsIdleBecause b (Pass s t) NotAskedFor = HasOfFork (λ x. x.token ≡ false) b.sharing s.0 t.0
IsIdleBecause b (Ask s t) NothingOpen = ¬ HasOldest b s.0
IsIdleBecause b (Ask s t) NoFork = SharesNoFork b.sharing s.0 t.0
IsIdleBecause b (Ask s t) ForkHere = HasOfFork (λ x. ¬ (x.fork ≡ away)) b.sharing s.0 t.0
IsIdleBecause b (Ask s t) NoRequestToken = HasOfFork (λ x. x.token ≡ false) b.sharing s.0 t.0
IsIdleBecause b step why = ⊥

-- What contracts of functions on queues say.

-- the interaction of a station has an open request among those of each interaction
pub record IsAskedAt (p : Planned) (waiting : List (List Request)) (s : ℕ) : Type 0 where
  pub number : ℕ
  pub request : Request
  pub rest : List Request
  pub station : IsStationOf p s number
  pub first : slice_index_or waiting number [] ≡ request ∷ rest
