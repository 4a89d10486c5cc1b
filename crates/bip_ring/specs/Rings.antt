-- A token ring: the table travels in a token, and who has it decides.
use Rattle.std.specs.Prelude.{◌≡◌, ◌⊎◌, ℕ, ⊤, List, None, Option, Some, length}
use Rattle.bip_model.specs.declared.numbering.InterId.{InterId}
use Rattle.bip_partition.specs.Plans.{AreStations, Planned}
use Rattle.bip_bank.specs.Banks.{BankContent, KeptBank, asked_nothing}
use Rattle.bip_bank.specs.Central.{IsCentral, KeptCentral, kept_central}
use Rattle.bip_bank.specs.Idleness.{IsNotNext, IsTokenElsewhere, IsTokenFlying}
use Rattle.bip_bank.specs.Sharing.{Sharing, TokenPlace, ring, token_at, token_to}
use Rattle.bip_bank.specs.declared.banks.BankStep.TheVariants.{Ask, Deliver, Pass, Serve}
use Rattle.bip_bank.specs.declared.banks.BankStep.{BankStep}
use Rattle.bip_bank.specs.declared.idleness.WhyIdle.TheVariants.{NotNext, TokenElsewhere}
use Rattle.bip_bank.specs.declared.idleness.WhyIdle.TheVariants.{TokenInFlight}
use Rattle.bip_bank.specs.declared.idleness.WhyIdle.{WhyIdle}
use Rattle.bip_ring.specs.declared.places.Place.{Place}
use Rattle.bip_ring.specs.declared.places.Place.TheVariants.{At, To}

-- what a ring keeps: what the central bank does, its table being the token's; where the token is;
-- and the number of stations
pub record KeptRing : Type 0 where
  pub desk : KeptCentral
  pub place : Place
  pub count : ℕ

abbrev pub token_place : Place → TokenPlace
token_place (At s) = token_at s.0
token_place (To s) = token_to s.0

-- where a token that is in flight arrives
abbrev pub arrival_of : Place → Option Place
arrival_of (At s) = None
arrival_of (To s) = Some (At s)

-- what is kept of it as a bank: its stations share the token
abbrev pub kept_ring : KeptRing → KeptBank
kept_ring r = record (kept_central r.desk) { sharing = ring r.count (token_place r.place) }

-- what is kept of any ring
pub record IsRing (r : KeptRing) : Type 0 where
  pub desk : IsCentral r.desk
  pub stations : List InterId
  pub listed : AreStations r.desk.plan stations
  pub counted : r.count ≡ length stations

-- what the stations of a ring share at first: they are those of the plan, and the first one has
-- the token
pub record IsRingAtFirst (p : Planned) (sharing : Sharing) : Type 0 where
  pub stations : List InterId
  pub listed : AreStations p stations
  pub shared : sharing ≡ ring (length stations) (token_at 0)

-- a new ring was asked nothing
pub record IsNewRing (p : Planned) (base : ℕ) (b : BankContent) : Type 0 where
  pub first : IsRingAtFirst p b.sharing
  pub content : b ≡ asked_nothing p base b.sharing

-- What contracts of private functions say.

-- why a station doesn't have the token, and why it doesn't hand it on to another one
abbrev pub IsWithoutToken : Sharing → ℕ → WhyIdle → Type 0
IsWithoutToken x s TokenInFlight = IsTokenFlying x
IsWithoutToken x s TokenElsewhere = IsTokenElsewhere x s
IsWithoutToken x s why = ⊥

abbrev pub KeepsToken : Sharing → ℕ → ℕ → WhyIdle → Type 0
KeepsToken x s t why = IsWithoutToken x s why ⊎ (why ≡ NotNext) × IsNotNext x s t

-- a step that doesn't deliver leaves the token alone, and serves nobody who has it
abbrev pub LeavesToken : Sharing → BankStep → Type 0
LeavesToken x (Deliver k) = ⊥
LeavesToken x (Serve s) = (why : WhyIdle) × IsWithoutToken x s.0 why
LeavesToken x (Pass s t) = (why : WhyIdle) × KeepsToken x s.0 t.0 why
LeavesToken x (Ask s t) = ⊤
