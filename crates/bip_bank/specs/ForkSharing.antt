-- Dining philosophers' forks without their numbers: where they and their request tokens are, and
-- where steps take them.
use Rattle.std.specs.Prelude.{◌≡◌, ℕ, Bool, false, true, List, [], ◌∷◌, ◌++◌, length, map}
use Rattle.std.specs.Prelude.{None, Option, Some, slice_index_or, slice_set}
use Rattle.std.specs.Option.{option_map}
use Rattle.bip_bank.specs.declared.banks.BankStep.TheVariants.{Ask, Deliver, Pass, Serve}
use Rattle.bip_bank.specs.declared.banks.BankStep.{BankStep}

-- a fork as a station has it: it isn't here; or it is, dirty or clean
pub data ForkState : Type 0 where
  away : ForkState
  dirty : ForkState
  clean : ForkState

-- what a station has of what it shares with another one: the fork, and whether its request token is
-- here
pub record ForkSide : Type 0 where
  pub fork : ForkState
  pub token : Bool

-- what is in flight from one station to another: a fork, or a request token
pub data Parcel : Type 0 where
  fork_parcel : ℕ → ℕ → Parcel
  token_parcel : ℕ → ℕ → Parcel

-- what stations share by forks: of each station, in order, what it has of what it shares with each
-- station, in order, none where they share nothing; and what is in flight, the oldest first
pub record ForkSharing : Type 0 where
  pub sides : List (List (Option ForkSide))
  pub flight : List Parcel

-- what the first of two stations has of what it shares with the second
abbrev pub side_of : List (List (Option ForkSide)) → ℕ → ℕ → Option ForkSide
side_of sides s t = slice_index_or (slice_index_or sides s []) t None

-- with something else there
abbrev pub with_side : List (List (Option ForkSide)) → ℕ → ℕ → Option ForkSide
    → List (List (Option ForkSide))
with_side sides s t side = slice_set sides s (slice_set (slice_index_or sides s []) t side)

-- a station has each fork that it shares
abbrev pub HasEachFork : ForkSharing → ℕ → Type 0
HasEachFork f s = (t : ℕ) (side : ForkSide) → side_of f.sides s t ≡ Some side
    → ¬ (side.fork ≡ away)

-- a station sends a fork to another one: it has the request token, and the fork, dirty
pub record SendsFork (f : ForkSharing) (s t : ℕ) (later : ForkSharing) : Type 0 where
  pub here : side_of f.sides s t ≡ Some (record { fork = dirty; token = true })
  pub after : later
      ≡ record {
        sides = with_side f.sides s t (Some (record { fork = away; token = true }));
        flight = f.flight ++ fork_parcel s t ∷ [];
      }

-- a station asks another one for a fork: it has the request token, and not the fork
pub record AsksForFork (f : ForkSharing) (s t : ℕ) (later : ForkSharing) : Type 0 where
  pub here : side_of f.sides s t ≡ Some (record { fork = away; token = true })
  pub after : later
      ≡ record {
        sides = with_side f.sides s t (Some (record { fork = away; token = false }));
        flight = f.flight ++ token_parcel s t ∷ [];
      }

-- what a station has once something arrives there: a fork is clean then
abbrev pub with_clean : Option ForkSide → Option ForkSide
with_clean side = option_map (λ (x : ForkSide). record x { fork = clean }) side

abbrev pub with_token : Option ForkSide → Option ForkSide
with_token side = option_map (λ (x : ForkSide). record x { token = true }) side

abbrev pub arrived_at : Parcel → List (List (Option ForkSide)) → List (List (Option ForkSide))
arrived_at (fork_parcel s t) sides = with_side sides t s (with_clean (side_of sides t s))
arrived_at (token_parcel s t) sides = with_side sides t s (with_token (side_of sides t s))

-- what stands at a place in flight arrives
pub record Arrives (f : ForkSharing) (k : ℕ) (later : ForkSharing) : Type 0 where
  pub front : List Parcel
  pub parcel : Parcel
  pub back : List Parcel
  pub before : length front ≡ k
  pub whole : f.flight ≡ front ++ parcel ∷ back
  pub after : later ≡ record { sides = arrived_at parcel f.sides; flight = front ++ back }

-- where a step takes forks and request tokens: who asks has an open request
abbrev pub TakesForks : (ℕ → Type 0) → ForkSharing → BankStep → ForkSharing → Type 0
TakesForks waits f (Deliver k) later = Arrives f k later
TakesForks waits f (Pass s t) later = SendsFork f s.0 t.0 later
TakesForks waits f (Ask s t) later = waits s.0 × AsksForFork f s.0 t.0 later
TakesForks waits f (Serve s) later = ⊥

-- what a station has with the fork dirty
abbrev pub with_dirty : Option ForkSide → Option ForkSide
with_dirty side = option_map (λ (x : ForkSide). record x { fork = dirty }) side

-- with all forks of a station dirty
abbrev pub made_dirty : ℕ → ForkSharing → ForkSharing
made_dirty s f =
    record f { sides = slice_set f.sides s (map with_dirty (slice_index_or f.sides s [])) }
