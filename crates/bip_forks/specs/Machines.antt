-- The fork machine: stations that share forks, each with a table of its own; what a step does, and
-- what each fork keeps.
use Rattle.std.specs.Prelude.{◌≡◌, ◌≢◌, ◌⊎◌, ◌↔◌, ℕ, ⊤, ◌+◌, ◌<◌, ◌≤◌, ◌==◌, ◌&&◌, ◌||◌, Bool}
use Rattle.std.specs.Prelude.{true, false, List, [], ◌∷◌, ◌++◌, Option, None, Some, length}
use Rattle.std.specs.Prelude.{Contains}
use Rattle.std.specs.Prelude.{if◌then◌else◌, IsTrue}
use Rattle.bip_model.specs.Grants.{used_by}
use Rattle.bip_model.specs.Numbering.{put}
use Rattle.bip_model.specs.Wants.{IsFresh, moved_in, raised}
use Rattle.bip_model.specs.declared.grants.Grant.{Grant}
use Rattle.bip_model.specs.declared.messages.Request.{Request}
use Rattle.bip_partition.specs.Plans.{InConflict, IsReserved, Planned, Touches}
use Rattle.bip_table.specs.Reservations.{IsDecision, end_of_serials, grant_of}
use Rattle.bip_table.specs.declared.reservations.Decision.{Decision}
use Rattle.bip_table.specs.declared.reservations.Decision.TheVariants as decision
use Rattle.bip_bank.specs.Banks.{IsStationOf}
use Rattle.bip_bank.specs.Central.{IsOpen}
use Rattle.bip_bank.specs.Laws.{IsAllowed}
use Rattle.bip_bank.specs.declared.banks.Acted.{Acted}
use Rattle.bip_bank.specs.declared.banks.Acted.TheVariants.{Answered, Moved, Nothing}
use Rattle.bip_bank.specs.declared.banks.BankStep.{BankStep}
use Rattle.bip_bank.specs.declared.banks.BankStep.TheVariants.{Ask, Deliver, Pass, Serve}

-- a fork that lies at a station: whether it is clean, and a number for each component
pub record LyingFork : Type 0 where
  pub clean : Bool
  pub numbers : ℕ → ℕ

-- what is in flight from one station to another: a fork with its numbers, or a request token
pub data Sending : Type 0 where
  sent_fork : ℕ → ℕ → (ℕ → ℕ) → Sending
  sent_token : ℕ → ℕ → Sending

-- what never changes: the plan and the base; how many stations there are, the interaction that each
-- decides for, and which of them share a fork
pub record Net : Type 0 where
  pub plan : Planned
  pub base : ℕ
  pub count : ℕ
  pub inter : ℕ → ℕ
  pub shares : ℕ → ℕ → Bool

-- forks at stations, and the request tokens that stations have, each by station and by the one that
-- it shares it with; what is in flight, the oldest first; the used numbers and the next serial of
-- each station's table; the grants in order of decision; the open requests of each interaction, the
-- oldest first
pub record Machine : Type 0 where
  pub net : Net
  pub forks : ℕ → ℕ → Option LyingFork
  pub tokens : ℕ → ℕ → Bool
  pub flight : List Sending
  pub used : ℕ → ℕ → ℕ
  pub serial : ℕ → ℕ
  pub grants : List Grant
  pub waiting : ℕ → List Request

-- a function of two numbers with another value at one pair
abbrev pub put_at_two : {X : Type 0} → (ℕ → ℕ → X) → ℕ → ℕ → X → ℕ → ℕ → X
put_at_two f s t x i j = if (i == s) && (j == t) then x else f i j

-- a station touches what its interaction touches
abbrev pub AtStation : Net → ℕ → ℕ → Type 0
AtStation n s c = Touches n.plan.model (n.inter s) c

-- what two stations both touch
pub record AtBoth (n : Net) (s t c : ℕ) : Type 0 where
  pub one : AtStation n s c
  pub other : AtStation n t c

-- two stations share a fork where they are in conflict
pub record ShareFork (n : Net) (s t : ℕ) : Type 0 where
  pub one : s < n.count
  pub other : t < n.count
  pub apart : s ≢ t
  pub conflict : InConflict n.plan.model (n.inter s) (n.inter t)

-- a station has all its forks
abbrev pub HasAll : Net → (ℕ → ℕ → Option LyingFork) → ℕ → Type 0
HasAll n forks s = (t : ℕ) → ShareFork n s t → (f : LyingFork) × (forks s t ≡ Some f)

-- the used number of each component, that all grants explain
abbrev pub used_by_all : Net → List Grant → ℕ → ℕ
used_by_all n gs = used_by (λ c. n.base) gs

-- a station's rows raised to its forks' numbers: for each component that it touches the greatest of
-- its own used number and those of its forks
pub record AreRaised (n : Net) (forks : ℕ → ℕ → Option LyingFork) (used : ℕ → ℕ) (s : ℕ)
    (rows : ℕ → ℕ) : Type 0 where
  pub own : (c : ℕ) → AtStation n s c → used c ≤ rows c
  pub shared : (t c : ℕ) (f : LyingFork) → ShareFork n s t → forks s t ≡ Some f → AtBoth n s t c
      → f.numbers c ≤ rows c
  pub reached : (c : ℕ) → AtStation n s c → (rows c ≡ used c)
      ⊎ ((t : ℕ) × (f : LyingFork) × ShareFork n s t × (forks s t ≡ Some f) × AtBoth n s t c
      × (rows c ≡ f.numbers c))

-- a station has an open request
abbrev pub IsStationAsked : Machine → ℕ → Type 0
IsStationAsked m s = (q : Request) × (rest : List Request) × (m.waiting (m.net.inter s) ≡ q ∷ rest)

-- what a decision leaves of a station's rows and serial, and of the grants
abbrev pub rows_after : (ℕ → ℕ) → Request → Decision → ℕ → ℕ
rows_after rows q (decision.Granted n) = raised rows q.wants
rows_after rows q (decision.Refused c n) = rows

abbrev pub serial_after : ℕ → Decision → ℕ
serial_after n (decision.Granted k) = n + 1
serial_after n (decision.Refused c k) = n

-- a grant has the serial that is next, which isn't the last
abbrev pub HasSerial : ℕ → Decision → Type 0
HasSerial n (decision.Granted k) = (k ≡ n) × (n < end_of_serials)
HasSerial n (decision.Refused c k) = ⊤

-- no more grants are listed than there are serials
abbrev pub IsListed : List Grant → Decision → Type 0
IsListed gs (decision.Granted k) = length gs < end_of_serials
IsListed gs (decision.Refused c k) = ⊤

abbrev pub grants_after : List Grant → Request → Decision → List Grant
grants_after gs q (decision.Granted n) = gs ++ grant_of q ∷ []
grants_after gs q (decision.Refused c n) = gs

-- a fork that lies at a station is dirty then, and has its rows' numbers of what both touch
abbrev pub IsForkWritten : Net → ℕ → ℕ → (ℕ → ℕ) → Option LyingFork → Option LyingFork → Type 0
IsForkWritten n s t rows None None = ⊤
IsForkWritten n s t rows (Some f) (Some g) =
    (g.clean ≡ false) × ((c : ℕ) → AtBoth n s t c → g.numbers c ≡ rows c)
IsForkWritten n s t rows f g = ⊥

-- a station that has all its forks served: it decided on its oldest open request by its raised
-- rows, and wrote its used numbers into its forks
pub record IsServed (m : Machine) (s : ℕ) (q : Request) (d : Decision)
    (later : Machine) : Type 0 where
  pub station : s < m.net.count
  pub complete : HasAll m.net m.forks s
  pub rest : List Request
  pub oldest : m.waiting (m.net.inter s) ≡ q ∷ rest
  pub rows : ℕ → ℕ
  pub raised : AreRaised m.net m.forks (m.used s) s rows
  pub decision : IsDecision rows q.wants d
  pub serial : HasSerial (m.serial s) d
  pub listed : IsListed m.grants d
  pub forks : ℕ → Option LyingFork
  pub written : (t : ℕ) → IsForkWritten m.net s t (rows_after rows q d) (m.forks s t) (forks t)
  pub after : later
      ≡ record m {
        forks = put m.forks s forks;
        used = put m.used s (rows_after rows q d);
        serial = put m.serial s (serial_after (m.serial s) d);
        grants = grants_after m.grants q d;
        waiting = put m.waiting (m.net.inter s) rest;
      }

-- with one more open request, the newest of its interaction
abbrev pub waiting_for : Request → Machine → Machine
waiting_for q m =
    record m { waiting = put m.waiting q.inter.0 (m.waiting q.inter.0 ++ q ∷ []) }

-- a fork is sent: its station has the request token, and the fork is dirty
pub record IsPassed (m : Machine) (s t : ℕ) (later : Machine) : Type 0 where
  pub fork : LyingFork
  pub asked : m.tokens s t ≡ true
  pub here : m.forks s t ≡ Some fork
  pub dirty : fork.clean ≡ false
  pub after : later
      ≡ record m {
        forks = put_at_two m.forks s t None;
        flight = m.flight ++ sent_fork s t fork.numbers ∷ [];
      }

-- a request token is sent: its station has an open request, and not the fork
pub record IsAskedFor (m : Machine) (s t : ℕ) (later : Machine) : Type 0 where
  pub waits : IsStationAsked m s
  pub asked : m.tokens s t ≡ true
  pub away : m.forks s t ≡ None
  pub after : later
      ≡ record m {
        tokens = put_at_two m.tokens s t false;
        flight = m.flight ++ sent_token s t ∷ [];
      }

-- what arrives at its station: a fork clean
abbrev pub arrived : Sending → Machine → Machine
arrived (sent_fork s t numbers) m =
    record m { forks = put_at_two m.forks t s (Some (record { clean = true; numbers = numbers })) }
arrived (sent_token s t) m = record m { tokens = put_at_two m.tokens t s true }

pub record HasArrived (m : Machine) (k : ℕ) (later : Machine) : Type 0 where
  pub front : List Sending
  pub sent : Sending
  pub back : List Sending
  pub before : length front ≡ k
  pub whole : m.flight ≡ front ++ sent ∷ back
  pub after : later ≡ arrived sent (record m { flight = front ++ back })

-- a decision is ended: it would be a grant, and there is no serial left
pub record IsEndedAt (m : Machine) (s : ℕ) (q : Request) : Type 0 where
  pub rows : ℕ → ℕ
  pub raised : AreRaised m.net m.forks (m.used s) s rows
  pub fresh : IsFresh rows q.wants
  pub last : length m.grants ≡ end_of_serials

-- a station can decide: it has all its forks and an open request, and the decision isn't ended
pub record CanServe (m : Machine) (s : ℕ) : Type 0 where
  pub station : s < m.net.count
  pub complete : HasAll m.net m.forks s
  pub request : Request
  pub rest : List Request
  pub oldest : m.waiting (m.net.inter s) ≡ request ∷ rest
  pub left : ¬ IsEndedAt m s request

-- when a step applies
abbrev pub Applies : Machine → BankStep → Type 0
Applies m (Deliver k) = k < length m.flight
Applies m (Serve s) = CanServe m s.0
Applies m (Pass s t) =
    (f : LyingFork) × (m.tokens s.0 t.0 ≡ true) × (m.forks s.0 t.0 ≡ Some f) × (f.clean ≡ false)
Applies m (Ask s t) =
    IsStationAsked m s.0 × (m.tokens s.0 t.0 ≡ true) × (m.forks s.0 t.0 ≡ None)

-- what a step does and leaves: nothing just where it doesn't apply
abbrev pub IsForkStep : Machine → BankStep → Acted → Machine → Type 0
IsForkStep m step Nothing later = ¬ Applies m step × (later ≡ m)
IsForkStep m (Deliver k) Moved later = HasArrived m k later
IsForkStep m (Pass s t) Moved later = IsPassed m s.0 t.0 later
IsForkStep m (Ask s t) Moved later = IsAskedFor m s.0 t.0 later
IsForkStep m (Serve s) (Answered q d) later = IsServed m s.0 q d later
IsForkStep m step did later = ⊥

-- What each fork keeps.

-- a fork of two stations holds, for each component that both touch, at least every number with
-- which either moved it, and never more than its used number
pub record Holds (n : Net) (gs : List Grant) (s t : ℕ) (numbers : ℕ → ℕ) : Type 0 where
  pub least : (c : ℕ) (g : Grant) → AtBoth n s t c → Contains gs g
      → (g.inter.0 ≡ n.inter s) ⊎ (g.inter.0 ≡ n.inter t) → moved_in g.wants c ≤ numbers c
  pub most : (c : ℕ) → AtBoth n s t c → numbers c ≤ used_by_all n gs c

-- how many forks lie here, and how many are in flight between two stations
abbrev pub here : Option LyingFork → ℕ
here None = 0
here (Some f) = 1

abbrev pub joins : ℕ → ℕ → ℕ → ℕ → Bool
joins a b s t = ((s == a) && (t == b)) || ((t == a) && (s == b))

abbrev pub flying : ℕ → ℕ → List Sending → ℕ
flying s t [] = 0
flying s t (sent_fork a b numbers ∷ rest) = (if joins a b s t then 1 else 0) + flying s t rest
flying s t (sent_token a b ∷ rest) = flying s t rest

-- the same of request tokens
abbrev pub held : Bool → ℕ
held true = 1
held false = 0

abbrev pub asking : ℕ → ℕ → List Sending → ℕ
asking s t [] = 0
asking s t (sent_fork a b numbers ∷ rest) = asking s t rest
asking s t (sent_token a b ∷ rest) = (if joins a b s t then 1 else 0) + asking s t rest

-- a table of a station: above the base, at least every number with which it moved a component, and
-- never more than the used number
pub record Owns (n : Net) (gs : List Grant) (s : ℕ) (used : ℕ → ℕ) : Type 0 where
  pub floor : (c : ℕ) → AtStation n s c → n.base ≤ used c
  pub least : (c : ℕ) (g : Grant) → AtStation n s c → Contains gs g → g.inter.0 ≡ n.inter s
      → moved_in g.wants c ≤ used c
  pub most : (c : ℕ) → AtStation n s c → used c ≤ used_by_all n gs c

-- stations are numbered as the plan has them, and those share a fork that are in conflict
pub record IsNet (n : Net) : Type 0 where
  pub station : (s : ℕ) → s < n.count → IsStationOf n.plan s (n.inter s)
  pub known : (s a : ℕ) → IsStationOf n.plan s a → (s < n.count) × (n.inter s ≡ a)
  pub apart : (s t : ℕ) → s < n.count → t < n.count → n.inter s ≡ n.inter t → s ≡ t
  pub each : (a : ℕ) → IsReserved n.plan a → (s : ℕ) × (s < n.count) × (n.inter s ≡ a)
  pub share : (s t : ℕ) → IsTrue (n.shares s t) ↔ ShareFork n s t

-- what is kept of forks: each two stations that share a fork have one fork and one request token,
-- each with one of them or in flight, and no others have any; and what each fork and each table
-- hold
pub record AreForks (m : Machine) : Type 0 where
  pub net : IsNet m.net
  pub allowed : (g : Grant) → Contains m.grants g → IsAllowed m.net.plan g
  pub fit : (a : ℕ) (q : Request) → Contains (m.waiting a) q → IsOpen m.net.plan a q
  pub counted : (s : ℕ) → m.serial s ≤ length m.grants
  pub one : (s t : ℕ) → ShareFork m.net s t
      → here (m.forks s t) + here (m.forks t s) + flying s t m.flight ≡ 1
  pub shared : (s t : ℕ) (f : LyingFork) → m.forks s t ≡ Some f → ShareFork m.net s t
  pub sent_shared : (s t : ℕ) (numbers : ℕ → ℕ) → Contains m.flight (sent_fork s t numbers)
      → ShareFork m.net s t
  pub one_token : (s t : ℕ) → ShareFork m.net s t
      → held (m.tokens s t) + held (m.tokens t s) + asking s t m.flight ≡ 1
  pub token_shared : (s t : ℕ) → m.tokens s t ≡ true → ShareFork m.net s t
  pub sent_token_shared : (s t : ℕ) → Contains m.flight (sent_token s t) → ShareFork m.net s t
  pub hold : (s t : ℕ) (f : LyingFork) → m.forks s t ≡ Some f
      → Holds m.net m.grants s t f.numbers
  pub sent_hold : (s t : ℕ) (numbers : ℕ → ℕ) → Contains m.flight (sent_fork s t numbers)
      → Holds m.net m.grants s t numbers
  pub own : (s : ℕ) → s < m.net.count → Owns m.net m.grants s (m.used s)
