-- What the fork machine means, in the subject's own words: laws that a reviewer reads.
use Rattle.std.specs.Prelude.{◌≡◌, ◌↔◌, ℕ, ◌<◌, List, [], Option, None, Some, Bool}
use Rattle.std.specs.Prelude.{true, false, map, if◌then◌else◌}
use Rattle.std.specs.List.{range_with_len}
use Rattle.bip_model.specs.declared.messages.Request.{Request}
use Rattle.bip_partition.specs.Plans.{IsFit}
use Rattle.bip_bank.specs.Banks.{BankContent, DoesStep, IsActed}
use Rattle.bip_bank.specs.ForkSharing.{ForkSharing, ForkSide, ForkState, Parcel, away, clean, dirty}
use Rattle.bip_bank.specs.ForkSharing.{fork_parcel, token_parcel}
use Rattle.bip_bank.specs.Sharing.{forks}
use Rattle.bip_bank.specs.declared.banks.Acted.{Acted}
use Rattle.bip_bank.specs.declared.banks.BankStep.{BankStep}
use Rattle.bip_forks.specs.Machines.{AreForks, AtBoth, AtStation, IsForkStep, IsNet, LyingFork}
use Rattle.bip_forks.specs.Machines.{Machine, Sending, ShareFork, sent_fork, sent_token}
use Rattle.bip_forks.specs.Machines.{used_by_all, waiting_for}

-- a fork as it is at first: with the lower of its stations, dirty, its numbers the base
pub record IsForkAtFirst (m : Machine) (s t : ℕ) (f : LyingFork) : Type 0 where
  pub share : ShareFork m.net s t
  pub lower : s < t
  pub dirty : f.clean ≡ false
  pub numbers : (c : ℕ) → AtBoth m.net s t c → f.numbers c ≡ m.net.base

-- forks that nothing was asked of: each fork is with the lower station and its request token with
-- the higher, nothing is in flight, and all numbers are the base
pub record AreNew (m : Machine) : Type 0 where
  pub net : IsNet m.net
  pub given : (s t : ℕ) → ShareFork m.net s t → s < t
      → (f : LyingFork) × (m.forks s t ≡ Some f)
  pub first : (s t : ℕ) (f : LyingFork) → m.forks s t ≡ Some f → IsForkAtFirst m s t f
  pub tokens : (s t : ℕ) → (m.tokens s t ≡ true) ↔ (ShareFork m.net s t × (t < s))
  pub flight : m.flight ≡ []
  pub used : (s c : ℕ) → s < m.net.count → AtStation m.net s c → m.used s c ≡ m.net.base
  pub serials : (s : ℕ) → m.serial s ≡ 0
  pub grants : m.grants ≡ []
  pub waiting : m.waiting ≡ (λ a. [])

-- any list of calls leads from one to another: requests that fit are taken, and steps are done
pub data LeadOn : Machine → Machine → Type 0 where
  at_rest : {m : Machine} → LeadOn m m
  asked : {m later : Machine} (q : Request) → IsFit m.net.plan q
      → LeadOn (waiting_for q m) later → LeadOn m later
  stepped : {m next later : Machine} (step : BankStep) (did : Acted) → IsForkStep m step did next
      → LeadOn next later → LeadOn m later

-- after any list of calls, each fork holds at least what its stations moved, and at most what is
-- used
abbrev pub ForksStay : Type 0
ForksStay = (m later : Machine) → AreNew m → LeadOn m later → AreForks later

-- what a station has of a fork, without its numbers
abbrev pub fork_state : Option LyingFork → ForkState
fork_state None = away
fork_state (Some f) = if f.clean then clean else dirty

abbrev pub parcel_of : Sending → Parcel
parcel_of (sent_fork s t numbers) = fork_parcel s t
parcel_of (sent_token s t) = token_parcel s t

-- what the first of two stations has of what it shares with the second, without numbers
abbrev pub side_between : (ℕ → ℕ → Bool) → (ℕ → ℕ → Option LyingFork) → (ℕ → ℕ → Bool) → ℕ → ℕ
    → Option ForkSide
side_between shares lying tokens s t =
    if shares s t then Some (record { fork = fork_state (lying s t); token = tokens s t })
    else None

-- so many rows of so many values of a function
abbrev pub table_of : {X : Type 0} → ℕ → (ℕ → ℕ → X) → List (List X)
table_of n f = map (λ s. map (f s) (range_with_len 0 n)) (range_with_len 0 n)

-- what stations share
abbrev pub sharing_of : Machine → ForkSharing
sharing_of m =
    record {
      sides = table_of m.net.count (side_between m.net.shares m.forks m.tokens);
      flight = map parcel_of m.flight;
    }

-- what a bank of forks has
abbrev pub content : Machine → BankContent
content m =
    record {
      plan = m.net.plan;
      base = m.net.base;
      used = used_by_all m.net m.grants;
      grants = m.grants;
      waiting = m.waiting;
      sharing = forks (sharing_of m);
    }

-- forks are a bank: each step is one of a bank, which decides by the used numbers of all grants
abbrev pub ForksAreABank : Type 0
ForksAreABank =
    (m later : Machine) (step : BankStep) (did : Acted) → AreForks m → IsForkStep m step did later
    → DoesStep (content m) step did (content later)
    × IsActed did (content m) (content later)
