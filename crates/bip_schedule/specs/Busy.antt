-- Events by chance that have something to do: which one a word is, in a world.
use Rattle.std.specs.Prelude.{◌≡◌, ◌⊎◌, ◌<◌, ◌≤◌, ◌+◌, ◌/◌, ◌%◌, ◌-◌, ◌==◌, ℕ, suc, List, []}
use Rattle.std.specs.Prelude.{◌∷◌, if◌then◌else◌, length, nat_lt}
use Rattle.bip_bank.specs.Sharing.{in_flight}
use Rattle.bip_bank.specs.Steps.{step_at, step_count}
use Rattle.bip_bank.specs.declared.banks.BankStep.TheVariants.{Deliver}
use Rattle.bip_core.specs.Events.{HasNoWork, HasWork}
use Rattle.bip_core.specs.Worlds.{WorldContent}
use Rattle.bip_core.specs.declared.events.Event.TheVariants as event
use Rattle.bip_core.specs.declared.events.Event.{Event}
use Rattle.bip_model.specs.Partitions.{class_in}
use Rattle.bip_model.specs.declared.numbering.InterId.{InterId}
use Rattle.bip_partition.specs.Plans.{AreStations, Planned}
use Rattle.bip_schedule.specs.declared.busy.EventKind.TheVariants.{Mail, Step, Try}
use Rattle.bip_schedule.specs.declared.busy.EventKind.{EventKind}

-- the events of a kind about which is asked, by number, and how many there are: of messages there
-- are none; tries by interaction, each by its class; and the steps of the bank, but for those that
-- deliver
abbrev pub asked_at : Planned → ℕ → EventKind → ℕ → Event
asked_at p n Mail i = event.Mail i
asked_at p n Try i = event.Try (record { 0 = class_in p.classes i }) (record { 0 = i })
asked_at p n Step i = event.Bank (step_at n i)

abbrev pub asked_count : Planned → ℕ → EventKind → ℕ
asked_count p n Mail = 0
asked_count p n Try = length p.model.interactions
asked_count p n Step = step_count n

-- how many events of a kind are arrivals: of what is in flight, or in flight inside the bank
abbrev pub arriving : WorldContent → EventKind → ℕ
arriving w Mail = length w.mail
arriving w Try = 0
arriving w Step = in_flight w.bank.sharing

-- an arrival, by its place
abbrev pub arrival_at : EventKind → ℕ → Event
arrival_at Step i = event.Bank (Deliver i)
arrival_at kind i = event.Mail i

-- all events of a kind, by number, and how many there are: first those that are arrivals
abbrev pub event_at : WorldContent → ℕ → EventKind → ℕ → Event
event_at w n kind i =
    if nat_lt i (arriving w kind) then arrival_at kind i
    else asked_at w.plan n kind (i - arriving w kind)

abbrev pub count_of_kind : WorldContent → ℕ → EventKind → ℕ
count_of_kind w n kind = arriving w kind + asked_count w.plan n kind

-- of events with numbers below one, so many have something to do
pub data HaveWork (w : WorldContent) (at : ℕ → Event) : ℕ → ℕ → Type 0 where
  none_below : HaveWork w at 0 0
  one_has : {below busy : ℕ} → HaveWork w at below busy → HasWork w (at below)
      → HaveWork w at (suc below) (suc busy)
  one_lacks : {below busy : ℕ} → HaveWork w at below busy → HasNoWork w (at below)
      → HaveWork w at (suc below) busy

-- one of so many events has something to do, as so many before it have
pub record IsBusyAmong (w : WorldContent) (at : ℕ → Event) (count behind : ℕ) (e : Event) : Type 0
  where
    pub place : ℕ
    pub within : place < count
    pub before : HaveWork w at place behind
    pub is : e ≡ at place
    pub work : HasWork w e

-- none of a kind has something to do
abbrev pub IsQuietKind : WorldContent → ℕ → EventKind → Type 0
IsQuietKind w n kind = HaveWork w (event_at w n kind) (count_of_kind w n kind) 0

-- an event is the one that a number takes among those of a kind that have something to do, in
-- order, from 0: the number by how many there are, what is left
pub record IsDrawnOfKind (w : WorldContent) (n : ℕ) (kind : EventKind) (number : ℕ) (e : Event)
    : Type 0 where
  pub busy : ℕ
  pub all : HaveWork w (event_at w n kind) (count_of_kind w n kind) busy
  pub some : 0 < busy
  pub found : IsBusyAmong w (event_at w n kind) (count_of_kind w n kind) (number % busy) e

-- it is taken among those of the first of some kinds that has any
abbrev pub IsTakenOf : WorldContent → ℕ → ℕ → List EventKind → Event → Type 0
IsTakenOf w n number [] e = ⊥
IsTakenOf w n number (kind ∷ kinds) e =
    IsDrawnOfKind w n kind number e ⊎ IsQuietKind w n kind × IsTakenOf w n number kinds e

-- the kinds of a word, the first that is asked first: as of any word half of them are messages, a
-- quarter tries, and a quarter steps of the bank; and what comes where there are none
abbrev pub kinds_of : ℕ → List EventKind
kinds_of word =
    if word % 4 == 2 then Try ∷ Step ∷ Mail ∷ []
    else if word % 4 == 3 then Step ∷ Mail ∷ Try ∷ []
    else Mail ∷ Try ∷ Step ∷ []

-- an event is that of a word, by the stations of a plan
pub record IsBusyDrawn (w : WorldContent) (word : ℕ) (e : Event) : Type 0 where
  pub stations : List InterId
  pub are : AreStations w.plan stations
  pub taken : IsTakenOf w (length stations) (word / 4) (kinds_of word) e

-- no event has anything to do
pub record IsQuiet (w : WorldContent) : Type 0 where
  pub stations : List InterId
  pub are : AreStations w.plan stations
  pub each : (kind : EventKind) → IsQuietKind w (length stations) kind

-- What contracts of private functions say.

-- none is found: no more than so many have something to do
pub record FindsNone (w : WorldContent) (at : ℕ → Event) (count behind : ℕ) : Type 0 where
  pub found : ℕ
  pub all : HaveWork w at count found
  pub few : found ≤ behind

-- of events, those with numbers from one on, below another one, have nothing to do
abbrev pub AreWithoutWork : WorldContent → (ℕ → Event) → ℕ → ℕ → Type 0
AreWithoutWork w at from to = (i : ℕ) → from ≤ i → i < to → HasNoWork w (at i)

-- a plan has so many stations
abbrev pub HasStationCount : Planned → ℕ → Type 0
HasStationCount p n = (stations : List InterId) × AreStations p stations × (length stations ≡ n)
