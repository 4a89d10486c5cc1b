-- Which event a word of chance is, in a world.
use Rattle.std.specs.Prelude.{List, length, max, ℕ, ◌%◌, ◌/◌, ◌==◌, ◌≡◌, if◌then◌else◌}
use Rattle.bip_bank.specs.declared.banks.BankStep.TheVariants.{Ask, Deliver, Pass, Serve}
use Rattle.bip_bank.specs.declared.banks.BankStep.{BankStep}
use Rattle.bip_bank.specs.declared.banks.StationId.{StationId}
use Rattle.bip_core.specs.declared.events.Event.TheVariants.{Bank, Mail, Try}
use Rattle.bip_core.specs.declared.events.Event.{Event}
use Rattle.bip_model.specs.Partitions.{class_in}
use Rattle.bip_model.specs.declared.numbering.InterId.{InterId}
use Rattle.bip_partition.specs.Plans.{AreStations, Planned}

-- one of so many messages, of which there is one at least
abbrev pub one_of : ℕ → ℕ → ℕ
one_of count n = n % max 1 count

-- a try of one of so many interactions, by its class; the first message where there is none
abbrev pub try_drawn : Planned → ℕ → ℕ → Event
try_drawn p count n =
    if count == 0 then Mail 0
    else Try (record { 0 = class_in p.classes (n % count) }) (record { 0 = n % count })

-- a station, by a number
abbrev pub station_drawn : ℕ → ℕ → StationId
station_drawn count n = record { 0 = n % count }

-- a step of a bank with so many stations and so many things in flight: its kind, and then what for
abbrev pub kind_drawn : ℕ → ℕ → ℕ → ℕ → BankStep
kind_drawn count flight kind n =
    if kind == 0 then Deliver (one_of flight n)
    else if kind == 1 then Serve (station_drawn count n)
    else if kind == 2 then Pass (station_drawn count n) (station_drawn count (n / count))
    else Ask (station_drawn count n) (station_drawn count (n / count))

-- the same where there is a station; else what stands first in flight
abbrev pub step_drawn : ℕ → ℕ → ℕ → BankStep
step_drawn count flight n =
    if count == 0 then Deliver 0 else kind_drawn count flight (n % 4) (n / 4)

-- the event of a word, where so many messages are in flight, and so many things inside the bank:
-- half of all words are messages, a quarter tries, and a quarter steps of the bank
abbrev pub event_drawn : Planned → ℕ → ℕ → ℕ → ℕ → Event
event_drawn p stations word mail flight =
    if word % 4 == 2 then try_drawn p (length p.model.interactions) (word / 4)
    else if word % 4 == 3 then Bank (step_drawn stations flight (word / 4))
    else Mail (one_of mail (word / 4))

-- an event is that of a word, by the stations of a plan
pub record IsDrawn (p : Planned) (word mail flight : ℕ) (event : Event) : Type 0 where
  pub stations : List InterId
  pub are : AreStations p stations
  pub drawn : event ≡ event_drawn p (length stations) word mail flight
