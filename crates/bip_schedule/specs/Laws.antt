-- What schedules and seeds mean, in the subject's own words: laws that a reviewer reads.
use Rattle.std.specs.Prelude.{List, [], ◌∷◌, ◌≡◌, ◌≢◌, ◌⊎◌, ◌↔◌, ◌==◌, ℕ, true, None, Ok, Some, Err}
use Rattle.std.specs.Prelude.{codes, position, ◌<◌, ◌^◌}
use Rattle.bip_bank.specs.Laws.{MovesInOneWay}
use Rattle.bip_bank.specs.Sharing.{Sharing}
use Rattle.bip_bank.specs.declared.banks.BankStep.TheVariants.{Ask, Deliver, Pass, Serve}
use Rattle.bip_bank.specs.declared.banks.StationId.{StationId}
use Rattle.bip_core.specs.declared.events.Event.{Event}
use Rattle.bip_core.specs.declared.events.Event.TheVariants.{Bank, Mail, Try}
use Rattle.bip_model.specs.Naming.{is_name, same_text}
use Rattle.bip_model.specs.Texts.{value_said, words_said}
use Rattle.bip_model.specs.declared.numbering.ClassId.{ClassId}
use Rattle.bip_model.specs.declared.numbering.InterId.{InterId}
use Rattle.bip_partition.specs.Plans.{AreStations, Planned}
use Rattle.bip_replay.specs.declared.faults.LineFault.TheVariants.{Unknown}
use Rattle.bip_replay.specs.declared.faults.TraceFault.{TraceFault}
use Rattle.bip_replay.specs.declared.faults.TraceFault.TheVariants.{Memory}
use Rattle.bip_schedule.specs.Exploring.{IsSeedRun, SeedRun}
use Rattle.bip_schedule.specs.Lines.{event_on}
use Rattle.bip_schedule.specs.Schedules.{IsEventText, IsScheduleFault}
use Rattle.bip_schedule.specs.declared.drawing.Draw.TheVariants.{Busy}
use Rattle.bip_schedule.specs.declared.drawing.Draws.{Draws}

-- a plan has one list of stations
abbrev pub OneStations : Type 0
OneStations = (p : Planned) (xs ys : List InterId) → AreStations p xs → AreStations p ys → xs ≡ ys

-- a text is one list of events of a plan
abbrev pub OneSchedule : Type 0
OneSchedule =
    (p : Planned) (text : List ℕ) (xs ys : List Event) → IsEventText p text xs
    → IsEventText p text ys → xs ≡ ys

-- and where it is none, it has one first fault other than want of memory
abbrev pub IsFault : Planned → List ℕ → ℕ → TraceFault → Type 0
IsFault p text number fault = IsScheduleFault p text number fault × (fault ≢ Memory)

abbrev pub OneScheduleFault : Type 0
OneScheduleFault =
    (p : Planned) (text : List ℕ) (n k : ℕ) (x y : TraceFault) → IsFault p text n x
    → IsFault p text k y → (n ≡ k) × (x ≡ y)

abbrev pub EventsHaveNoFault : Type 0
EventsHaveNoFault =
    (p : Planned) (text : List ℕ) (events : List Event) (n : ℕ) (fault : TraceFault)
    → IsEventText p text events → IsFault p text n fault → ⊥

-- always one of the two
abbrev pub EventsOrFault : Type 0
EventsOrFault =
    (p : Planned) (text : List ℕ) (stations : List InterId) → AreStations p stations
    → ((events : List Event) × IsEventText p text events)
    ⊎ ((n : ℕ) × (fault : TraceFault) × IsFault p text n fault)

-- a word is the name of the k-th of some names, the first such
abbrev pub IsNamedIn : List (List ℕ) → List ℕ → ℕ → Type 0
IsNamedIn names word k = (is_name word ≡ true) × (position (same_text word) names ≡ Some k)

-- a word is the name of a station: that of its interaction
abbrev pub IsStationNamed : Planned → List InterId → List ℕ → ℕ → Type 0
IsStationNamed p stations word s =
    (a : ℕ) × IsNamedIn p.model.interaction_names word a
    × (position (λ (b : InterId). b.0 == a) stations ≡ Some s)

-- the words of an event's line: its verb, with a value or with names that the plan has
pub data IsEventLine (p : Planned) (stations : List InterId) :
    List (List ℕ) → Event → Type 0 where
  of_mail : (word : List ℕ) (k : ℕ) → value_said word ≡ Some k
      → IsEventLine p stations (codes "mail" ∷ word ∷ []) (Mail k)
  of_deliver : (word : List ℕ) (k : ℕ) → value_said word ≡ Some k
      → IsEventLine p stations (codes "deliver" ∷ word ∷ []) (Bank (Deliver k))
  of_serve : (name : List ℕ) (s : StationId) → IsStationNamed p stations name s.0
      → IsEventLine p stations (codes "serve" ∷ name ∷ []) (Bank (Serve s))
  of_try : (class name : List ℕ) (k : ClassId) (a : InterId)
      → IsNamedIn p.classes.names class k.0 → IsNamedIn p.model.interaction_names name a.0
      → IsEventLine p stations (codes "try" ∷ class ∷ name ∷ []) (Try k a)
  of_pass : (from to : List ℕ) (s t : StationId) → IsStationNamed p stations from s.0
      → IsStationNamed p stations to t.0
      → IsEventLine p stations (codes "pass" ∷ from ∷ to ∷ []) (Bank (Pass s t))
  of_ask : (from to : List ℕ) (s t : StationId) → IsStationNamed p stations from s.0
      → IsStationNamed p stations to t.0
      → IsEventLine p stations (codes "ask" ∷ from ∷ to ∷ []) (Bank (Ask s t))

-- a line says an event exactly where its words are those of that event's line
abbrev pub LinesAreEvents : Type 0
LinesAreEvents =
    (p : Planned) (stations : List InterId) (line : List ℕ) (e : Event)
    → (event_on p stations line ≡ Ok (Some e))
    ↔ ((ws : List (List ℕ)) × (words_said line ≡ Some ws) × IsEventLine p stations ws e)

-- the form of an event's line: its verb, with a value, or with one name or two
pub data IsEventForm : List (List ℕ) → Type 0 where
  mail_form : (word : List ℕ) (k : ℕ) → value_said word ≡ Some k
      → IsEventForm (codes "mail" ∷ word ∷ [])
  deliver_form : (word : List ℕ) (k : ℕ) → value_said word ≡ Some k
      → IsEventForm (codes "deliver" ∷ word ∷ [])
  serve_form : (name : List ℕ) → is_name name ≡ true → IsEventForm (codes "serve" ∷ name ∷ [])
  try_form : (class name : List ℕ) → is_name class ≡ true → is_name name ≡ true
      → IsEventForm (codes "try" ∷ class ∷ name ∷ [])
  pass_form : (from to : List ℕ) → is_name from ≡ true → is_name to ≡ true
      → IsEventForm (codes "pass" ∷ from ∷ to ∷ [])
  ask_form : (from to : List ℕ) → is_name from ≡ true → is_name to ≡ true
      → IsEventForm (codes "ask" ∷ from ∷ to ∷ [])

-- a line says nothing exactly where it has no words, or is a comment
abbrev pub LinesSayNothing : Type 0
LinesSayNothing =
    (p : Planned) (stations : List InterId) (line : List ℕ)
    → (event_on p stations line ≡ Ok None) ↔ (words_said line ≡ Some [])

-- a line has an unknown name exactly where its words have the form of an event's, and are those of
-- no event of the plan; so each other line has no form
abbrev pub LinesAreUnknown : Type 0
LinesAreUnknown =
    (p : Planned) (stations : List InterId) (line : List ℕ)
    → (event_on p stations line ≡ Err Unknown)
    ↔ ((ws : List (List ℕ)) × (words_said line ≡ Some ws) × IsEventForm ws
    × ((e : Event) → ¬ IsEventLine p stations ws e))

-- a seed draws the same each time: two runs of what is drawn from it in one way, each in the new
-- world of one plan and base, whose stations share this and move it in one way, did the same events
-- and came to the same: one trace with its end, and one report, where no event was skipped and no
-- message lost
abbrev pub OneSeedTrace : Type 0
OneSeedTrace =
    (sharing : Sharing) (p : Planned) (base : ℕ) (draws : Draws) (seed : ℕ) (m n : SeedRun)
    → MovesInOneWay sharing
    → (one : IsSeedRun (λ x. x ≡ sharing) p base draws seed m)
    → (other : IsSeedRun (λ x. x ≡ sharing) p base draws seed n)
    → (one.of_seed.events ≡ other.of_seed.events) × (m ≡ n)

-- each event that is drawn among those that have something to do does something
abbrev pub BusySeedsAreNeverIdle : Type 0
BusySeedsAreNeverIdle =
    (sharing : Sharing) (p : Planned) (base count seed : ℕ) (run : SeedRun)
    → MovesInOneWay sharing → count < 2 ^ 32
    → IsSeedRun (λ x. x ≡ sharing) p base (record { count = count; by = Busy }) seed run
    → run.report.idle ≡ 0
