-- What is noted of a run for its sequence chart: a row for each event that is shown, and how each
-- message in flight was sent.
use Rattle.std.specs.Option.{option_map}
use Rattle.std.specs.Prelude.{All, List, None, Option, Some, [], drop, length, map, min, nat_lt}
use Rattle.std.specs.Prelude.{remove, slice_get, ℕ, ◌+◌, ◌++◌, ◌-◌, ◌∷◌, ◌≡◌}
use Rattle.std.specs.Prelude.{if◌then◌else◌}
use Rattle.bip_core.specs.Runs.{AreSteps, lost_by}
use Rattle.bip_core.specs.Worlds.{WorldContent}
use Rattle.bip_core.specs.declared.events.Did.{Did}
use Rattle.bip_core.specs.declared.events.Event.TheVariants.{Mail}
use Rattle.bip_core.specs.declared.events.Event.{Event}
use Rattle.bip_core.specs.declared.messages.Message.{Message}
use Rattle.bip_model.specs.declared.numbering.InterId.{InterId}
use Rattle.bip_partition.specs.Plans.{AreStations, Planned}
use Rattle.bip_schedule.specs.Writing.{HasSpelling}
use Rattle.bip_sequence.specs.Deeds.{deed_of}
use Rattle.bip_sequence.specs.Lifelines.{brief_of, first_sender, happens_at}
use Rattle.bip_sequence.specs.declared.lifelines.Brief.{Brief}
use Rattle.bip_sequence.specs.declared.lifelines.Lifeline.{Lifeline}
use Rattle.bip_sequence.specs.declared.notes.EventRow.{EventRow}
use Rattle.bip_sequence.specs.declared.notes.Flight.{Flight}
use Rattle.bip_tell.specs.Lines.{count_left, handed_on}

-- what is noted: of a plan with its stations, the events behind the first `before` ones up to
-- number `until`; and, by place, how each message in flight was sent
pub record NotesContent : Type 0 where
  pub plan : Planned
  pub stations : List InterId
  pub before : ℕ
  pub until : ℕ
  pub rows : List EventRow
  pub in_flight : List Flight

-- the stations are those of the plan, and each event that is shown has a spelling
pub record AreKeptNotes (n : NotesContent) : Type 0 where
  pub stations : AreStations n.plan n.stations
  pub spelled : All (λ (row : EventRow). HasSpelling n.plan n.stations row.event) n.rows

-- a message that is in flight at first, and one that an event of a number sends from a lifeline
abbrev pub first_flight : Message → Flight
first_flight m =
    record { number = 0; from = first_sender (brief_of m); brief = brief_of m }

abbrev pub flight_of : ℕ → Lifeline → Message → Flight
flight_of number at m = record { number = number; from = at; brief = brief_of m }

-- how the message was sent that an event takes, if it takes one; what is skipped takes none
abbrev pub flight_taken : Event → List Flight → Option Flight
flight_taken (Mail place) flights = slice_get flights place
flight_taken event flights = None

abbrev pub taken_by : Event → Option Did → List Flight → Option Flight
taken_by event None flights = None
taken_by event (Some did) flights = flight_taken event flights

-- what an event leaves in flight of what was, in order of sending
abbrev pub flights_left : Event → List Flight → List Flight
flights_left (Mail place) flights = remove flights place
flights_left event flights = flights

-- what is in flight behind an event of a number: what it leaves, and behind these what it sends
-- from the lifeline where it happens, which are the messages behind those left; what is skipped
-- changes nothing
abbrev pub flights_after :
    ℕ → Event → Lifeline → Option Did → ℕ → List Message → List Flight → List Flight
flights_after number event at None left mail flights = flights
flights_after number event at (Some did) left mail flights =
    flights_left event flights ++ map (flight_of number at) (drop left mail)

-- the row of an event of a number, which is handed a message, if one
abbrev pub row_of :
    List InterId → ℕ → Event → Option Brief → Option Did → List Flight → EventRow
row_of stations number event handed did flights =
    record {
      number = number;
      event = event;
      at = happens_at stations event handed;
      taken = taken_by event did flights;
      deed = deed_of did;
      lost = lost_by did;
    }

-- rows with one more, where its event is shown
abbrev pub rows_with : ℕ → EventRow → List EventRow → List EventRow
rows_with before row rows = if nat_lt before row.number then rows ++ row ∷ [] else rows

-- what is noted behind an event of a number, which is handed a message, if one, and leaves so many
-- in flight: its row, where it is shown, and what is in flight then; behind the last one that is
-- shown nothing more
abbrev pub noted :
    ℕ → Event → Option Brief → Option Did → ℕ → List Message → NotesContent → NotesContent
noted number event handed did left mail n =
    if nat_lt n.until number then n else
    record n {
      rows = rows_with n.before (row_of n.stations number event handed did n.in_flight) n.rows;
      in_flight = flights_after number event (happens_at n.stations event handed) did left mail
          n.in_flight;
    }

-- an event of a number leads from one world to another or is skipped, and this is noted of it: what
-- it is handed is the message in flight at its place, and what it sends is what is in flight behind
-- those left
pub record IsNotedEvent (number : ℕ) (event : Event) (did : Option Did) (w v : WorldContent)
    (n later : NotesContent) : Type 0 where
  pub steps : AreSteps (event ∷ []) (did ∷ []) w v
  pub notes : later ≡ noted number event (option_map brief_of (handed_on event w.mail)) did
      (count_left (handed_on event w.mail) (length w.mail)) v.mail n

-- notes begin with what is in flight in a world, and no row: of the events behind so many, up to a
-- last one
pub record AreFirstNotes (w : WorldContent) (first last : ℕ) (n : NotesContent) : Type 0 where
  pub plan : n.plan ≡ w.plan
  pub stations : AreStations w.plan n.stations
  pub before : n.before ≡ first
  pub until : n.until ≡ last
  pub rows : n.rows ≡ []
  pub in_flight : n.in_flight ≡ map first_flight w.mail

-- events lead from one world to another, each done or skipped, and this is noted of them, in order
pub data AreNoted (w : WorldContent) (n : NotesContent) :
    List Event → List (Option Did) → WorldContent → NotesContent → Type 0 where
  none_noted : AreNoted w n [] [] w n
  one_noted : {es : List Event} {ds : List (Option Did)} {v x : WorldContent}
      {m later : NotesContent} (e : Event) (d : Option Did) → AreNoted w n es ds v m
      → IsNotedEvent (length es + 1) e d v x m later
      → AreNoted w n (es ++ e ∷ []) (ds ++ d ∷ []) x later

-- how many of so many events are shown
abbrev pub count_event_rows : ℕ → ℕ → ℕ → ℕ
count_event_rows before until events = min until events - before
