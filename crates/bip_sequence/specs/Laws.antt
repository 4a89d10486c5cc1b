-- What a sequence chart means, in its reader's words: laws that a reviewer reads.
use Rattle.std.specs.Option.{option_map}
use Rattle.std.specs.Prelude.{Bool, List, Option, Some, false, length, map, true, ℕ, ◌+◌, ◌<◌, ◌≡◌}
use Rattle.std.specs.Prelude.{◌≤◌}
use Rattle.bip_core.specs.Runs.{did_so, is_grant, is_refusal}
use Rattle.bip_core.specs.Worlds.{WorldContent}
use Rattle.bip_core.specs.declared.events.Did.{Did}
use Rattle.bip_core.specs.declared.events.Event.{Event}
use Rattle.bip_core.specs.declared.messages.Message.{Message}
use Rattle.bip_sequence.specs.Deeds.{deed_of}
use Rattle.bip_sequence.specs.Figures.{mark_of}
use Rattle.bip_sequence.specs.Grids.{row_y}
use Rattle.bip_sequence.specs.Lifelines.{brief_of}
use Rattle.bip_sequence.specs.Notes.{AreFirstNotes, AreNoted, NotesContent, taken_by}
use Rattle.bip_sequence.specs.declared.figures.Mark.TheVariants as mark
use Rattle.bip_sequence.specs.declared.figures.Mark.{Mark}
use Rattle.bip_sequence.specs.declared.grids.Grid.{Grid}
use Rattle.bip_sequence.specs.declared.lifelines.Brief.{Brief}
use Rattle.bip_sequence.specs.declared.notes.Flight.{Flight}
use Rattle.bip_sequence.specs.declared.notes.TheConstants.{MOST_EVENTS_SHOWN}
use Rattle.bip_tell.specs.Lines.{handed_on}

-- what is noted as in flight is what is in flight, message for message
abbrev pub brief_in : Flight → Brief
brief_in f = f.brief

abbrev pub AreFlightsOf : List Message → List Flight → Type 0
AreFlightsOf mail flights = map brief_in flights ≡ map brief_of mail

-- it is so behind each event, up to the last one that is shown
abbrev pub FlightsAreMessages : Type 0
FlightsAreMessages =
    (w v : WorldContent) (before until : ℕ) (n later : NotesContent) (events : List Event)
    (dids : List (Option Did)) → AreFirstNotes w before until n
    → AreNoted w n events dids v later → length events ≤ until
    → AreFlightsOf v.mail later.in_flight

-- so an event that is done takes, by its row, the message that it is handed
abbrev pub ArrowsAreOfMessages : Type 0
ArrowsAreOfMessages =
    (event : Event) (did : Did) (mail : List Message) (flights : List Flight)
    → AreFlightsOf mail flights
    → option_map brief_in (taken_by event (Some did) flights)
    ≡ option_map brief_of (handed_on event mail)

-- a mark is that of a grant, and that of a refusal
abbrev pub is_grant_mark : Mark → Bool
is_grant_mark mark.Grant = true
is_grant_mark other = false

abbrev pub is_refusal_mark : Mark → Bool
is_refusal_mark mark.Refusal = true
is_refusal_mark other = false

-- it stands just where an event granted, as a report counts it, and where one refused
abbrev pub GrantsAreMarked : Type 0
GrantsAreMarked = (did : Option Did) → is_grant_mark (mark_of (deed_of did)) ≡ did_so is_grant did

abbrev pub RefusalsAreMarked : Type 0
RefusalsAreMarked =
    (did : Option Did) → is_refusal_mark (mark_of (deed_of did)) ≡ did_so is_refusal did

-- rows stand apart, as many as are shown, and below what was sent before them
abbrev pub RowsStandApart : Type 0
RowsStandApart =
    (g : Grid) (i j : ℕ) → g.before ≤ i → i < j → j ≤ g.before + MOST_EVENTS_SHOWN
    → row_y g i + 24 ≤ row_y g j
