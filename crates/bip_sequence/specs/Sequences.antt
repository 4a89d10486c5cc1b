-- The sequence chart of what was noted, as SVG: a lifeline for each component, class and station, a
-- row for each event, and an arrow for each message that was taken in a row, or never.
use Rattle.std.specs.List.{flat_map, range_with_len}
use Rattle.std.specs.Option.{option_map_or}
use Rattle.std.specs.Prelude.{List, None, Option, Some, [], codes, ℕ, ◌*◌, ◌+◌, ◌++◌, ◌/◌, ◌≡◌}
use Rattle.bip_bank.specs.declared.banks.BankStep.TheVariants.{Ask, Pass}
use Rattle.bip_core.specs.Worlds.{WorldContent}
use Rattle.bip_core.specs.declared.events.Did.{Did}
use Rattle.bip_core.specs.declared.events.Event.TheVariants.{Bank}
use Rattle.bip_core.specs.declared.events.Event.{Event}
use Rattle.bip_model.specs.declared.numbering.InterId.{InterId}
use Rattle.bip_partition.specs.Plans.{Planned}
use Rattle.bip_schedule.specs.Writing.{event_line}
use Rattle.bip_sequence.specs.Figures.{flight_text, line_text, mark_text, paired, segment}
use Rattle.bip_sequence.specs.Figures.{with_number}
use Rattle.bip_sequence.specs.Grids.{grid_of, grid_width, lifeline_at, lifeline_count, lifeline_x}
use Rattle.bip_sequence.specs.Grids.{row_y}
use Rattle.bip_sequence.specs.Lifelines.{lifeline_name, taker}
use Rattle.bip_sequence.specs.Notes.{AreFirstNotes, AreNoted, NotesContent}
use Rattle.bip_sequence.specs.Styles.{sequence_style}
use Rattle.bip_sequence.specs.declared.deeds.Deed.TheVariants.{Shared}
use Rattle.bip_sequence.specs.declared.deeds.Deed.{Deed}
use Rattle.bip_sequence.specs.declared.figures.Point.{Point}
use Rattle.bip_sequence.specs.declared.grids.Grid.{Grid}
use Rattle.bip_sequence.specs.declared.lifelines.Lifeline.TheVariants.{Class, Component, Station}
use Rattle.bip_sequence.specs.declared.lifelines.Lifeline.{Lifeline}
use Rattle.bip_sequence.specs.declared.notes.EventRow.{EventRow}
use Rattle.bip_sequence.specs.declared.notes.Flight.{Flight}
use Rattle.bip_tell.specs.Lines.{lost_text}

-- the point on a lifeline in the row of an event with a number, or above the first row where that
-- one isn't shown
abbrev pub on_lifeline : Grid → Lifeline → ℕ → Point
on_lifeline g lifeline number = record { x = lifeline_x g lifeline; y = row_y g number }

-- where an arrow ends that is aimed at a lifeline, and doesn't arrive: in the air
abbrev pub stub_end : Grid → Point → Lifeline → Point
stub_end g from to = record { x = (3 * from.x + lifeline_x g to) / 4; y = from.y + 12 }

-- the name of a group of lifelines, above its first one
unfoldable pub group_text : Grid → Lifeline → List ℕ → List ℕ
group_text g first name =
    with_number (codes "<text class=\"group\" y=\"16\" x=\"") (lifeline_x g first)
    ++ (codes "\">" ++ (name ++ codes "</text>\n"))

unfoldable pub groups_text : Grid → List ℕ
groups_text g =
    group_text g (Component (record { 0 = 0 })) (codes "components")
    ++ (group_text g (Class (record { 0 = 0 })) (codes "classes")
    ++ group_text g (Station 0) (codes "stations"))

-- the front of a chart
unfoldable pub picture_front : Grid → List ℕ
picture_front g =
    paired (codes "<svg xmlns=\"http://www.w3.org/2000/svg\" width=\"") (grid_width g)
    (codes "\" height=\"") (g.bottom + 20)
    (codes "\" font-family=\"monospace\" font-size=\"11\">\n")
    ++ (sequence_style ++ groups_text g)

-- who stands on a lifeline, at its top
unfoldable pub lifeline_head : Planned → List InterId → Lifeline → ℕ → List ℕ
lifeline_head p stations lifeline x =
    with_number (codes "<text class=\"head\" y=\"36\" x=\"") x
    ++ (codes "\">" ++ (lifeline_name p stations lifeline ++ codes "</text>\n"))

-- the lifeline with a number from 0
unfoldable pub lifeline_text : Grid → Planned → List InterId → ℕ → List ℕ
lifeline_text g p stations number =
    let lifeline = lifeline_at g number in
    let x = lifeline_x g lifeline in
    line_text lifeline (record { x = x; y = 42 }) (record { x = x; y = g.bottom })
    ++ lifeline_head p stations lifeline x

-- the words of an event, and how many of its messages were lost, if any
unfoldable pub words_text : Planned → List InterId → EventRow → List ℕ
words_text p stations row =
    codes "\">"
    ++ (event_line p stations row.event ++ (lost_text row.lost ++ codes "</text>\n"))

-- the number of a row, beside a faint line, and its words
unfoldable pub label_text : Grid → Planned → List InterId → EventRow → ℕ → List ℕ
label_text g p stations row y =
    paired (codes "<path class=\"guide\" d=\"M0 ") y (codes "H") (grid_width g) (codes "\"/>\n")
    ++ (paired (codes "<text class=\"number\" x=\"44\" dy=\"4\" y=\"") y (codes "\">") row.number
    (codes "</text>\n")
    ++ (with_number (codes "<text x=\"52\" dy=\"4\" y=\"") y ++ words_text p stations row))

-- the arrow of the message that an event took, if it took one: from the lifeline and the row where
-- it was sent
abbrev pub arrow_text : Grid → Planned → Option Flight → Point → List ℕ
arrow_text g p None at = []
arrow_text g p (Some f) at = flight_text p f.brief (on_lifeline g f.from f.number) at

-- whom a step inside the bank aims at, if it moved something
abbrev pub aim_of : Event → Deed → Option Lifeline
aim_of (Bank (Pass s t)) Shared = Some (Station t.0)
aim_of (Bank (Ask s t)) Shared = Some (Station t.0)
aim_of event deed = None

abbrev pub aim_text : Grid → EventRow → Point → List ℕ
aim_text g row at =
    option_map_or (λ to. segment (codes "<path class=\"aim\" d=\"M") at (stub_end g at to)
    (codes "\"/>\n")) (aim_of row.event row.deed) []

-- a row: an event with its number and its words; the message that it took, as an arrow to the
-- lifeline where it happens; whom it aims at inside the bank; and what it did
unfoldable pub row_text : Grid → Planned → List InterId → EventRow → List ℕ
row_text g p stations row =
    let at = on_lifeline g row.at row.number in
    label_text g p stations row at.y
    ++ (arrow_text g p row.taken at ++ (aim_text g row at ++ mark_text p row.deed at))

-- a message that nobody took: an arrow from where it was sent, which ends in the air
abbrev pub air_text : Grid → Planned → List InterId → Flight → List ℕ
air_text g p stations f =
    let from = on_lifeline g f.from f.number in
    flight_text p f.brief from (stub_end g from (taker stations f.brief))

unfoldable pub each_air : Grid → Planned → List InterId → List Flight → List ℕ
each_air g p stations flights =
    codes "<g class=\"air\">\n"
    ++ (flat_map (air_text g p stations) flights ++ codes "</g>\n</svg>\n")

-- a chart on a grid
abbrev pub sequence_on : Grid → NotesContent → List ℕ
sequence_on g n =
    picture_front g
    ++ (flat_map (lifeline_text g n.plan n.stations) (range_with_len 0 (lifeline_count g))
    ++ (flat_map (row_text g n.plan n.stations) n.rows
    ++ each_air g n.plan n.stations n.in_flight))

-- the sequence chart
abbrev pub sequence_of : NotesContent → List ℕ
sequence_of n = sequence_on (grid_of n) n

-- events lead from one world to another, each done or skipped, and a text is the sequence chart of
-- those behind so many, up to a last one
pub record IsSequenceChart (before until : ℕ) (w : WorldContent) (events : List Event)
    (dids : List (Option Did)) (v : WorldContent) (text : List ℕ) : Type 0 where
  pub first : NotesContent
  pub last : NotesContent
  pub begun : AreFirstNotes w before until first
  pub noted : AreNoted w first events dids v last
  pub drawn : text ≡ sequence_of last
