-- Where things stand in a sequence chart, in points: lifelines side by side, components, then
-- classes, then stations, with some more room between these; rows below one another. Names have
-- room for the longest one.
use Rattle.std.specs.List.{fold}
use Rattle.std.specs.Prelude.{List, length, max, min, nat_lt, ℕ, ◌*◌, ◌+◌, ◌-◌, ◌<◌, ◌^◌, ◌≤◌}
use Rattle.std.specs.Prelude.{if◌then◌else◌}
use Rattle.bip_partition.specs.Plans.{Planned}
use Rattle.bip_sequence.specs.Notes.{NotesContent}
use Rattle.bip_sequence.specs.declared.notes.TheConstants.{MOST_EVENTS_SHOWN}
use Rattle.bip_sequence.specs.declared.grids.Grid.{Grid}
use Rattle.bip_sequence.specs.declared.lifelines.Lifeline.TheVariants.{Class, Component, Outside}
use Rattle.bip_sequence.specs.declared.lifelines.Lifeline.TheVariants.{Station}
use Rattle.bip_sequence.specs.declared.lifelines.Lifeline.{Lifeline}

-- how many bytes the longest name has
abbrev pub longest_name : List (List ℕ) → ℕ
longest_name names = fold (λ most name. max most (length name)) 0 names

abbrev pub widest : Planned → ℕ
widest p =
    max (max (longest_name p.model.component_names) (longest_name p.classes.names))
    (longest_name p.model.interaction_names)

-- how many rows have room
abbrev pub room_for : ℕ → ℕ
room_for rows = min rows MOST_EVENTS_SHOWN

-- the grid of what is noted: beside the lifelines stand two names and a number, and there are no
-- more than 128 stations
abbrev pub grid_of : NotesContent → Grid
grid_of n =
    record {
      left = 14 * widest n.plan + 130;
      half = 4 * widest n.plan + 24;
      components = length n.plan.model.component_names;
      classes = length n.plan.classes.names;
      stations = min (length n.stations) 128;
      before = n.before;
      bottom = 24 * room_for (length n.rows) + 90;
    }

abbrev pub lifeline_count : Grid → ℕ
lifeline_count g = g.components + g.classes + g.stations

-- how wide a chart is
abbrev pub grid_width : Grid → ℕ
grid_width g = g.left + (2 * lifeline_count g + 8) * g.half

-- the lifeline with a number from 0, from left to right
abbrev pub lifeline_at : Grid → ℕ → Lifeline
lifeline_at g number =
    if nat_lt number g.components then Component (record { 0 = number }) else
    if nat_lt number (g.components + g.classes) then Class (record { 0 = number - g.components })
    else Station (number - g.components - g.classes)

-- where a lifeline stands, in halves of the distance between two
abbrev pub halves_of : Grid → Lifeline → ℕ
halves_of g Outside = 0
halves_of g (Component c) = 2 * c.0 + 2
halves_of g (Class k) = 2 * (g.components + k.0) + 3
halves_of g (Station place) = 2 * (g.components + g.classes + min place 128) + 4

-- its x
abbrev pub lifeline_x : Grid → Lifeline → ℕ
lifeline_x g lifeline = g.left + halves_of g lifeline * g.half

-- the y of the row of an event with a number from 1; what was sent before the first row was sent
-- above that one
abbrev pub row_y : Grid → ℕ → ℕ
row_y g number = 24 * min (number - g.before) (MOST_EVENTS_SHOWN + 1) + 66

-- what keeps all numbers of a chart small
pub record IsGrid (g : Grid) : Type 0 where
  pub left : g.left < 1024
  pub half : g.half < 256
  pub components : g.components ≤ 64
  pub classes : g.classes ≤ 32
  pub stations : g.stations ≤ 128
  pub bottom : g.bottom < 2 ^ 17
