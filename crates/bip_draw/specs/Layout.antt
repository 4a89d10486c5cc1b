-- Where things stand in a chart, in points: lanes of components, rows of grants. Texts
-- have room for the longest name, at up to eight points a byte.
use Rattle.std.specs.Prelude.{ℕ, ◌+◌, ◌*◌, ◌/◌, ◌<◌, ◌≤◌, List, length, max, min}
use Rattle.std.specs.Prelude.{Bool, Option, suc, true, zero, ◌==◌, if◌then◌else◌}
use Rattle.std.specs.Borrow.{Bor}
use Rattle.std.specs.List.{fold, list_any}
use Rattle.std.specs.Option.{option_map_or}
use Rattle.bip_model.specs.declared.numbering.CompId.{CompId}
use Rattle.bip_model.specs.declared.parts.Component.{Component}
use Rattle.bip_model.specs.declared.parts.System.{System}
use Rattle.bip_draw.specs.declared.layout.Layout.{Layout}

-- a component has a lane: it is one of those that are asked for; or none are, and each has one
abbrev pub has_lane : Option (Bor (List CompId)) → ℕ → Bool
has_lane only c =
    option_map_or (λ (asked : Bor (List CompId)). list_any (λ (k : CompId). k.0 == c) asked.now)
    only true

-- how many of the components with a lower number have one
abbrev pub lanes_before : Option (Bor (List CompId)) → ℕ → ℕ
lanes_before only zero = 0
lanes_before only (suc c) = lanes_before only c + (if has_lane only c then 1 else 0)

-- the greatest of what is measured of things, 0 of none
abbrev pub most_by : {X : Type 0} → (X → ℕ) → List X → ℕ
most_by measure xs = fold (λ most x. max most (measure x)) 0 xs

-- how many bytes the longest name has
abbrev pub longest : List (List ℕ) → ℕ
longest names = most_by length names

-- how long a label of a component is at most: a location's name, or `VARIABLE=VALUE`
abbrev pub label_length : Bool → Component → ℕ
label_length values k =
    max (longest k.locations) (if values then longest k.variables + 11 else 0)

-- half of the distance between lanes
abbrev pub half_of : Bool → System → ℕ
half_of values m =
    4 * max (longest m.component_names) (most_by (label_length values) m.components) + 12

-- the height of a row: a bar with a location below it, and a line for each variable
abbrev pub height_of : Bool → System → ℕ
height_of values m =
    (if values then 11 * most_by (λ (k : Component). length k.variables) m.components else 0) + 34

-- the height of a legend of so many classes, in columns of eight
abbrev pub legend_height : ℕ → ℕ
legend_height classes = 18 * min classes 8 + 40

-- and its width
abbrev pub legend_width : ℕ → ℕ
legend_width classes = 254 * ((classes + 7) / 8) + 10

-- the width of a text that stands below the rows, up to 400 bytes of it
abbrev pub reason_width : ℕ → ℕ
reason_width bytes = 7 * min bytes 400 + 20

-- where all stands in a chart of a model: whether it shows values, which components have lanes, and
-- how many classes it has
abbrev pub layout_of : System → Bool → Option (Bor (List CompId)) → ℕ → Layout
layout_of m values only classes =
    record {
      left = 7 * longest m.interaction_names + 70;
      half = half_of values m;
      top = legend_height classes;
      height = height_of values m;
      values = values;
      only = only;
    }

-- the x of the lane of a component: lanes stand side by side
abbrev pub lane_x : Layout → ℕ → ℕ
lane_x l c = l.left + (2 * lanes_before l.only c + 1) * l.half

-- the y of the row with a number from 0
abbrev pub row_y : Layout → ℕ → ℕ
row_y l row = l.top + l.height * (row + 1)

-- what keeps all numbers of a chart small
pub record IsLayout (l : Layout) : Type 0 where
  pub left : l.left < 512
  pub half : l.half < 256
  pub head : 6 ≤ l.top
  pub top : l.top < 256
  pub height : l.height < 128
