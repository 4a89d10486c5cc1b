-- The chart of a run, as SVG: a lane for each component, or for some; a row for each grant that one
-- of them takes part in, with a mark for each of its wants; and what the components are in.
use Rattle.std.specs.Prelude.{ℕ, ◌≡◌, ◌≤◌, ◌+◌, ◌-◌, ◌*◌, ◌/◌, ◌%◌, ◌&&◌, Bool, true, List, ◌++◌}
use Rattle.std.specs.Prelude.{[], ◌∷◌, codes, filter, length, max, nat_le, nat_lt, slice_index}
use Rattle.std.specs.Prelude.{Option, if◌then◌else◌, take, ⊤}
use Rattle.std.specs.Borrow.{Bor}
use Rattle.std.specs.List.{flat_map, list_any, range_with_len}
use Rattle.std.specs.Option.{option_map_or}
use Rattle.bip_model.specs.Naming.{name_in}
use Rattle.bip_model.specs.Partitions.{class_in}
use Rattle.bip_model.specs.States.{State, state_of}
use Rattle.bip_model.specs.Steps.{after, start_of}
use Rattle.bip_model.specs.Wants.{components_of}
use Rattle.bip_model.specs.declared.grants.Grant.{Grant}
use Rattle.bip_model.specs.declared.numbering.CompId.{CompId}
use Rattle.bip_model.specs.declared.parts.System.{System}
use Rattle.bip_model.specs.declared.partitions.Partition.{Partition}
use Rattle.bip_model.specs.declared.states.LocalState.{LocalState}
use Rattle.bip_model.specs.declared.wants.Want.{Want}
use Rattle.bip_replay.specs.Faults.{IsFaultAt}
use Rattle.bip_replay.specs.Runs.{Kept, StandsAfter, standing_of, state_after}
use Rattle.bip_draw.specs.Escaping.{escaped}
use Rattle.bip_draw.specs.Feet.{foot_height, foot_text, foot_width}
use Rattle.bip_draw.specs.Layout.{IsLayout, has_lane, lane_x, layout_of, legend_width, row_y}
use Rattle.bip_draw.specs.Locals.{changes_text, state_text}
use Rattle.bip_draw.specs.Shapes.{bar_text, beside_text, chart_front, circle_end, circle_text}
use Rattle.bip_draw.specs.Shapes.{colour_text, ended, group_end, head_front}
use Rattle.bip_draw.specs.Shapes.{lane_line, number_text, place_text, square_text}
use Rattle.bip_draw.specs.declared.charts.ChartFault.TheVariants.{Memory, NotNext}
use Rattle.bip_draw.specs.declared.charts.ChartFault.{ChartFault}
use Rattle.bip_draw.specs.declared.charts.Excerpt.{Excerpt}
use Rattle.bip_draw.specs.declared.feet.Foot.{Foot}
use Rattle.bip_draw.specs.declared.layout.Layout.{Layout}

-- the state to which the first so many grants lead
abbrev pub state_at : System → List Grant → ℕ → State
state_at m gs count = state_after m (take count gs)

-- a grant of a run with its number, and the states before it and behind it
pub record Moment : Type 0 where
  pub number : ℕ
  pub grant : Grant
  pub before : State
  pub behind : State

-- the moments of grants that are taken in a state, behind so many others
abbrev pub moments_from : System → ℕ → State → List Grant → List Moment
moments_from m count s [] = []
moments_from m count s (g ∷ gs) =
    record { number = count + 1; grant = g; before = s; behind = after m s g.inter.0 }
    ∷ moments_from m (count + 1) (after m s g.inter.0) gs

-- a number is one of those that are shown
abbrev pub is_within : Excerpt → ℕ → Bool
is_within x number = nat_lt x.first number && option_map_or (λ last. nat_le number last) x.last true

-- a want is of a component that has a lane
abbrev pub has_mark : Option (Bor (List CompId)) → Want → Bool
has_mark only w = has_lane only w.comp.0

-- the grant with a number has a row: the number is shown, and a want of it has a lane
abbrev pub is_row : Excerpt → ℕ → Grant → Bool
is_row x number g = is_within x number && list_any (has_mark x.only) g.wants

-- the moments of a run that have a row, in the order of its grants
abbrev pub rows_of : System → Excerpt → List Grant → List Moment
rows_of m x gs =
    filter (λ (at : Moment). is_row x at.number at.grant) (moments_from m 0 (start_of m) gs)

-- a class in the legend: a square in its colour, and its name, in columns of eight
abbrev pub legend_entry : Partition → ℕ → List ℕ
legend_entry classes k =
    place_text (254 * (k / 8) + 10) (18 * (k % 8) + 10)
    ++ (colour_text k ++ (square_text ++ (ended (name_in classes.names k) ++ group_end)))

abbrev pub legend_of : Partition → List ℕ
legend_of classes = flat_map (legend_entry classes) (range_with_len 0 (length classes.names))

-- the lane of a component, with its name at the top, beside so many rows
abbrev pub lane_text : Layout → List (List ℕ) → ℕ → ℕ → List ℕ
lane_text l names rows c =
    lane_line (lane_x l c) l.top (row_y l rows)
    ++ (head_front (lane_x l c) (l.top - 6) ++ ended (name_in names c))

-- where it has one
abbrev pub lane_part : Layout → List (List ℕ) → ℕ → ℕ → List ℕ
lane_part l names rows c = if has_lane l.only c then lane_text l names rows c else []

abbrev pub lanes_text : Layout → System → ℕ → List ℕ
lanes_text l m rows =
    flat_map (lane_part l m.component_names rows) (range_with_len 0 (length m.components))

-- the mark of a want: on the lane of its component, with that one's name and the want's number
abbrev pub mark_text : Layout → List (List ℕ) → Want → List ℕ
mark_text l names w =
    circle_text w.role (lane_x l w.comp.0)
    ++ (escaped (name_in names w.comp.0)
    ++ (circle_end ++ beside_text (lane_x l w.comp.0 + 8) w.number))

-- the bar of wants, from the first one's lane to the last one's (they stand by component), and
-- their marks
abbrev pub bar_of : Layout → List Want → List ℕ
bar_of l wants =
    bar_text (lane_x l (slice_index (components_of wants) 0))
    (lane_x l (slice_index (components_of wants) (length wants - 1)))

unfoldable pub marked_text : Layout → List (List ℕ) → List Want → List ℕ
marked_text l names wants = bar_of l wants ++ flat_map (mark_text l names) wants

-- of the wants whose components have lanes
abbrev pub wants_text : Layout → List (List ℕ) → List Want → List ℕ
wants_text l names wants =
    marked_text l names (filter (has_mark l.only) wants)

-- the front of a row: its place, the colour of the interaction's class, the row's number, and the
-- interaction's name
unfoldable pub row_head : System → Partition → Layout → ℕ → ℕ → ℕ → List ℕ
row_head m classes l row number a =
    place_text 0 (row_y l row)
    ++ (colour_text (class_in classes a)
    ++ (number_text number ++ ended (name_in m.interaction_names a)))

-- the row of a moment, below so many others: its grant, and what that changes
unfoldable pub row_text : System → Partition → Layout → ℕ → Moment → List ℕ
row_text m classes l row at =
    row_head m classes l row at.number at.grant.inter.0
    ++ (wants_text l m.component_names at.grant.wants
    ++ (changes_text l m at.before at.behind ++ group_end))

-- rows, one below the other, below so many others
abbrev pub rows_text : System → Partition → Layout → ℕ → List Moment → List ℕ
rows_text m classes l row [] = []
rows_text m classes l row (at ∷ rest) =
    row_text m classes l row at ++ rows_text m classes l (row + 1) rest

-- how wide a chart is: as its lanes, its legend or its foot
abbrev pub chart_width : System → Partition → Layout → Foot → ℕ
chart_width m classes l foot =
    max
    (max (lane_x l (length m.components)) (legend_width (length classes.names)))
    (foot_width foot)

-- a chart that is laid out, with these rows, the state above them and what stands behind them
abbrev pub chart_on : System → Partition → Layout → List Moment → State → Foot → List ℕ
chart_on m classes l rows s foot =
    chart_front (chart_width m classes l foot) (row_y l (length rows) + foot_height l foot)
    ++ (legend_of classes
    ++ (lanes_text l m (length rows)
    ++ (state_text l m s
    ++ (rows_text m classes l 0 rows
    ++ (foot_text l (length rows) foot ++ codes "</svg>\n")))))

-- the layout of a chart
abbrev pub laid_out : System → Partition → Excerpt → Layout
laid_out m classes x = layout_of m x.values x.only (length classes.names)

-- the chart of a run of a model with classes, by its grants: what is shown of it, and behind that a
-- foot
abbrev pub chart_of : System → Partition → Excerpt → List Grant → Foot → List ℕ
chart_of m classes x gs foot =
    chart_on m classes (laid_out m classes x) (rows_of m x gs) (state_at m gs x.first) foot

-- what a chart that is being drawn keeps: what it shows of which model, where the run stands, how
-- many grants it has taken, how many rows there are, the state above them, and their text
pub record Sketch : Type 0 where
  pub model : System
  pub classes : Partition
  pub excerpt : Excerpt
  pub position : Kept
  pub count : ℕ
  pub rows : ℕ
  pub above : List LocalState
  pub text : List ℕ

-- a chart shows this of a model with classes
pub record IsChartOn (m : System) (classes : Partition) (x : Excerpt) (c : Sketch) : Type 0 where
  pub model : c.model ≡ m
  pub parted : c.classes ≡ classes
  pub shows : c.excerpt ≡ x

-- a chart has drawn these grants, which are a run above the base: it stands where they lead, and
-- has their rows, and the text of these where they aren't too many
pub record HasDrawn (base : ℕ) (gs : List Grant) (c : Sketch) : Type 0 where
  pub leads : StandsAfter c.model base gs (standing_of c.position)
  pub counted : c.count ≡ length gs
  pub rows : c.rows ≡ length (rows_of c.model c.excerpt gs)
  pub above : state_of c.above ≡ state_at c.model gs c.excerpt.first
  pub text : c.rows ≤ c.excerpt.most
      → c.text ≡ rows_text c.model c.classes (laid_out c.model c.classes c.excerpt) 0
      (rows_of c.model c.excerpt gs)

-- why a chart takes no grant: that can't be next, and the chart stays; or want of memory
abbrev pub IsChartFault : Sketch → Sketch → Grant → ChartFault → Type 0
IsChartFault old new g (NotNext fault) = IsFaultAt (standing_of old.position) g fault × (new ≡ old)
IsChartFault old new g Memory = ⊤

-- What contracts of private functions and invariants say.

-- the grant with a number has a row in a layout
abbrev pub has_row : Layout → Excerpt → ℕ → Grant → Bool
has_row l x number g = is_within x number && list_any (has_mark l.only) g.wants

pub record IsLaidOut (m : System) (classes : Partition) (x : Excerpt) (l : Layout) : Type 0 where
  pub laid : l ≡ laid_out m classes x
  pub small : IsLayout l

-- the state before the next row is that in which the run stands; up to the first row it stands
-- above the rows, too
pub record IsInStep (m : System) (position : Kept) (count first : ℕ)
    (above before : List LocalState) : Type 0 where
  pub model : position.model ≡ m
  pub here : state_of before ≡ (standing_of position).state
  pub early : count ≤ first → state_of above ≡ (standing_of position).state
