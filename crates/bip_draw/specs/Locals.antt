-- What the components are in, beside their lanes: locations, and values where these are shown.
use Rattle.std.specs.Prelude.{ℕ, ◌+◌, ◌*◌, ◌==◌, List, [], ◌++◌, codes, length, slice_index_or}
use Rattle.std.specs.Prelude.{if◌then◌else◌}
use Rattle.std.specs.Option.{option_map_or}
use Rattle.std.specs.List.{flat_map, range_with_len}
use Rattle.bip_model.specs.Naming.{name_in}
use Rattle.bip_model.specs.States.{State}
use Rattle.bip_model.specs.declared.parts.Component.{Component}
use Rattle.bip_model.specs.declared.parts.System.{System}
use Rattle.bip_reader.specs.Writing.{component_in}
use Rattle.bip_draw.specs.Escaping.{escaped}
use Rattle.bip_draw.specs.Layout.{has_lane, lane_x}
use Rattle.bip_draw.specs.Shapes.{below_front, between, ended, front_end, group_end, place_text}
use Rattle.bip_draw.specs.Shapes.{text_end}
use Rattle.bip_draw.specs.declared.layout.Layout.{Layout}

-- the number of the location of a component in a state, and the value of a variable of it
abbrev pub location_at : State → ℕ → ℕ
location_at s c = option_map_or (λ local. local.location.0) (s c) 0

abbrev pub value_at : State → ℕ → ℕ → ℕ
value_at s c v = option_map_or (λ local. slice_index_or local.values v 0) (s c) 0

-- beside the lane of a component: a location of it, and below that `VARIABLE=VALUE`, each variable
-- on a line of its own
abbrev pub location_label : Layout → Component → ℕ → ℕ → List ℕ
location_label l k c n = below_front (lane_x l c + 6) 14 ++ ended (name_in k.locations n)

abbrev pub value_label : Layout → Component → ℕ → ℕ → ℕ → List ℕ
value_label l k c v n =
    below_front (lane_x l c + 6) (11 * v + 25)
    ++ (escaped (name_in k.variables v) ++ between (codes "=") n text_end)

-- what a component is in: its location, and its values where these are shown
abbrev pub values_text : Layout → Component → ℕ → State → List ℕ
values_text l k c s =
    flat_map (λ v. value_label l k c v (value_at s c v)) (range_with_len 0 (length k.variables))

unfoldable pub local_text : Layout → Component → ℕ → State → List ℕ
local_text l k c s =
    location_label l k c (location_at s c) ++ (if l.values then values_text l k c s else [])

-- what each component with a lane is in, above the first row
abbrev pub local_part : Layout → System → State → ℕ → List ℕ
local_part l m s c = if has_lane l.only c then local_text l (component_in m c) c s else []

abbrev pub locals_text : Layout → System → State → List ℕ
locals_text l m s = flat_map (local_part l m s) (range_with_len 0 (length m.components))

unfoldable pub state_text : Layout → System → State → List ℕ
state_text l m s = place_text 0 l.top ++ (front_end ++ (locals_text l m s ++ group_end))

-- what changes of a component from one state to another: its location, and values where these are
-- shown
abbrev pub location_change : Layout → Component → ℕ → State → State → List ℕ
location_change l k c s t =
    if location_at s c == location_at t c then [] else location_label l k c (location_at t c)

abbrev pub value_change : Layout → Component → ℕ → State → State → ℕ → List ℕ
value_change l k c s t v =
    if value_at s c v == value_at t c v then [] else value_label l k c v (value_at t c v)

abbrev pub value_changes : Layout → Component → ℕ → State → State → List ℕ
value_changes l k c s t =
    flat_map (value_change l k c s t) (range_with_len 0 (length k.variables))

unfoldable pub local_change : Layout → Component → ℕ → State → State → List ℕ
local_change l k c s t =
    location_change l k c s t ++ (if l.values then value_changes l k c s t else [])

-- what changes of each component with a lane
abbrev pub change_part : Layout → System → State → State → ℕ → List ℕ
change_part l m s t c = if has_lane l.only c then local_change l (component_in m c) c s t else []

unfoldable pub changes_text : Layout → System → State → State → List ℕ
changes_text l m s t = flat_map (change_part l m s t) (range_with_len 0 (length m.components))
