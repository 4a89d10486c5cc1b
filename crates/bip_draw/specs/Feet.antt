-- What stands behind the last row of a chart: why the run stops there, or what may run there.
use Rattle.std.specs.Prelude.{ℕ, ◌+◌, ◌*◌, List, [], ◌++◌, length, min}
use Rattle.std.specs.List.{flat_map}
use Rattle.bip_model.specs.Texts.{lines}
use Rattle.bip_draw.specs.Layout.{longest, reason_width, row_y}
use Rattle.bip_draw.specs.Shapes.{ended, fault_front, foot_end, foot_front, foot_line, group_end}
use Rattle.bip_draw.specs.Shapes.{place_text}
use Rattle.bip_draw.specs.declared.feet.Foot.TheVariants.{Fault, Nothing, Runnable}
use Rattle.bip_draw.specs.declared.feet.Foot.{Foot}
use Rattle.bip_draw.specs.declared.layout.Layout.{Layout}

-- a reason, behind so many rows
abbrev pub fault_row : Layout → ℕ → List ℕ → List ℕ
fault_row l rows reason =
    place_text 0 (row_y l rows) ++ (fault_front ++ (ended reason ++ group_end))

-- lines of a text there, one below the other
unfoldable pub runnable_rows : Layout → ℕ → List ℕ → List ℕ
runnable_rows l rows text =
    place_text 0 (row_y l rows) ++ (foot_front ++ (flat_map foot_line (lines text) ++ foot_end))

unfoldable pub foot_text : Layout → ℕ → Foot → List ℕ
foot_text l rows Nothing = []
foot_text l rows (Fault reason) = fault_row l rows reason.now
foot_text l rows (Runnable text) = runnable_rows l rows text.now

-- how wide it is: as its reason, or its longest line
abbrev pub foot_width : Foot → ℕ
foot_width Nothing = 0
foot_width (Fault reason) = reason_width (length reason.now)
foot_width (Runnable text) = reason_width (longest (lines text.now))

-- how high: as a row, or as its lines are, up to 128 of them
abbrev pub foot_height : Layout → Foot → ℕ
foot_height l (Runnable text) = 14 * min (length (lines text.now)) 128 + 20
foot_height l foot = l.height
