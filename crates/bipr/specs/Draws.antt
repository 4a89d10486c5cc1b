-- Which ways there are to draw the events of seeds, by name.
use Rattle.std.specs.Prelude.{List, codes, ℕ}
use Rattle.bip_schedule.specs.declared.drawing.Draw.TheVariants.{Busy, Table}
use Rattle.bip_schedule.specs.declared.drawing.Draw.{Draw}

-- the name of a way
abbrev pub draw_name : Draw → List ℕ
draw_name Table = codes "table"
draw_name Busy = codes "busy"
