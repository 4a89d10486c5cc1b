-- The trace of a world, by two lists of grants.
use Rattle.std.specs.Prelude.{ℕ, List, Option, length, nat_lt, if◌then◌else◌}
use Rattle.bip_model.specs.declared.grants.Grant.{Grant}
use Rattle.bip_core.specs.Events.{trace_with}

-- a list of the world's own has all grants from the first local one on, and so is longer than the
-- bank's; before, the bank's list is the trace
unfoldable pub trace_by : List Grant → List Grant → List Grant
trace_by own granted = if nat_lt (length granted) (length own) then own else granted

-- with a grant of a bank that had given so many, if there is one
unfoldable pub own_with : ℕ → List Grant → Option Grant → List Grant
own_with granted own given = if nat_lt granted (length own) then trace_with own given else own
