-- What wants meet in rows that are lent, and what is written in these.
use Rattle.std.specs.Prelude.{ℕ, Bool, true, false, List, [], ◌∷◌, ◌++◌, Option, None, Some}
use Rattle.std.specs.Prelude.{drop, length, max, nat_le, take, if◌then◌else◌}
use Rattle.std.specs.Borrow.{Array, Fml, MutBor, follows_both, ftrue}
use Rattle.bip_model.specs.Wants.{is_moved, moved_in}
use Rattle.bip_model.specs.declared.numbering.CompId.{CompId}
use Rattle.bip_model.specs.declared.wants.Role.TheVariants.{Moved}
use Rattle.bip_model.specs.declared.wants.Want.{Want}
use Rattle.bip_table.specs.Rows.{has_row, place_in, used_at}
use Rattle.bip_table.specs.declared.lending.Met.TheVariants.{Fresh, Stale, Unknown}
use Rattle.bip_table.specs.declared.lending.Met.{Met}
use Rattle.bip_table.specs.contracts.rows.Row.{the_row}
use Rattle.bip_table.specs.declared.rows.Row.{Row}

-- Once a row that was lent at a place and the rows behind it are given back, the rows are the old
-- ones with these as they were written.
abbrev pub LeavesRows : MutBor (List Row) → ℕ → MutBor Row → MutBor (List Row) → Fml
LeavesRows rows place row rest =
    follows_both (Array the_row 0) the_row (Array the_row 0) rows.ghost_name row.ghost_name
    rest.ghost_name (λ x xs. take place rows.now ++ x ∷ xs)

-- The same where the row of a component was lent, if any was.
abbrev pub LendsRow : MutBor (List Row) → ℕ → Option (MutBor Row) → MutBor (List Row) → Fml
LendsRow rows c None rest = ftrue
LendsRow rows c (Some row) rest = LeavesRows rows (place_in rows.now c) row rest

-- What contracts of private functions say.

-- rows with others written over them, as far as both go
abbrev pub written_over : List Row → List Row → List Row
written_over old later = take (length old) (later ++ drop (length later) old)

-- the component of the first want that isn't fresh: of one before, or of this one
abbrev pub first_met : Option CompId → Want → ℕ → Option CompId
first_met (Some c) w used = Some c
first_met None w used = if nat_le w.number used then Some w.comp else None

-- what wants meet where each has a row, by the first that isn't fresh
abbrev pub met_in_all : Option CompId → Met
met_in_all None = Fresh
met_in_all (Some c) = Stale c

-- what wants meet in rows: the first component without a row, or else that of the first want that
-- isn't fresh, if there is one
abbrev pub met : List Row → List Want → Option CompId → Met
met rows [] before = met_in_all before
met rows (w ∷ ws) before =
    if has_row rows w.comp.0 then met rows ws (first_met before w (used_at rows w.comp.0))
    else Unknown w.comp

-- whether all have rows and are fresh
abbrev pub are_fresh : Met → Bool
are_fresh Fresh = true
are_fresh (Stale c) = false
are_fresh (Unknown c) = false

-- a want's row with its number used up
abbrev pub renewed_by : Want → Row → Row
renewed_by w r = if is_moved w.role then record r { used = max r.used w.number } else r

-- a row with the number used up that wants move its component with
abbrev pub renewed : List Want → Row → Row
renewed wants r = record r { used = max r.used (moved_in wants r.comp.0) }

-- the one want that raises a component's number
abbrev pub raising : CompId → ℕ → List Want
raising comp n = record { number = n; comp = comp; role = Moved } ∷ []
