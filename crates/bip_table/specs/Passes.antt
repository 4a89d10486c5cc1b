-- Passes: what one caller of a locked table was granted and shown, row by row.
use Rattle.std.specs.Prelude.{ℕ, ◌+◌, Bool, ◌==◌, List, [], ◌∷◌, Result, Ok, Err, map, max}
use Rattle.std.specs.Prelude.{if◌then◌else◌}
use Rattle.std.specs.List.{list_any}
use Rattle.bip_model.specs.Wants.{moved_in}
use Rattle.bip_model.specs.declared.wants.Want.{Want}
use Rattle.bip_table.specs.declared.faults.TableFault.TheVariants.{UnknownRow, Memory, Ended}
use Rattle.bip_table.specs.declared.faults.TableFault.TheVariants.{NotKept}
use Rattle.bip_table.specs.declared.faults.TableFault.{TableFault}
use Rattle.bip_table.specs.declared.passes.Tally.{Tally}
use Rattle.bip_table.specs.declared.reservations.Decision.TheVariants.{Granted, Refused}
use Rattle.bip_table.specs.declared.reservations.Decision.{Decision}
use Rattle.bip_table.specs.declared.rows.Row.{Row}

-- what a pass has: how many grants, and a tally of each row
pub record Passed : Type 0 where
  pub grants : ℕ
  pub tallies : List Tally

-- whether a pass has a tally of a component
abbrev pub has_tally : List Tally → ℕ → Bool
has_tally ts c = list_any (λ (t : Tally). t.comp.0 == c) ts

-- how many grants of a pass moved a component; 0 where it has no row
abbrev pub count_at : List Tally → ℕ → ℕ
count_at [] c = 0
count_at (t ∷ ts) c = if t.comp.0 == c then t.count else count_at ts c

-- the greatest used number of a component that a pass was shown; 0 where it has no row
abbrev pub shown_at : List Tally → ℕ → ℕ
shown_at [] c = 0
shown_at (t ∷ ts) c = if t.comp.0 == c then t.shown else shown_at ts c

-- a pass of rows at first: it has no grant, and was shown what their number is
abbrev pub first_tally : Row → Tally
first_tally r = record { count = 0; shown = r.used; comp = r.comp }

abbrev pub first_pass : List Row → Passed
first_pass rows = record { grants = 0; tallies = map first_tally rows }

-- a tally after a grant of wants: where they move its component, that is one more grant, and their
-- number is shown
abbrev pub tally_after_grant : List Want → Tally → Tally
tally_after_grant wants t =
    record t {
      count = t.count + (if moved_in wants t.comp.0 == 0 then 0 else 1);
      shown = max t.shown (moved_in wants t.comp.0);
    }

-- a tally after a refusal that names a component and its used number: that number is shown
abbrev pub tally_after_refusal : ℕ → ℕ → Tally → Tally
tally_after_refusal c used t =
    record t { shown = if t.comp.0 == c then max t.shown used else t.shown }

-- how many grants an answer gives; one that isn't kept is given too
abbrev pub granted_by : Result Decision TableFault → ℕ
granted_by (Ok (Granted serial)) = 1
granted_by (Err NotKept) = 1
granted_by (Ok (Refused c used)) = 0
granted_by (Err (UnknownRow c)) = 0
granted_by (Err Memory) = 0
granted_by (Err Ended) = 0

-- the tallies of a pass after an answer to wants
abbrev pub tallies_after : List Want → Result Decision TableFault → List Tally → List Tally
tallies_after wants (Ok (Granted serial)) ts = map (tally_after_grant wants) ts
tallies_after wants (Err NotKept) ts = map (tally_after_grant wants) ts
tallies_after wants (Ok (Refused c used)) ts = map (tally_after_refusal c.0 used) ts
tallies_after wants (Err (UnknownRow c)) ts = ts
tallies_after wants (Err Memory) ts = ts
tallies_after wants (Err Ended) ts = ts
