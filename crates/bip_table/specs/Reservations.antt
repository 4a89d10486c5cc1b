-- The reservation table: used numbers, the floor below them, and the grants between; what it
-- decides on a request, and what a decision leaves.
use Rattle.std.specs.Prelude.{◌≡◌, ℕ, ◌+◌, ◌<◌, ◌≤◌, Bool, false, List, [], ◌∷◌, ◌++◌, Result}
use Rattle.std.specs.Prelude.{Ok, Err, All, Any, IsTrue}
use Rattle.std.specs.List.Sorted.{IsStrictlyIncreasing}
use Rattle.bip_model.specs.Grants.{IsHistory, used_by}
use Rattle.bip_model.specs.Numbering.{IsLowest}
use Rattle.bip_model.specs.Wants.{IsFresh, raised}
use Rattle.bip_model.specs.declared.grants.Grant.{Grant}
use Rattle.bip_model.specs.declared.messages.Request.{Request}
use Rattle.bip_model.specs.declared.wants.Want.{Want}
use Rattle.bip_table.specs.Rows.{has_row, raised_to, row_components, used_at}
use Rattle.bip_table.specs.declared.faults.TableFault.TheVariants.{UnknownRow, Memory, Ended}
use Rattle.bip_table.specs.declared.faults.TableFault.TheVariants.{NotKept}
use Rattle.bip_table.specs.declared.faults.TableFault.{TableFault}
use Rattle.bip_table.specs.declared.reservations.Decision.TheVariants.{Granted, Refused}
use Rattle.bip_table.specs.declared.reservations.Decision.{Decision}
use Rattle.bip_table.specs.declared.rows.Row.{Row}

-- a table: which components have a row; the used number of each and its floor, 0 where it has no
-- row; the grants above the floor; and the serial of the next one
pub record Reservations : Type 0 where
  pub tabled : ℕ → Bool
  pub used : ℕ → ℕ
  pub floor : ℕ → ℕ
  pub journal : List Grant
  pub serial : ℕ

-- what is kept of it, row by row, and for how many more grants there is room
pub record KeptRows : Type 0 where
  pub rows : List Row
  pub floor : List Row
  pub journal : List Grant
  pub serial : ℕ
  pub room : ℕ

-- a table by what is kept
abbrev pub reservations : KeptRows → Reservations
reservations t =
    record {
      tabled = has_row t.rows;
      used = used_at t.rows;
      floor = used_at t.floor;
      journal = t.journal;
      serial = t.serial;
    }

-- what is kept of any table: rows by component, the same in both lists; the grants are a history
-- above the floor; and the used numbers are those that floor and grants explain
pub record IsTable (t : KeptRows) : Type 0 where
  pub rising : IsStrictlyIncreasing (row_components t.rows)
  pub same_rows : row_components t.floor ≡ row_components t.rows
  pub history : IsHistory (used_at t.floor) t.journal
  pub explained : used_at t.rows ≡ used_by (used_at t.floor) t.journal

-- no grant has this serial or one above
abbrev pub end_of_serials : ℕ
end_of_serials = 18446744073709551615

-- each wanted component has a row
abbrev pub AllHaveRows : Reservations → List Want → Type 0
AllHaveRows t wants = All (λ (w : Want). IsTrue (t.tabled w.comp.0)) wants

-- a wanted component without a row
abbrev pub LacksRow : Reservations → List Want → ℕ → Type 0
LacksRow t wants c = Any (λ (w : Want). w.comp.0 ≡ c) wants × (t.tabled c ≡ false)

-- a component wanted with a number that isn't above its used one
abbrev pub IsUsedUp : (ℕ → ℕ) → List Want → ℕ → Type 0
IsUsedUp used wants c = Any (λ (w : Want). (w.comp.0 ≡ c) × (w.number ≤ used c)) wants

-- what is decided by used numbers: wants are granted where each is fresh, else refused with the
-- lowest component that isn't, and its used number
abbrev pub IsDecision : (ℕ → ℕ) → List Want → Decision → Type 0
IsDecision used wants (Granted serial) = IsFresh used wants
IsDecision used wants (Refused c n) = IsLowest (IsUsedUp used wants) c.0 × (n ≡ used c.0)

-- wants that a table can grant: each component has a row, each want is fresh, and a serial is left
pub record CanBeGranted (t : Reservations) (wants : List Want) : Type 0 where
  pub tabled : AllHaveRows t wants
  pub fresh : IsFresh t.used wants
  pub left : t.serial < end_of_serials

-- what a table answers to wants, the first that applies: a component has no row, and this is the
-- lowest; one isn't fresh; no serial is left; they are granted with the next one. Want of memory is
-- told only in place of a grant, and where there is no room. A table keeps what it grants
abbrev pub IsTableAnswer : KeptRows → List Want → Result Decision TableFault → Type 0
IsTableAnswer t wants (Err (UnknownRow c)) = IsLowest (LacksRow (reservations t) wants) c.0
IsTableAnswer t wants (Ok (Refused c n)) =
    AllHaveRows (reservations t) wants × IsDecision (used_at t.rows) wants (Refused c n)
IsTableAnswer t wants (Err Ended) =
    AllHaveRows (reservations t) wants × IsFresh (used_at t.rows) wants
    × (t.serial ≡ end_of_serials)
IsTableAnswer t wants (Err Memory) = CanBeGranted (reservations t) wants × (t.room ≡ 0)
IsTableAnswer t wants (Err NotKept) = ⊥
IsTableAnswer t wants (Ok (Granted serial)) =
    CanBeGranted (reservations t) wants × (serial ≡ t.serial)

-- the grant of a request
abbrev pub grant_of : Request → Grant
grant_of q = record { inter = q.inter; wants = q.wants }

-- a table with one more grant: its moved numbers are used, and all else stays
abbrev pub with_grant : Grant → Reservations → Reservations
with_grant g t =
    record t {
      used = raised t.used g.wants;
      journal = t.journal ++ g ∷ [];
      serial = t.serial + 1;
    }

-- what an answer leaves: a grant joins the table, and takes exactly one place of its room where
-- there is any; otherwise all stays as it was
abbrev pub IsTableAfter : Request → Result Decision TableFault → KeptRows → KeptRows → Type 0
IsTableAfter q (Ok (Granted serial)) t later =
    (reservations later ≡ with_grant (grant_of q) (reservations t))
    × (0 < t.room → later.room + 1 ≡ t.room)
IsTableAfter q (Ok (Refused c n)) t later = later ≡ t
IsTableAfter q (Err fault) t later = later ≡ t

-- a table without grants, with the number and the floor of a component's row at least this number
abbrev pub with_raised : ℕ → ℕ → Reservations → Reservations
with_raised comp n t =
    record t {
      used = raised_to comp n t.tabled t.used;
      floor = raised_to comp n t.tabled t.floor;
    }
