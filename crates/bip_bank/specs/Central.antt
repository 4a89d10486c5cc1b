-- The central bank: one table, and the open requests.
use Rattle.std.specs.Prelude.{◌≡◌, ◌↔◌, ◌⊎◌, ℕ, ⊤, List, [], ◌∷◌, Ok, Err, length}
use Rattle.std.specs.Prelude.{slice_index_or, slice_set, All, IsTrue}
use Rattle.bip_model.specs.Grants.{used_by}
use Rattle.bip_model.specs.declared.messages.Request.{Request}
use Rattle.bip_model.specs.declared.numbering.CompId.{CompId}
use Rattle.bip_partition.specs.Plans.{IsFit, IsTabled, Planned}
use Rattle.bip_table.specs.Reservations.{IsTableAnswer, IsTableAfter, KeptRows}
use Rattle.bip_table.specs.Rows.{has_row}
use Rattle.bip_table.specs.declared.faults.TableFault.TheVariants.{Ended, Memory, UnknownRow}
use Rattle.bip_bank.specs.Banks.{KeptBank, used_above}
use Rattle.bip_bank.specs.Sharing.{alone}
use Rattle.bip_bank.specs.declared.banks.Acted.TheVariants.{Answered, Moved, Nothing}
use Rattle.bip_bank.specs.declared.banks.Acted.{Acted}

-- what the central bank keeps
pub record KeptCentral : Type 0 where
  pub plan : Planned
  pub base : ℕ
  pub table : KeptRows
  pub waiting : List (List Request)

-- what is kept of it as a bank: its grants are its table's journal
abbrev pub kept_central : KeptCentral → KeptBank
kept_central c =
    record {
      plan = c.plan;
      base = c.base;
      rows = c.table.rows;
      grants = c.table.journal;
      waiting = c.waiting;
      sharing = alone;
    }

-- an open request of an interaction, which fits the plan
abbrev pub IsOpen : Planned → ℕ → Request → Type 0
IsOpen p a q = IsFit p q × (q.inter.0 ≡ a)

-- what is kept of any central bank: a row of each component that has one in the plan, a list of
-- open requests of each interaction, which fit the plan; the grants explain the used numbers, and
-- the next serial is their count
pub record IsCentral (c : KeptCentral) : Type 0 where
  pub rows : (k : ℕ) → IsTrue (has_row c.table.rows k) ↔ IsTabled c.plan k
  pub each : length c.waiting ≡ length c.plan.model.interactions
  pub open_fit : (a : ℕ) → All (IsOpen c.plan a) (slice_index_or c.waiting a [])
  pub explained : used_above c.base c.table.rows ≡ used_by (λ k. c.base) c.table.journal
  pub counted : c.table.serial ≡ length c.table.journal

-- What contracts of the bodies of banks with one table say.

-- a table can't keep the grant of the first of some requests
abbrev pub CannotKeep : KeptRows → List Request → Type 0
CannotKeep t [] = ⊥
CannotKeep t (q ∷ rest) = IsTableAnswer t q.wants (Err Memory)

-- a table doesn't decide on the first of some requests: there is none, or the table ends, or knows
-- no row of a component
abbrev pub IsUndecided : KeptRows → List Request → Type 0
IsUndecided t [] = ⊤
IsUndecided t (q ∷ rest) =
    IsTableAnswer t q.wants (Err Ended)
    ⊎ ((c : CompId) × IsTableAnswer t q.wants (Err (UnknownRow c)))

-- what became of the first request in one of some queues, by a table
abbrev pub IsFirstDecided : ℕ → KeptRows → List (List Request) → KeptRows → List (List Request)
    → Acted → Type 0
IsFirstDecided place t queues later queues_later Nothing =
    (later ≡ t) × (queues_later ≡ queues) × IsUndecided t (slice_index_or queues place [])
IsFirstDecided place t queues later queues_later Moved = ⊥
IsFirstDecided place t queues later queues_later (Answered q d) =
    (rest : List Request) × (slice_index_or queues place [] ≡ q ∷ rest)
    × IsTableAnswer t q.wants (Ok d) × IsTableAfter q (Ok d) t later
    × (queues_later ≡ slice_set queues place rest)
