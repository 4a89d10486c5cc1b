-- How the third layer of a host shares its tables.
use Rattle.std.specs.Prelude.{◌≡◌, ℕ, ◌-◌, ◌^◌, Bool, false, true, ⊤}
use Rattle.bip_bank.specs.Opening.{IsOpening}
use Rattle.bip_host.specs.Seats.{AreOpeningRows}
use Rattle.bip_host.specs.declared.hosts.Kind.TheVariants as kind
use Rattle.bip_host.specs.declared.hosts.Kind.{Kind}
use Rattle.bip_host.specs.declared.hosts.Tables.TheVariants.{Locked, Words}
use Rattle.bip_host.specs.declared.hosts.Tables.{Tables}
use Rattle.bip_host.specs.declared.layers.Layers.TheVariants as layers
use Rattle.bip_host.specs.declared.layers.Layers.{Layers}
use Rattle.bip_host.specs.declared.layers.ThirdLayer.TheVariants as layer
use Rattle.bip_host.specs.declared.layers.ThirdLayer.{ThirdLayer}
use Rattle.bip_host.specs.declared.tables.Access.TheVariants as access
use Rattle.bip_host.specs.declared.tables.Access.{Access}
use Rattle.bip_host.specs.declared.tables.CommonTable.TheVariants as table
use Rattle.bip_host.specs.declared.tables.CommonTable.{CommonTable}
use Rattle.bip_partition.specs.Plans.{Planned}
use Rattle.bip_table.specs.Reservations.{KeptRows}
use Rattle.bip_words.specs.Tables.{IsSeatOf}

-- whether one table decides, and how tables are shared
abbrev pub Form : Type 0
Form = Bool × Tables

abbrev pub form_asked : Kind → Tables → Form
form_asked kind.Central tables = (true, tables)
form_asked kind.Ring tables = (false, Locked)
form_asked kind.Forks tables = (false, Locked)

-- the greatest number that a third layer of a form can have
abbrev pub most_of : Form → ℕ
most_of (one, Locked) = 2 ^ 64 - 1
most_of (one, Words) = 2 ^ 58 - 1

module _ {L : Type 0} where
  abbrev pub form_of_table : CommonTable L → Form
  form_of_table table.Absent = (false, Locked)
  form_of_table (table.Locked lock) = (true, Locked)
  form_of_table (table.Words words) = (true, Words)

  abbrev pub form_of_layers : Layers L → Form
  form_of_layers (layers.Table lock passes) = (true, Locked)
  form_of_layers (layers.Words seat) = (true, Words)
  form_of_layers (layers.Stations stations) = (false, Locked)

  abbrev pub form_of : ThirdLayer L → Form
  form_of (layer.Table desk) = (true, Locked)
  form_of (layer.Words desk) = (true, Words)
  form_of (layer.Stations desk) = (false, Locked)

  -- by what a table is asked is its own
  abbrev pub IsAccessTo : CommonTable L → Access L → Type 0
  IsAccessTo table.Absent access.Absent = ⊤
  IsAccessTo (table.Locked lock) (access.Passes passes) = ⊤
  IsAccessTo (table.Words words) (access.Seat seat) = IsSeatOf words seat
  IsAccessTo table access = ⊥

  -- a table of which no grant was made so far has the rows of the plan: each component that has
  -- one, with the number 0
  abbrev pub IsOpenedFor : Planned → CommonTable L → Type 0
  IsOpenedFor p table.Absent = ⊤
  IsOpenedFor p (table.Locked lock) = (t : KeptRows) × IsOpening p 0 t × (lock.rows ≡ t.floor)
  IsOpenedFor p (table.Words words) = AreOpeningRows p words.rows
