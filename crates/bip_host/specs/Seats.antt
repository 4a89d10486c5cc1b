-- Which tables a host can share, the rows of a word table, and what is drawn from it.
use Rattle.std.specs.Prelude.{◌≡◌, ℕ, ◌<◌, ◌≤◌, ◌^◌, All, List, map, ⊤}
use Rattle.bip_bank.specs.Opening.{IsListTabled}
use Rattle.bip_host.specs.Attempts.{IsOneAttempt}
use Rattle.bip_host.specs.declared.hosts.Kind.TheVariants.{Central, Forks, Ring}
use Rattle.bip_host.specs.declared.hosts.Kind.{Kind}
use Rattle.bip_host.specs.declared.hosts.Tables.TheVariants.{Locked, Words}
use Rattle.bip_host.specs.declared.hosts.Tables.{Tables}
use Rattle.bip_host.specs.declared.seats.Draw.TheVariants as draw
use Rattle.bip_host.specs.declared.seats.Draw.{Draw}
use Rattle.bip_model.specs.declared.messages.Request.{Request}
use Rattle.bip_model.specs.declared.numbering.CompId.{CompId}
use Rattle.bip_model.specs.declared.wants.Want.{Want}
use Rattle.bip_partition.specs.Plans.{IsCountTabled, Planned}
use Rattle.bip_table.specs.declared.rows.Row.{Row}
use Rattle.bip_words.specs.Knowledge.{asked_by}
use Rattle.bip_words.specs.Rows.{IsRows}
use Rattle.bip_words.specs.Tables.{Seated, Tabled}
use Rattle.bip_words.specs.declared.tables.Attempt.TheVariants as attempt

-- at most 32 components have a row
abbrev pub HasFewRows : Planned → Type 0
HasFewRows p = (count : ℕ) × IsCountTabled p count × (count ≤ 32)

-- a word table is central, and has at most 32 rows
abbrev pub CanHave : Planned → Kind → Tables → Type 0
CanHave p kind Locked = ⊤
CanHave p Central Words = HasFewRows p
CanHave p Ring Words = ⊥
CanHave p Forks Words = ⊥

-- the rows of a plan's word table at the start: each component that has one, with the number 0
pub record AreOpeningRows (p : Planned) (rows : List (CompId × ℕ)) : Type 0 where
  pub list : List CompId
  pub tabled : IsListTabled p list
  pub zeros : rows ≡ map (λ (c : CompId). (c, 0)) list

-- the components of rows, each with the number 0
abbrev pub zeroed : List Row → List (CompId × ℕ)
zeroed rows = map (λ (r : Row). (r.comp, 0)) rows

-- a word table can have this number
abbrev pub IsSmallWant : Want → Type 0
IsSmallWant w = w.number < 2 ^ 58

-- what is drawn for a request: its grant, with its serial; or it is refused at a number that was
-- used, or comes back where a row was busy; or it isn't tried, since a number is too great, or is
-- tried in vain, since a component has no row
abbrev pub IsDrawnFrom : Tabled → Request → Draw → Seated → Seated → Type 0
IsDrawnFrom t q (draw.Granted drawn) old new =
    (drawn.grant ≡ asked_by q) × IsOneAttempt t q (attempt.Granted drawn.serial) old new
IsDrawnFrom t q (draw.Used c used) old new = IsOneAttempt t q (attempt.Used c used) old new
IsDrawnFrom t q (draw.Busy back) old new =
    (back ≡ q) × ((c : CompId) × IsOneAttempt t q (attempt.Busy c) old new)
IsDrawnFrom t q (draw.Unknown c) old new = IsOneAttempt t q (attempt.Unknown c) old new
IsDrawnFrom t q draw.TooGreat old new =
    (¬ All IsSmallWant q.wants) × (new ≡ old)

-- What contracts of private functions say.

-- the rows of a plan's word table at the start, which one can begin with
pub record AreWordRows (p : Planned) (rows : List (CompId × ℕ)) : Type 0 where
  pub opening : AreOpeningRows p rows
  pub valid : IsRows rows
  pub small : All (λ (e : CompId × ℕ). e.1 < 2 ^ 58) rows
