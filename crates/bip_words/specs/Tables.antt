-- A word table and a seat, as their callers see them.
use Rattle.std.specs.Prelude.{◌≡◌, ℕ, List}
use Rattle.atomic_table.specs.Seated.{TableId}
use Rattle.bip_model.specs.declared.numbering.CompId.{CompId}
use Rattle.bip_words.specs.declared.knowledge.Knowledge.{Knowledge}

-- which table it is, and its rows with their opening numbers
pub record Tabled : Type 0 where
  pub id : TableId
  pub rows : List (CompId × ℕ)

-- of which table the seat is, and what it knows
pub record Seated : Type 0 where
  pub table : TableId
  pub knows : Knowledge

abbrev pub IsOfTable : TableId → Seated → Type 0
IsOfTable id s = s.table ≡ id

abbrev pub IsSeatOf : Tabled → Seated → Type 0
IsSeatOf t s = IsOfTable t.id s
