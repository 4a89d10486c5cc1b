-- What is known when a table is closed.
use Rattle.std.specs.Prelude.{◌≡◌, ℕ, suc, ◌+◌, ◌/◌, ◌<◌, ◌≤◌, List, [], ◌∷◌, length, slice_index}
use Rattle.std.specs.List.{AllByRecursion, flat_map}
use Rattle.bip_model.specs.Grants.{IsHistory, used_by}
use Rattle.bip_model.specs.declared.grants.Grant.{Grant}
use Rattle.bip_model.specs.declared.numbering.CompId.{CompId}
use Rattle.bip_words.specs.Knowledge.{seen_in, that_counted}
use Rattle.bip_words.specs.Rows.{IsRowOf, floor_of, row_comps}
use Rattle.bip_words.specs.Rule.{IsPlaced, by_order}
use Rattle.bip_words.specs.Tables.{IsSeatOf, Seated, Tabled}
use Rattle.bip_words.specs.declared.knowledge.Note.{Note}

-- the grants of seats, one after another
abbrev pub parts_of : List Seated → List (ℕ × Grant)
parts_of seats = flat_map (λ (s : Seated). s.knows.grants) seats

abbrev pub IsUsedRow : (ℕ → ℕ) → List Grant → CompId × ℕ → Type 0
IsUsedRow floor log e = e.1 ≡ used_by floor log e.0.0

-- what the seat saw of each row isn't above the number that these grants explain
abbrev pub IsExplained : List (CompId × ℕ) → List Grant → Seated → Type 0
IsExplained opening log s =
    (r c : ℕ) → IsRowOf (row_comps opening) r c
    → seen_in r s.knows.notes ≤ used_by (floor_of opening) log c

-- the grants of the seats that were given are a whole history above the opening numbers, each at
-- its serial, and explain the rows and all that these seats saw
pub record IsClosedBy (opening : List (CompId × ℕ)) (seats : List Seated)
    (rows : List (CompId × ℕ)) (serial : ℕ) : Type 0 where
  pub all : serial ≡ length (parts_of seats)
  pub history : IsHistory (floor_of opening) (by_order (parts_of seats))
  pub in_order : AllByRecursion (IsPlaced (by_order (parts_of seats))) (parts_of seats)
  pub same_rows : row_comps rows ≡ row_comps opening
  pub used : AllByRecursion (IsUsedRow (floor_of opening) (by_order (parts_of seats))) rows
  pub seen : AllByRecursion (IsExplained opening (by_order (parts_of seats))) seats

-- a seat of the table that only counted the grants, once, and found so many
abbrev pub IsWitness : Tabled → ℕ → Seated → Type 0
IsWitness t n s = IsSeatOf t s × (s.knows ≡ that_counted (n ∷ []))

-- n grants are with other seats: those of the seats that were given stand at their serials in a
-- longer history above the opening numbers, which explains all that these seats saw
pub record LacksGrants (opening : List (CompId × ℕ)) (seats : List Seated) (n : ℕ) : Type 0 where
  pub log : List Grant
  pub some_left : 0 < n
  pub count : length log ≡ length (parts_of seats) + n
  pub history : IsHistory (floor_of opening) log
  pub placed : AllByRecursion (IsPlaced log) (parts_of seats)
  pub seen : AllByRecursion (IsExplained opening log) seats

-- What contracts of private functions say.

-- the notes of seats, one after another
abbrev pub notes_of : List Seated → List Note
notes_of seats = flat_map (λ (s : Seated). s.knows.notes) seats

-- each row with the number of its word
abbrev pub rows_by : ℕ → List ℕ → List (CompId × ℕ) → List (CompId × ℕ)
rows_by k words [] = []
rows_by k words (e ∷ es) = (e.0, slice_index words (suc k) / 2) ∷ rows_by (suc k) words es
