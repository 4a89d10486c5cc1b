-- The rule in the two passes by which it is proved: first words, claims and what was seen; then
-- tickets, the log and the history.
use Rattle.std.proofs.Common.{◌≡◌, ℕ, suc, ◌+◌, ◌%◌, ◌/◌, ◌^◌, ◌<◌, ◌≤◌, ◌⊎◌, max, List, length}
use Rattle.std.specs.Prelude.{slice_index, nat_lt, if◌then◌else◌}
use Rattle.atomic_table.specs.Table.{State}
use Rattle.bip_model.specs.Grants.{IsHistory, used_by}
use Rattle.bip_model.specs.declared.grants.Grant.{Grant}
use Rattle.bip_model.specs.declared.numbering.CompId.{CompId}
use Rattle.std.specs.List.{AllByRecursion}
use lib.ListN.{get_elem?}
use mathlib.Core.Option.{some}
use Rattle.bip_model.specs.declared.messages.Request.{Request}
use Rattle.bip_words.specs.Knowledge.{grants_at}
use Rattle.bip_words.specs.Rows.{floor_of, row_comps}
use Rattle.bip_words.specs.Rule.{FliesAlone, IsKnownIn, IsNotDue, IsPlaced, claims_of, opening_word}
use Rattle.bip_words.specs.Rule.{owed_of, row_word, total, weight}
use Rattle.bip_words.specs.declared.knowledge.Knowledge.{Knowledge}

pub record IsClaimed (rows : ℕ) (words : List ℕ) (views : List Knowledge) : Type 0 where
  pub size : length words ≡ suc (rows + rows)
  pub claims : (r : ℕ) → r < rows → total (claims_of r) views ≡ row_word words r % 2
  pub known : (j : ℕ) (v : Knowledge) → get_elem? views j ≡ some v → IsKnownIn rows words v

abbrev pub grants_of : ℕ → Knowledge → ℕ
grants_of k v = grants_at k v.grants

abbrev pub count_of : Knowledge → ℕ
count_of v = length v.grants

abbrev pub OwesGranted : Knowledge → Type 0
OwesGranted v = AllByRecursion IsNotDue v.claims ⊎ (0 < length v.grants)

pub record IsLogged (comps : List ℕ) (floor : ℕ → ℕ) (words : List ℕ) (views : List Knowledge)
    (log : List Grant) : Type 0 where
  -- no component has two rows
  pub apart : (i j c : ℕ) → get_elem? comps i ≡ some c → get_elem? comps j ≡ some c → i ≡ j
  pub few : length comps ≤ 32
  pub opening : (r c : ℕ) → get_elem? comps r ≡ some c
      → opening_word words (length comps) r ≡ floor c
  pub ticket : slice_index words 0 ≡ length log
  pub history : IsHistory floor log
  pub used : (r c : ℕ) → get_elem? comps r ≡ some c
      → used_by floor log c ≡ max (row_word words r / 2) (total (owed_of r c) views)
  pub small : (r c : ℕ) → get_elem? comps r ≡ some c → used_by floor log c < 2 ^ 58
  pub rises : length log + weight floor comps ≤ weight (used_by floor log) comps
  pub serials : (k : ℕ) → total (grants_of k) views ≡ (if nat_lt k (length log) then 1 else 0)
  pub counts : total count_of views ≡ length log
  pub placed : (j : ℕ) (v : Knowledge) → get_elem? views j ≡ some v
      → AllByRecursion (IsPlaced log) v.grants
  -- who owes has the grant
  pub flight : (j : ℕ) (v : Knowledge) → get_elem? views j ≡ some v → OwesGranted v

abbrev pub AllFlyAlone : List ℕ → (ℕ → ℕ) → List Knowledge → List Grant → Type 0
AllFlyAlone comps floor views log = (j : ℕ) (v : Knowledge) → get_elem? views j ≡ some v
    → FliesAlone comps floor log v

pub record Stands (key : List (CompId × ℕ)) (s : State Request Knowledge) : Type 0 where
  pub log : List Grant
  pub first : IsClaimed (length (row_comps key)) s.words s.views
  pub second : IsLogged (row_comps key) (floor_of key) s.words s.views log
  pub third : AllFlyAlone (row_comps key) (floor_of key) s.views log
