-- The rule of a word table, which holds between any two steps. Word 0 is the ticket, the number of
-- grants. Of R rows, word r + 1 is that of row r: 2u where no seat has a claim on the row, and
-- 2u + 1 where one has, u being the row's number. Word R + r + 1 is the row's opening number, and
-- no step writes it.
use Rattle.std.specs.Prelude.{◌≡◌, ◌⊎◌, ℕ, zero, suc, ◌+◌, ◌*◌, ◌%◌, ◌/◌, ◌^◌, ◌<◌, ◌≤◌, max}
use Rattle.std.specs.Prelude.{true, false, ◌&&◌, ◌==◌, nat_lt, if◌then◌else◌, Some}
use Rattle.std.specs.Prelude.{List, [], ◌∷◌, ◌++◌, length, slice_index, slice_get}
use Rattle.std.specs.List.{AllByRecursion}
use mathlib.Core.Option.{some}
use lib.ListN.{get_elem?}
use Rattle.atomic_table.specs.Table.{State}
use Rattle.bip_model.specs.Grants.{IsHistory, used_by}
use Rattle.bip_model.specs.Wants.{moved_in}
use Rattle.bip_model.specs.declared.grants.Grant.{Grant}
use Rattle.bip_model.specs.declared.numbering.CompId.{CompId}
use Rattle.bip_model.specs.declared.messages.Request.{Request}
use Rattle.bip_words.specs.Knowledge.{asked_by, claims_on, grants_at, no_request}
use Rattle.bip_words.specs.Rows.{IsRowOf, IsRows, floor_of, row_comps}
use Rattle.bip_words.specs.declared.knowledge.Claim.{Claim}
use Rattle.bip_words.specs.declared.knowledge.Knowledge.{Knowledge}
use Rattle.bip_words.specs.declared.knowledge.Note.{Note}

-- the word of row r
abbrev pub row_word : List ℕ → ℕ → ℕ
row_word words r = slice_index words (suc r)

-- the opening number of row r, of so many
abbrev pub opening_word : List ℕ → ℕ → ℕ → ℕ
opening_word words rows r = slice_index words (suc (rows + r))

-- a number of each view, added up
abbrev pub total : (Knowledge → ℕ) → List Knowledge → ℕ
total f [] = 0
total f (v ∷ vs) = f v + total f vs

abbrev pub claims_of : ℕ → Knowledge → ℕ
claims_of r v = claims_on r v.claims

-- a claim stands in its row's word, with its number
abbrev pub IsClaimIn : ℕ → List ℕ → Claim → Type 0
IsClaimIn rows words c = (c.row < rows) × (row_word words c.row ≡ 2 * c.used + 1)

-- no row is below what was seen of it
abbrev pub IsSeenIn : List ℕ → Note → Type 0
IsSeenIn words n = n.word / 2 ≤ row_word words n.row / 2

-- the ticket isn't below what it was when grants were counted
abbrev pub IsCountedIn : List ℕ → ℕ → Type 0
IsCountedIn words n = n ≤ slice_index words 0

abbrev pub IsKnownIn : ℕ → List ℕ → Knowledge → Type 0
IsKnownIn rows words v =
    AllByRecursion (IsClaimIn rows words) v.claims × AllByRecursion (IsSeenIn words) v.notes
    × AllByRecursion (IsCountedIn words) v.counts

-- the grant of the first pair with serial k
abbrev pub grant_with : ℕ → List (ℕ × Grant) → Grant
grant_with k [] = asked_by no_request
grant_with k (p ∷ ps) = if p.0 == k then p.1 else grant_with k ps

-- so many grants by serial, from serial k on
abbrev pub from_serial : ℕ → ℕ → List (ℕ × Grant) → List Grant
from_serial k zero ps = []
from_serial k (suc n) ps = grant_with k ps ∷ from_serial (suc k) n ps

-- as many places as there are pairs; place k has the grant of the first pair with serial k
abbrev pub by_order : List (ℕ × Grant) → List Grant
by_order ps = from_serial 0 (length ps) ps

-- the grants of all views, each with its serial
abbrev pub all_grants : List Knowledge → List (ℕ × Grant)
all_grants [] = []
all_grants (v ∷ vs) = v.grants ++ all_grants vs

-- a grant stands at its serial
abbrev pub IsPlaced : List Grant → ℕ × Grant → Type 0
IsPlaced log p = slice_get log p.0 ≡ Some p.1

abbrev pub IsNotDue : Claim → Type 0
IsNotDue c = c.due ≡ false

abbrev pub IsDue : Claim → Type 0
IsDue c = c.due ≡ true

-- the log but for the grant with serial k
abbrev pub but_serial : ℕ → List Grant → List Grant
but_serial k [] = []
but_serial zero (g ∷ gs) = gs
but_serial (suc k) (g ∷ gs) = g ∷ but_serial k gs

-- the claim's number is the used one
abbrev pub IsUsedBy : List ℕ → (ℕ → ℕ) → List Grant → Claim → Type 0
IsUsedBy comps floor log x = (c : ℕ) → IsRowOf comps x.row c → used_by floor log c ≡ x.used

-- nothing is due; or all claims are, the view's newest grant is in flight, and the claims' numbers
-- are those that the other grants explain
abbrev pub FliesAlone : List ℕ → (ℕ → ℕ) → List Grant → Knowledge → Type 0
FliesAlone comps floor log v =
    AllByRecursion IsNotDue v.claims
    ⊎ ((p : ℕ × Grant) × (rest : List (ℕ × Grant)) × (v.grants ≡ p ∷ rest)
    × AllByRecursion IsDue v.claims × (p.0 < length log)
    × AllByRecursion (IsUsedBy comps floor (but_serial p.0 log)) v.claims)

-- what the claims on row r owe it, where n is the number with which the grant moves it
abbrev pub owed_on : ℕ → ℕ → List Claim → ℕ
owed_on r n [] = 0
owed_on r n (c ∷ cs) = (if (c.row == r) && c.due then n else 0) + owed_on r n cs

-- what a view owes to row r, which is of component c
abbrev pub owed_of : ℕ → ℕ → Knowledge → ℕ
owed_of r c v = owed_on r (moved_in v.asked.wants c) v.claims

-- numbers of components, added up
abbrev pub weight : (ℕ → ℕ) → List ℕ → ℕ
weight f [] = 0
weight f (c ∷ cs) = f c + weight f cs

-- all grants, in the order of their serials
abbrev pub log_of : State Request Knowledge → List Grant
log_of s = by_order (all_grants s.views)

-- the rule, by the rows with their opening numbers
pub record IsKept (rows : List (CompId × ℕ)) (s : State Request Knowledge) : Type 0 where
  -- the ticket, a word of each row, and each row's opening number, which no step writes
  pub valid : IsRows rows
  pub size : length s.words ≡ suc (length rows + length rows)
  pub opening : (r c : ℕ) → IsRowOf (row_comps rows) r c
      → opening_word s.words (length rows) r ≡ floor_of rows c
  -- the serials in all views are the numbers below the ticket, each once
  pub count : length (all_grants s.views) ≡ slice_index s.words 0
  pub serials : (k : ℕ)
      → grants_at k (all_grants s.views) ≡ (if nat_lt k (slice_index s.words 0) then 1 else 0)
  pub history : IsHistory (floor_of rows) (log_of s)
  -- a row has as many claims as its word says, with its number; no row is below what was seen, and
  -- the ticket not below what was counted
  pub claims : (r : ℕ) → r < length rows → total (claims_of r) s.views ≡ row_word s.words r % 2
  pub known : (j : ℕ) (v : Knowledge) → get_elem? s.views j ≡ some v
      → IsKnownIn (length rows) s.words v
  -- a row's number is the used one, but for what a grant in flight owes it
  pub used : (r c : ℕ) → IsRowOf (row_comps rows) r c
      → used_by (floor_of rows) (log_of s) c
      ≡ max (row_word s.words r / 2) (total (owed_of r c) s.views)
  -- where a call has its ticket, its claims' numbers are those that all other grants explain
  pub flight : (j : ℕ) (v : Knowledge) → get_elem? s.views j ≡ some v
      → FliesAlone (row_comps rows) (floor_of rows) (log_of s) v
  -- each grant stands at its serial
  pub in_order : (j : ℕ) (v : Knowledge) → get_elem? s.views j ≡ some v
      → AllByRecursion (IsPlaced (log_of s)) v.grants
  -- each grant raised a row, and numbers are small, so the ticket never wraps
  pub small : (r c : ℕ) → IsRowOf (row_comps rows) r c
      → used_by (floor_of rows) (log_of s) c < 2 ^ 58
  pub rises : length (log_of s) + weight (floor_of rows) (row_comps rows)
      ≤ weight (used_by (floor_of rows) (log_of s)) (row_comps rows)
