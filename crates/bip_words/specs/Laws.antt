-- What the rule of a word table says of its words and of what its seats know.
use Rattle.std.specs.Prelude.{◌≡◌, ℕ, ◌+◌, ◌*◌, ◌%◌, ◌/◌, ◌<◌, ◌≤◌, Bool, true, false, nat_lt}
use Rattle.std.specs.Prelude.{if◌then◌else◌, List, [], ◌∷◌, slice_index}
use mathlib.Core.Option.{some}
use lib.ListN.{get_elem?}
use Rattle.atomic_table.specs.Table.{State}
use Rattle.std.specs.List.{AllByRecursion}
use Rattle.bip_model.specs.Grants.{IsHistory, used_by}
use Rattle.bip_model.specs.declared.grants.Grant.{Grant}
use Rattle.bip_model.specs.declared.numbering.CompId.{CompId}
use Rattle.bip_model.specs.declared.messages.Request.{Request}
use Rattle.bip_words.specs.Knowledge.{claims_on, grants_at, seen_in}
use Rattle.bip_words.specs.Rows.{IsRowOf, floor_of, row_comps}
use Rattle.bip_words.specs.Rule.{IsKept, all_grants, but_serial, claims_of, log_of, row_word, total}
use Rattle.bip_words.specs.declared.knowledge.Claim.{Claim}
use Rattle.bip_words.specs.declared.knowledge.Knowledge.{Knowledge}

-- whether a call has drawn its ticket, and hasn't written all rows yet
abbrev pub is_drawn : List Claim → Bool
is_drawn [] = false
is_drawn (c ∷ cs) = c.due

-- the log but for the first of some grants, where it is in flight
abbrev pub but_first : Bool → List (ℕ × Grant) → List Grant → List Grant
but_first true [] log = log
but_first true (p ∷ ps) log = but_serial p.0 log
but_first false ps log = log

-- the log but for a seat's own grant in flight
abbrev pub others_log : Knowledge → List Grant → List Grant
others_log v log = but_first (is_drawn v.claims) v.grants log

-- what the rule says: the serials of all views are those below the ticket, each once; the grants in
-- that order are a history above the opening numbers; an even word has no claim, and its half is
-- the used number; an odd one has one claim; where a seat has it, the word is that of the number
-- that all grants explain but the seat's own in flight; no row is below what was seen of it; and
-- the ticket isn't below any count of grants
pub record WordsSay (rows : List (CompId × ℕ)) (s : State Request Knowledge) : Type 0 where
  pub serials : (k : ℕ)
      → grants_at k (all_grants s.views) ≡ (if nat_lt k (slice_index s.words 0) then 1 else 0)
  pub history : IsHistory (floor_of rows) (log_of s)
  pub even : (r c : ℕ) → IsRowOf (row_comps rows) r c → row_word s.words r % 2 ≡ 0
      → (total (claims_of r) s.views ≡ 0)
      × (row_word s.words r ≡ 2 * used_by (floor_of rows) (log_of s) c)
  pub odd : (r c : ℕ) → IsRowOf (row_comps rows) r c → row_word s.words r % 2 ≡ 1
      → total (claims_of r) s.views ≡ 1
  pub claimer : (r c j : ℕ) (v : Knowledge) → IsRowOf (row_comps rows) r c
      → get_elem? s.views j ≡ some v → 0 < claims_on r v.claims
      → row_word s.words r ≡ 2 * used_by (floor_of rows) (others_log v (log_of s)) c + 1
  pub seen : (r j : ℕ) (v : Knowledge) → get_elem? s.views j ≡ some v
      → seen_in r v.notes ≤ row_word s.words r / 2
  pub counted : (j : ℕ) (v : Knowledge) → get_elem? s.views j ≡ some v
      → AllByRecursion (λ n. n ≤ slice_index s.words 0) v.counts

abbrev pub RuleSays : Type 0
RuleSays =
    (rows : List (CompId × ℕ)) (s : State Request Knowledge) → IsKept rows s → WordsSay rows s
