-- What a seat knows: its claims, what it saw, what it asked for last, its grants with their
-- serials, and how many grants there were when it counted them.
use Rattle.std.specs.Prelude.{ℕ, ◌+◌, ◌/◌, max, Bool, true, false, ◌==◌, if◌then◌else◌}
use Rattle.std.specs.Prelude.{List, [], ◌∷◌, ◌++◌}
use Rattle.bip_model.specs.declared.grants.Grant.{Grant}
use Rattle.bip_model.specs.declared.messages.Request.{Request}
use Rattle.bip_words.specs.declared.knowledge.Learned.TheVariants.{Look, Changed, Wrote}
use Rattle.bip_words.specs.declared.knowledge.Claim.{Claim}
use Rattle.bip_words.specs.declared.knowledge.Learned.{Learned}
use Rattle.bip_words.specs.declared.knowledge.Knowledge.{Knowledge}
use Rattle.bip_words.specs.declared.knowledge.Note.{Note}

-- asks for nothing
abbrev pub no_request : Request
no_request =
    record {
      wants = [];
      reasons = [];
      request = 0;
      class = record { 0 = 0 };
      inter = record { 0 = 0 };
    }

-- the grant of a request
abbrev pub asked_by : Request → Grant
asked_by q = record { inter = q.inter; wants = q.wants }

abbrev pub knows : List Claim → List Note → Request → List (ℕ × Grant) → List ℕ → Knowledge
knows claims notes asked grants counts = record {
  claims = claims;
  notes = notes;
  asked = asked;
  grants = grants;
  counts = counts;
}

-- a seat that knows what was counted, and has done nothing yet
abbrev pub that_counted : List ℕ → Knowledge
that_counted counts = knows [] [] no_request [] counts

-- a seat that has done nothing yet
abbrev pub nobody : Knowledge
nobody = that_counted []

abbrev pub claim : ℕ → ℕ → Bool → Claim
claim row used due = record { row = row; used = used; due = due }

abbrev pub note : ℕ → ℕ → ℕ → Learned → Note
note row word own learned =
    record { row = row; word = word; own = own; learned = learned }

-- with one note more
abbrev pub with_note : Note → Knowledge → Knowledge
with_note n v = knows v.claims (n ∷ v.notes) v.asked v.grants v.counts

-- how many of the claims are on row r
abbrev pub claims_on : ℕ → List Claim → ℕ
claims_on r [] = 0
claims_on r (c ∷ cs) = (if c.row == r then 1 else 0) + claims_on r cs

-- the greatest number that notes have of row r; 0 where they have none
abbrev pub seen_in : ℕ → List Note → ℕ
seen_in r [] = 0
seen_in r (n ∷ ns) = max (if n.row == r then n.word / 2 else 0) (seen_in r ns)

abbrev pub is_look : Learned → Bool
is_look Look = true
is_look Changed = false
is_look Wrote = false

abbrev pub is_changed : Learned → Bool
is_changed Look = false
is_changed Changed = true
is_changed Wrote = false

-- how many looks were at row r
abbrev pub look_count : ℕ → List Note → ℕ
look_count r [] = 0
look_count r (n ∷ ns) =
    (if n.row == r then (if is_look n.learned then 1 else 0) else 0) + look_count r ns

-- how many exchanges found another word
abbrev pub change_count : List Note → ℕ
change_count [] = 0
change_count (n ∷ ns) = (if is_changed n.learned then 1 else 0) + change_count ns

-- how many of the grants have serial k
abbrev pub grants_at : ℕ → List (ℕ × Grant) → ℕ
grants_at k [] = 0
grants_at k (p ∷ ps) = (if p.0 == k then 1 else 0) + grants_at k ps

-- what a seat knows that takes over what another one saw, and its grants
abbrev pub both_of : Knowledge → Knowledge → Knowledge
both_of v w = knows v.claims (w.notes ++ v.notes) v.asked (w.grants ++ v.grants) v.counts
