-- What each kind of step tells its seat: of the step, what the seat knew, the number found (at a
-- store, the one stored), and what it knows then.
use Rattle.std.specs.Prelude.{◌≡◌, ◌≢◌, ◌⊎◌, ℕ, pred, ◌/◌, ◌<◌, ◌≤◌, ◌^◌, Bool, true, false}
use Rattle.std.specs.Prelude.{if◌then◌else◌, List, [], ◌∷◌, map, length}
use Rattle.std.specs.List.{AllByRecursion}
use mathlib.Core.Option.{some}
use Rattle.atomic_table.specs.Table.{Me, Step}
use Rattle.bip_model.specs.declared.grants.Grant.{Grant}
use Rattle.bip_model.specs.declared.wants.Want.{Want}
use Rattle.bip_words.specs.declared.knowledge.Learned.{Learned}
use Rattle.bip_words.specs.declared.knowledge.Learned.TheVariants.{Look, Changed, Wrote}
use Rattle.bip_model.specs.declared.messages.Request.{Request}
use Rattle.bip_words.specs.Knowledge.{asked_by, claim, claims_on, knows, nobody, note, with_note}
use Rattle.bip_words.specs.Rows.{IsRowOf}
use Rattle.bip_words.specs.declared.knowledge.Claim.{Claim}
use Rattle.bip_words.specs.declared.knowledge.Knowledge.{Knowledge}
use Rattle.bip_words.specs.declared.knowledge.Note.{Note}

-- what the seat knows, with the slots that it holds, which are none
abbrev pub Mine : Type 0
Mine = Me Request Knowledge

-- the row whose word it is
abbrev pub row_of : Step Request → ℕ
row_of s = pred s.word

-- nothing above this was seen of the row
abbrev pub IsSeenMost : ℕ → ℕ → Note → Type 0
IsSeenMost row word n = n.row ≡ row → n.word / 2 ≤ word / 2

-- a word that was found in a row is noted
abbrev pub with_found : Learned → ℕ → ℕ → Knowledge → Knowledge
with_found learned row word v =
    with_note (note row word (claims_on row v.claims) learned) v

-- a look
abbrev pub Looks : Step Request → Mine → ℕ → Mine → Type 0
Looks s m n w =
    (w ≡ (with_found Look (row_of s) n m.0, m.1))
    × AllByRecursion (IsSeenMost (row_of s) n) m.0.notes

-- a row is claimed, with the number of its word, for what is announced
abbrev pub with_claim : ℕ → ℕ → Request → Knowledge → Knowledge
with_claim row word q v =
    knows (claim row (word / 2) false ∷ v.claims) v.notes q v.grants v.counts

-- a claim: the exchange found the word, and the row is claimed; or it found another one, which is
-- noted
abbrev pub Claims : Step Request → Mine → ℕ → Mine → Type 0
Claims s m n w =
    (n ≡ s.first → (q : Request) → s.said ≡ some q → w ≡ (with_claim (row_of s) n q m.0, m.1))
    × (n ≢ s.first → w ≡ (with_found Changed (row_of s) n m.0, m.1))

-- all claims are due
abbrev pub all_due : List Claim → List Claim
all_due cs = map (λ c. claim c.row c.used true) cs

-- what is asked for is granted, with this serial
abbrev pub with_ticket : ℕ → Knowledge → Knowledge
with_ticket serial v =
    knows (all_due v.claims) v.notes v.asked ((serial, asked_by v.asked) ∷ v.grants) v.counts

abbrev pub IsBelow : ℕ → ℕ × Grant → Type 0
IsBelow n p = p.0 < n

-- the ticket: the grant has its serial, which is above all others of the seat
abbrev pub Draws : Step Request → Mine → ℕ → Mine → Type 0
Draws s m n w =
    (w ≡ (with_ticket n m.0, m.1))
    × AllByRecursion (IsBelow n) m.0.grants × (length m.0.grants ≤ n) × (n ≤ 2 ^ 63)

abbrev pub owing : Bool → ℕ → ℕ
owing due n = if due then n else 0

abbrev pub rest_of : List Claim → List Claim
rest_of [] = []
rest_of (c ∷ cs) = cs

-- the claim made last is given up, and a word was written in its row
abbrev pub with_row_back : ℕ → ℕ → Knowledge → Knowledge
with_row_back row word v =
    knows (rest_of v.claims) (note row word (claims_on row v.claims) Wrote ∷ v.notes) v.asked
    v.grants v.counts

-- commit and release
abbrev pub IsGivenBack : Step Request → Mine → ℕ → Mine → Type 0
IsGivenBack s m n w = w ≡ (with_row_back (row_of s) n m.0, m.1)

-- the grants are counted, which are so many
abbrev pub with_count : ℕ → Knowledge → Knowledge
with_count n v = knows v.claims v.notes v.asked v.grants (n ∷ v.counts)

-- a count: the ticket is noted, and the seat has no more grants than it says
abbrev pub Counts : Step Request → Mine → ℕ → Mine → Type 0
Counts s m n w = (w ≡ (with_count n m.0, m.1)) × (length m.0.grants ≤ n)

-- a seat opens
abbrev pub OpensSeat : Step Request → Mine → ℕ → Mine → Type 0
OpensSeat s m n w = w ≡ (nobody, [])

-- a want whose row is claimed, with a number below the want's
abbrev pub IsCovered : List ℕ → List Claim → Want → Type 0
IsCovered comps [] w = ⊥
IsCovered comps (c ∷ cs) w =
    (IsRowOf comps c.row w.comp.0 × (c.used < w.number)) ⊎ IsCovered comps cs w

abbrev pub IsSmall : Want → Type 0
IsSmall w = w.number < 2 ^ 58
