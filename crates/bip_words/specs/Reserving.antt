-- What an attempt to reserve comes to.
use Rattle.std.specs.Prelude.{◌≡◌, ◌≢◌, ◌⊎◌, ℕ, ◌+◌, ◌*◌, ◌%◌, ◌<◌, ◌≤◌, ◌^◌, Bool, true, false}
use Rattle.std.specs.Prelude.{◌==◌, if◌then◌else◌, List, [], ◌∷◌, ◌++◌, length, Any}
use Rattle.std.specs.List.{AllByRecursion}
use Rattle.bip_model.specs.Numbering.{IsLowest}
use Rattle.bip_model.specs.Wants.{is_moved}
use Rattle.bip_model.specs.declared.grants.Grant.{Grant}
use Rattle.bip_model.specs.declared.numbering.CompId.{CompId}
use Rattle.bip_model.specs.declared.wants.Want.{Want}
use Rattle.bip_words.specs.declared.knowledge.Learned.TheVariants.{Look, Changed}
use Rattle.bip_words.specs.declared.tables.Attempt.TheVariants.{Granted, Used, Busy, Unknown}
use Rattle.bip_words.specs.Knowledge.{change_count, claims_on, look_count, note, seen_in}
use Rattle.bip_words.specs.Rows.{HasRow, IsRowOf, WantsWithoutRow, row_comps, wanted_at}
use Rattle.bip_words.specs.Steps.{IsBelow, IsCovered, all_due, owing}
use Rattle.bip_words.specs.declared.knowledge.Claim.{Claim}
use Rattle.bip_words.specs.declared.knowledge.Knowledge.{Knowledge}
use Rattle.bip_words.specs.declared.knowledge.Note.{Note}
use Rattle.bip_words.specs.declared.tables.Attempt.{Attempt}

-- a call noted this, among other things
abbrev pub Noted : Note → Knowledge → Knowledge → Type 0
Noted n old new = (newer older : List Note) × (new.notes ≡ newer ++ n ∷ (older ++ old.notes))

-- a call looked at a row and found a word, and its exchange right behind found another one
abbrev pub NotedChange : ℕ → ℕ → ℕ → Knowledge → Knowledge → Type 0
NotedChange r word found old new =
    (newer older : List Note)
    × (new.notes ≡ newer ++ note r found 0 Changed ∷ note r word 0 Look ∷ (older ++ old.notes))

abbrev pub IsWantedBelow : ℕ → ℕ → Want → Type 0
IsWantedBelow c u w = (w.comp.0 ≡ c) × (w.number ≤ u)

-- a look of this call found the number in a row without a claim; it isn't below the want's, nor
-- below what the seat had seen of that row
abbrev pub FoundUsed : List ℕ → List Want → ℕ → ℕ → Knowledge → Knowledge → Type 0
FoundUsed comps wants c u old new =
    (r : ℕ) × IsRowOf comps r c × Any (IsWantedBelow c u) wants
    × Noted (note r (2 * u) 0 Look) old new × (seen_in r old.notes ≤ u)

-- a look of this call found a claim on a row on which the seat itself had none, or its exchange
-- found another word than the look before it
abbrev pub FoundBusy : List ℕ → ℕ → Knowledge → Knowledge → Type 0
FoundBusy comps c old new =
    (r : ℕ) × IsRowOf comps r c
    × (((word : ℕ) × (word % 2 ≡ 1) × Noted (note r word 0 Look) old new)
    ⊎ ((word found : ℕ) × (found ≢ word) × NotedChange r word found old new))

-- what the answer says of a call that got as far as to look
abbrev pub Answered : List ℕ → Grant → Attempt → Knowledge → Knowledge → Type 0
Answered comps g (Granted serial) old new =
    (new.grants ≡ (serial, g) ∷ old.grants) × AllByRecursion (IsBelow serial) old.grants
    × (serial ≤ 2 ^ 63) × (length old.grants ≤ serial)
Answered comps g (Used c u) old new =
    (new.grants ≡ old.grants) × FoundUsed comps g.wants c.0 u old new
Answered comps g (Busy c) old new = (new.grants ≡ old.grants) × FoundBusy comps c.0 old new
Answered comps g (Unknown c) old new = ⊥

-- a want's row was written: with the number that it moves the row to, where it does
abbrev pub HasWrittenRow : List ℕ → List Note → Want → Type 0
HasWrittenRow comps notes w =
    (r : ℕ) × IsRowOf comps r w.comp.0 × (owing (is_moved w.role) w.number ≤ seen_in r notes)

-- what an answer says. Unknown names the lowest wanted component without a row, and no step was
-- made; all others come where each has one. Where it is granted, the numbers that the grant moves
-- rows to are seen then
abbrev pub IsAttempt : List (CompId × ℕ) → Grant → Attempt → Knowledge → Knowledge → Type 0
IsAttempt rows g (Unknown c) old new = (new ≡ old) × IsLowest (WantsWithoutRow rows g.wants) c.0
IsAttempt rows g (Used c u) old new =
    AllByRecursion (HasRow (row_comps rows)) g.wants
    × Answered (row_comps rows) g (Used c u) old new
IsAttempt rows g (Busy c) old new =
    AllByRecursion (HasRow (row_comps rows)) g.wants × Answered (row_comps rows) g (Busy c) old new
IsAttempt rows g (Granted serial) old new =
    AllByRecursion (HasWrittenRow (row_comps rows) new.notes) g.wants
    × Answered (row_comps rows) g (Granted serial) old new

abbrev pub is_granted : Attempt → Bool
is_granted (Granted serial) = true
is_granted (Used c u) = false
is_granted (Busy c) = false
is_granted (Unknown c) = false

abbrev pub is_busy : Attempt → Bool
is_busy (Granted serial) = false
is_busy (Used c u) = false
is_busy (Busy c) = true
is_busy (Unknown c) = false

-- the wants up to that of component c
abbrev pub up_to : ℕ → List Want → List Want
up_to c [] = []
up_to c (w ∷ ws) = w ∷ (if w.comp.0 == c then [] else up_to c ws)

-- the wants whose rows a call looks at: all where it is granted, else up to that at which it ends
abbrev pub tried_wants : Attempt → List Want → List Want
tried_wants (Granted serial) ws = ws
tried_wants (Used c u) ws = up_to c.0 ws
tried_wants (Busy c) ws = up_to c.0 ws
tried_wants (Unknown c) ws = []

-- a row was looked at as often at most as a tried want is of it, which is once at most; an exchange
-- that found another word ended the call; and what was known of rows is kept
pub record TriedOnce (cs : List ℕ) (ws : List Want) (a : Attempt) (v w : Knowledge) : Type 0 where
  pub looks : (r : ℕ)
      → look_count r w.notes ≤ wanted_at cs r (tried_wants a ws) + look_count r v.notes
  pub changes : change_count w.notes ≤ (if is_busy a then 1 else 0) + change_count v.notes
  pub keeps : (made : List Note) × (w.notes ≡ made ++ v.notes)

-- a look of this call found the want's row without a claim, with a number below the want's
abbrev pub FoundFresh : List ℕ → Knowledge → Knowledge → Want → Type 0
FoundFresh comps old new w =
    (r u : ℕ) × IsRowOf comps r w.comp.0 × (u < w.number) × Noted (note r (2 * u) 0 Look) old new

abbrev pub FoundFreshBelow : List ℕ → ℕ → Knowledge → Knowledge → Want → Type 0
FoundFreshBelow comps c old new w = w.comp.0 < c → FoundFresh comps old new w

-- wants are looked at by component: where the call is refused at one, those of lower components
-- were found fresh before; where it is granted, all were
abbrev pub LookedInOrder : List ℕ → List Want → Attempt → Knowledge → Knowledge → Type 0
LookedInOrder comps ws (Granted serial) old new = AllByRecursion (FoundFresh comps old new) ws
LookedInOrder comps ws (Used c u) old new = AllByRecursion (FoundFreshBelow comps c.0 old new) ws
LookedInOrder comps ws (Busy c) old new = AllByRecursion (FoundFreshBelow comps c.0 old new) ws
LookedInOrder comps ws (Unknown c) old new = Unit {0}

-- What contracts of private functions say.

-- where it is refused, it is at one of these wants
abbrev pub IsRefusedIn : Attempt → List Want → Type 0
IsRefusedIn (Granted serial) ws = Unit {0}
IsRefusedIn (Used c u) ws = Any (λ w. w.comp.0 ≡ c.0) ws
IsRefusedIn (Busy c) ws = Any (λ w. w.comp.0 ≡ c.0) ws
IsRefusedIn (Unknown c) ws = ⊥

-- the wants before the rest are covered by claims
abbrev pub Covers : List ℕ → List Claim → List Want → List Want → Type 0
Covers comps cs wants rest =
    (done : List Want) × (wants ≡ done ++ rest) × AllByRecursion (IsCovered comps cs) done

-- the rows of wants have no claim of these
abbrev pub IsFree : List ℕ → List Claim → Want → Type 0
IsFree comps cs w = (r : ℕ) → IsRowOf comps r w.comp.0 → claims_on r cs ≡ 0

-- the claims that are left while a call goes back
abbrev pub claims_after : Attempt → List Claim → List Claim
claims_after (Granted serial) cs = all_due cs
claims_after (Used c u) cs = cs
claims_after (Busy c) cs = cs
claims_after (Unknown c) cs = cs

abbrev pub IsGrantedWith : Attempt → Type 0 → Type 0
IsGrantedWith (Granted serial) P = P
IsGrantedWith (Used c u) P = Unit {0}
IsGrantedWith (Busy c) P = Unit {0}
IsGrantedWith (Unknown c) P = Unit {0}
