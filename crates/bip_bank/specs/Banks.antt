-- The content of a bank, and what its calls make of it.
use Rattle.std.specs.Prelude.{◌≡◌, ℕ, ⊤, List, [], ◌∷◌, ◌++◌, slice_index_or, if◌then◌else◌}
use Rattle.std.specs.Prelude.{Some, length, slice_get}
use Rattle.bip_model.specs.Numbering.{put}
use Rattle.bip_model.specs.Priorities.{inter}
use Rattle.bip_model.specs.Wants.{IsFresh, raised}
use Rattle.bip_model.specs.declared.grants.Grant.{Grant}
use Rattle.bip_model.specs.declared.messages.Request.{Request}
use Rattle.bip_model.specs.declared.numbering.InterId.{InterId}
use Rattle.bip_partition.specs.Plans.{AreStations, Planned}
use Rattle.bip_table.specs.Reservations.{IsDecision, end_of_serials, grant_of}
use Rattle.bip_table.specs.Rows.{has_row, used_at}
use Rattle.bip_table.specs.declared.reservations.Decision.TheVariants.{Granted, Refused}
use Rattle.bip_table.specs.declared.reservations.Decision.{Decision}
use Rattle.bip_table.specs.declared.rows.Row.{Row}
use Rattle.bip_bank.specs.declared.banks.Acted.TheVariants.{Answered, Moved, Nothing}
use Rattle.bip_bank.specs.declared.banks.Acted.{Acted}
use Rattle.bip_bank.specs.declared.banks.BankStep.TheVariants.{Serve}
use Rattle.bip_bank.specs.declared.banks.BankStep.{BankStep}
use Rattle.bip_bank.specs.Sharing.{LacksNothing, MovesNothingShared, MovesShared, Sharing}
use Rattle.bip_bank.specs.Sharing.{StaysShared}

-- the content of a bank: its plan and base, which stay; the used number of each component, the
-- grants in order of decision, and the open requests of each interaction, the oldest first; and
-- what its stations share
pub record BankContent : Type 0 where
  pub plan : Planned
  pub base : ℕ
  pub used : ℕ → ℕ
  pub grants : List Grant
  pub waiting : ℕ → List Request
  pub sharing : Sharing

-- what is kept of it: used numbers as rows, and open requests interaction by interaction
pub record KeptBank : Type 0 where
  pub plan : Planned
  pub base : ℕ
  pub rows : List Row
  pub grants : List Grant
  pub waiting : List (List Request)
  pub sharing : Sharing

-- the used numbers that rows give above a base, which is that of a component without a row
abbrev pub used_above : ℕ → List Row → ℕ → ℕ
used_above base rows c = if has_row rows c then used_at rows c else base

-- a bank's content by what is kept
abbrev pub content_of : KeptBank → BankContent
content_of b =
    record {
      plan = b.plan;
      base = b.base;
      used = used_above b.base b.rows;
      grants = b.grants;
      waiting = λ a. slice_index_or b.waiting a [];
      sharing = b.sharing;
    }

-- the content of a bank that was asked nothing yet
abbrev pub asked_nothing : Planned → ℕ → Sharing → BankContent
asked_nothing p base sharing =
    record {
      plan = p;
      base = base;
      used = λ c. base;
      grants = [];
      waiting = λ a. [];
      sharing = sharing;
    }

-- with one more open request, the newest of its interaction
abbrev pub with_request : Request → BankContent → BankContent
with_request q b =
    record b { waiting = put b.waiting q.inter.0 (b.waiting q.inter.0 ++ q ∷ []) }

-- with what a decision on a request changes of numbers and grants: a grant is the last one, and its
-- moved numbers are used; a refusal changes nothing of them
abbrev pub with_decision : Request → Decision → BankContent → BankContent
with_decision q (Granted serial) b =
    record b { used = raised b.used q.wants; grants = b.grants ++ grant_of q ∷ [] }
with_decision q (Refused c n) b = b

-- a decision on a request is ended: it would be granted, and no serial is left
abbrev pub IsEnded : BankContent → Request → Type 0
IsEnded b q = IsFresh b.used q.wants × (length b.grants ≡ end_of_serials)

-- a station decides for an interaction
pub record IsStationOf (p : Planned) (s a : ℕ) : Type 0 where
  pub stations : List InterId
  pub listed : AreStations p stations
  pub here : slice_get stations s ≡ Some (inter a)

-- the oldest open request of an interaction was decided by the used numbers, and is open no more
pub record IsDecided (q : Request) (d : Decision) (b later : BankContent) : Type 0 where
  pub rest : List Request
  pub oldest : b.waiting q.inter.0 ≡ q ∷ rest
  pub decision : IsDecision b.used q.wants d
  pub left : ¬ IsEnded b q
  pub sharing : StaysShared (λ s. IsStationOf b.plan s q.inter.0) b.sharing later.sharing
  pub after : later
      ≡ record (with_decision q d b) {
        waiting = put b.waiting q.inter.0 rest;
        sharing = later.sharing;
      }

-- what a step leaves, by what it did: only a decision changes numbers, grants and open requests,
-- and what does nothing changes nothing at all
abbrev pub IsActed : Acted → BankContent → BankContent → Type 0
IsActed Nothing b later = later ≡ b
IsActed Moved b later = later ≡ record b { sharing = later.sharing }
IsActed (Answered q d) b later = IsDecided q d b later

-- the interaction of a station has an open request, of which this is the oldest
pub record HasOldest (b : BankContent) (s : ℕ) : Type 0 where
  pub number : ℕ
  pub request : Request
  pub rest : List Request
  pub station : IsStationOf b.plan s number
  pub first : b.waiting number ≡ request ∷ rest

-- a station can decide: it lacks nothing, its interaction has an open request, and the decision on
-- the oldest one isn't ended
pub record CanDecide (b : BankContent) (s : ℕ) : Type 0 where
  pub complete : LacksNothing b.sharing s
  pub oldest : HasOldest b s
  pub left : ¬ IsEnded b oldest.request

-- what a step, not one that serves, moves of what stations share; and that it moves nothing
abbrev pub Moves : BankContent → BankStep → Sharing → Type 0
Moves b step later = MovesShared (HasOldest b) b.sharing step later

abbrev pub MovesNothing : BankContent → BankStep → Type 0
MovesNothing b step = MovesNothingShared (HasOldest b) b.sharing step

-- what a step does, and leaves of what stations share: a station that can decide does, for its
-- interaction, and one that can't does nothing; no other step decides, and it does nothing just
-- where it moves nothing of what stations share
abbrev pub DoesStep : BankContent → BankStep → Acted → BankContent → Type 0
DoesStep b (Serve s) Nothing later = ¬ CanDecide b s.0
DoesStep b (Serve s) Moved later = ⊥
DoesStep b (Serve s) (Answered q d) later =
    LacksNothing b.sharing s.0 × IsStationOf b.plan s.0 q.inter.0
DoesStep b step Nothing later = MovesNothing b step
DoesStep b step Moved later = Moves b step later.sharing
DoesStep b step (Answered q d) later = ⊥

-- want of memory can stand in place of what a step does: of a decision, where the station that is
-- served lacks nothing and has an open request; of another step, where it moves something
abbrev pub CanWantMemory : BankContent → BankStep → Type 0
CanWantMemory b (Serve s) = LacksNothing b.sharing s.0 × HasOldest b s.0
CanWantMemory b step = (later : Sharing) × Moves b step later

-- at a bank with one list of grants, want of memory stands only in place of a grant
abbrev pub WantsMemory : BankContent → BankStep → Type 0
WantsMemory b (Serve s) = (can : CanDecide b s.0) × IsFresh b.used can.oldest.request.wants
WantsMemory b step = ⊥

-- and a grant's serial is the number of the grants before it
abbrev pub HasNextSerial : BankContent → Acted → Type 0
HasNextSerial b (Answered q (Granted serial)) = serial ≡ length b.grants
HasNextSerial b did = ⊤
