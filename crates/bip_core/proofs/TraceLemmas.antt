-- The trace of a world, by its own list of grants and the bank's.
use Rattle.std.proofs.Common.{◌≡◌, ℕ, ◌+◌, ◌-◌, ◌<◌, ◌≤◌, List, [], ◌∷◌, ◌++◌, Option, None, Some}
use Rattle.std.proofs.Common.{inl, inr, length, refl, ap, arith}
use Rattle.std.proofs.lemmas.Bool.{cases_lt, le-ltb, lt-ltb}
use Rattle.std.proofs.lemmas.List.{length-append}
use Rattle.bip_model.specs.declared.grants.Grant.{Grant}
use Rattle.bip_bank.specs.Banks.{BankContent, IsActed}
use Rattle.bip_bank.specs.Decisions.Decision.TheVariants as decision
use Rattle.bip_bank.specs.declared.banks.Acted.{Acted}
use Rattle.bip_bank.specs.declared.banks.Acted.TheVariants as acted
use Rattle.bip_core.specs.Events.{grant_acted, trace_with}
use Rattle.bip_core.specs.Traces.{own_with, trace_by}

-- by which list is longer
pub own_trace : (own granted : List Grant) → length granted < length own
    → trace_by own granted ≡ own
unfolding trace_by
own_trace own granted longer = rw (lt-ltb (length granted) (length own) longer) refl

pub bank_trace : (own granted : List Grant) → length own ≤ length granted
    → trace_by own granted ≡ granted
unfolding trace_by
bank_trace own granted few = rw (le-ltb (length granted) (length own) few) refl

pub own_with_own : (granted : ℕ) (own : List Grant) (given : Option Grant) → granted < length own
    → own_with granted own given ≡ trace_with own given
unfolding own_with
own_with_own granted own given longer = rw (lt-ltb granted (length own) longer) refl

pub own_with_bank : (granted : ℕ) (own : List Grant) (given : Option Grant) → length own ≤ granted
    → own_with granted own given ≡ own
unfolding own_with
own_with_bank granted own given few = rw (le-ltb granted (length own) few) refl

-- nothing was granted
pub no_trace : (own granted : List Grant) → own ≡ [] → granted ≡ [] → trace_by own granted ≡ []
no_trace own granted none nothing = rw (none, nothing) (bank_trace [] [] (omega arith))

-- where the trace is longer than the bank's list, it is the world's own
pub longer_own : (own granted : List Grant) → length granted < length own
    → length granted < length (trace_by own granted)
longer_own own granted longer = rw (own_trace own granted longer) longer

-- the bank's list after a step
pub acted_grants : (did : Acted) (b later : BankContent) → IsActed did b later
    → later.grants ≡ trace_with b.grants (grant_acted did)
acted_grants acted.Nothing b later is = ap (λ (c : BankContent). c.grants) is
acted_grants acted.Moved b later is = ap (λ (c : BankContent). c.grants) is
acted_grants (acted.Answered q (decision.Granted serial)) b later is =
    ap (λ (c : BankContent). c.grants) is.after
acted_grants (acted.Answered q (decision.Refused c n)) b later is =
    ap (λ (x : BankContent). x.grants) is.after

-- a grant of the bank joins the trace, whichever list that is
pub trace_joined : (own granted : List Grant) (given : Option Grant)
    → trace_by (own_with (length granted) own given) (trace_with granted given) ≡ trace_with
    (trace_by own granted) given
trace_joined own granted given = elim (cases_lt (length granted) (length own)) [
  | inl longer ↦ rw (own_with_own (length granted) own given longer, own_trace own granted longer)
      (own_trace (trace_with own given) (trace_with granted given)
      (longer_with own granted given longer))
  | inr few ↦ rw (own_with_bank (length granted) own given few, bank_trace own granted few)
      (bank_trace own (trace_with granted given) (more_with own granted given few))
]
  where
    longer_with : (own granted : List Grant) (given : Option Grant) → length granted < length own
        → length (trace_with granted given) < length (trace_with own given)
    longer_with own granted None longer = longer
    longer_with own granted (Some g) longer =
        omega (arith, length-append granted (g ∷ []), length-append own (g ∷ []), longer)

    more_with : (own granted : List Grant) (given : Option Grant) → length own ≤ length granted
        → length own ≤ length (trace_with granted given)
    more_with own granted None few = few
    more_with own granted (Some g) few = omega (arith, length-append granted (g ∷ []), few)

-- the trace after a step of the bank, by what the lists were
pub acted_trace : (own middle later : List Grant) (granted : ℕ) (did : Acted) (b c : BankContent)
    → granted ≡ length b.grants → middle ≡ own → later ≡ own_with granted middle (grant_acted did)
    → IsActed did b c
    → trace_by later c.grants ≡ trace_with (trace_by own b.grants) (grant_acted did)
acted_trace own middle later granted did b c count same joined is =
    rw (joined, same, count, acted_grants did b c is) (trace_joined own b.grants (grant_acted did))

-- and after a try
pub tried_trace : (own middle later granted : List Grant) (given : Option Grant)
    (grants : List Grant) → granted ≡ grants → middle ≡ own
    → trace_by later granted ≡ trace_with (trace_by middle granted) given
    → trace_by later grants ≡ trace_with (trace_by own grants) given
tried_trace own middle later granted given grants is same joined = rw (same, is) at joined

-- one more grant is in a list of the world's own
pub own_joined : (trace granted : List Grant) (g : Grant) → length granted ≤ length trace
    → trace_by (trace ++ g ∷ []) granted ≡ trace ++ g ∷ []
own_joined trace granted g few = own_trace (trace ++ g ∷ []) granted
    (omega (arith, length-append trace (g ∷ []), few))

-- the trace has all that the bank granted, or more
pub trace_length : (own granted : List Grant) → length granted ≤ length (trace_by own granted)
trace_length own granted = elim (cases_lt (length granted) (length own)) [
  | inl longer ↦ rw (own_trace own granted longer) (omega (arith, longer))
  | inr few ↦ rw (bank_trace own granted few) (omega arith)
]

-- room for one more than either list has
pub room_made : (own granted : List Grant) (capacity : ℕ)
    → length own + (length granted - length own) + 1 ≤ capacity
    → length (trace_by own granted) < capacity
room_made own granted capacity room = elim (cases_lt (length granted) (length own)) [
  | inl longer ↦ rw (own_trace own granted longer) (omega (arith, longer, room))
  | inr few ↦ rw (bank_trace own granted few) (omega (arith, few, room))
]

-- and where that is missing, it is full
pub room_missing : (own granted : List Grant) (capacity : ℕ)
    → capacity < length own + (length granted - length own) + 1
    → capacity ≤ length (trace_by own granted)
room_missing own granted capacity missing = elim (cases_lt (length granted) (length own)) [
  | inl longer ↦ rw (own_trace own granted longer) (omega (arith, longer, missing))
  | inr few ↦ rw (bank_trace own granted few) (omega (arith, few, missing))
]
