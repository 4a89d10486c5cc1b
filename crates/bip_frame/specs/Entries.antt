-- What contracts of private functions say of a request's entries and reasons.
use Rattle.std.specs.Prelude.{ℕ, zero, suc, Bool, ◌+◌, List, [], ◌∷◌, Result, Ok, Err, nat_lt}
use Rattle.std.specs.Prelude.{◌==◌, if◌then◌else◌}
use Rattle.std.specs.Int.{w16}
use Rattle.std.specs.List.{list_any}
use Rattle.bip_model.specs.Reasons.{cause_of_number}
use Rattle.bip_model.specs.Wants.{is_moved}
use Rattle.bip_model.specs.declared.reasons.Cause.{Cause}
use Rattle.bip_model.specs.declared.reasons.Why.{Why}
use Rattle.bip_model.specs.declared.wants.Role.{Role}
use Rattle.bip_model.specs.declared.wants.Want.{Want}
use Rattle.bip_frame.specs.Fields.{◌>>=◌, read_byte, read_number, read_positive}
use Rattle.bip_frame.specs.Frames.{comp_of, inter_of}
use Rattle.bip_frame.specs.Lent.{role_in}
use Rattle.bip_frame.specs.declared.faults.FrameFault.TheVariants as faults
use Rattle.bip_frame.specs.declared.faults.FrameFault.{FrameFault}

-- ---- parts that rise

-- a number that isn't below the lowest one that may stand there
unfoldable pub read_rising : ℕ → List ℕ → Result (ℕ × List ℕ) FrameFault
read_rising low bytes = do
  number ← read_number w16 bytes
  if nat_lt number.0 low then Err faults.Order else Ok number

-- a part whose number isn't below the lowest one that may stand there
abbrev pub PartReader : Type 0 → Type 0
PartReader A = ℕ → List ℕ → Result (A × List ℕ) FrameFault

-- so many parts, each with a number above the one before
unfoldable pub read_parts : {A : Type 0} → PartReader A → (A → ℕ) → ℕ → ℕ → List ℕ
    → Result (List A × List ℕ) FrameFault
read_parts read key zero low bytes = Ok ([], bytes)
read_parts read key (suc n) low bytes = do
  first ← read low bytes
  others ← read_parts read key n (key first.0 + 1) first.1
  Ok (first.0 ∷ others.0, others.1)

-- what is said of parts while they are passed, and the bytes behind them
abbrev pub passed : {A B : Type 0} → (List A → B) → Result (List A × List ℕ) FrameFault
    → Result (B × List ℕ) FrameFault
passed say read = read >>= λ x. Ok (say x.0, x.1)

-- how many parts: at least one, and at most so many
unfoldable pub read_count : ℕ → List ℕ → Result (ℕ × List ℕ) FrameFault
read_count most bytes = do
  count ← read_byte bytes
  if count.0 == 0 then Err faults.Count
      else if nat_lt most count.0 then Err faults.Count
      else Ok count

-- a count, and so many parts
unfoldable pub read_list : {A : Type 0} → ℕ → PartReader A → (A → ℕ) → List ℕ
    → Result (List A × List ℕ) FrameFault
read_list most read key bytes = do
  count ← read_count most bytes
  read_parts read key count.0 0 count.1

-- ---- entries

unfoldable pub read_role : List ℕ → Result (Role × List ℕ) FrameFault
read_role bytes = do
  byte ← read_byte bytes
  if nat_lt 1 byte.0 then Err faults.Role else Ok (role_in byte.0, byte.1)

abbrev pub want_made : ℕ → Role → ℕ → Want
want_made comp role number =
    record { comp = record { 0 = comp }; role = role; number = number }

unfoldable pub read_entry : PartReader Want
read_entry low bytes = do
  comp ← read_rising low bytes
  role ← read_role comp.1
  number ← read_positive role.1
  Ok (want_made comp.0 role.0 number.0, number.1)

-- a count of entries, and the entries
abbrev pub read_entries : List ℕ → Result (List Want × List ℕ) FrameFault
read_entries bytes = read_list 32 read_entry comp_of bytes

-- whether one of wants moves its component
abbrev pub one_moves : List Want → Bool
one_moves wants = list_any (λ (w : Want). is_moved w.role) wants

-- ---- reasons

abbrev pub why_made : ℕ → Cause → Why
why_made inter cause = record { inter = record { 0 = inter }; cause = cause }

unfoldable pub read_reason : PartReader Why
read_reason low bytes = do
  inter ← read_rising low bytes
  cause ← read_number w16 inter.1
  Ok (why_made inter.0 (cause_of_number cause.0), cause.1)

-- a count of reasons, and the reasons
abbrev pub read_reasons : List ℕ → Result (List Why × List ℕ) FrameFault
read_reasons bytes = read_list 127 read_reason inter_of bytes

-- nothing is said of reasons while they are passed
abbrev pub no_word : List Why → Unit {0}
no_word reasons = tt
