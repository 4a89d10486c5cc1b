-- The parts of a frame as they lie in it one after the other: values, entries, reasons.
use Rattle.std.specs.Prelude.{ℕ, zero, suc, ◌+◌, ◌*◌, List, [], ◌∷◌, take, drop, slice_index, ◌==◌}
use Rattle.std.specs.Prelude.{if◌then◌else◌}
use Rattle.std.specs.Coded.{Unit-prop, le_prop}
use Rattle.std.proofs.Props.{props}
use Rattle.std.specs.Int.{w16, w32, w64, from_be_bytes}
use Rattle.bip_model.specs.Reasons.{IsNameable, cause_of_number}
use Rattle.bip_model.specs.declared.reasons.Cause.{Cause}
use Rattle.bip_model.specs.declared.reasons.Cause.TheVariants.{Port, Guard}
use Rattle.bip_model.specs.declared.reasons.Why.{Why}
use Rattle.bip_model.specs.declared.wants.Role.TheVariants.{Moved, Seen}
use Rattle.bip_model.specs.declared.wants.Role.{Role}
use Rattle.bip_model.specs.declared.wants.Want.{Want}

-- what stands at the front: parts of this size, each said by its bytes, so many
abbrev pub parts_in : {A : Type 0} → ℕ → (List ℕ → A) → ℕ → List ℕ → List A
parts_in size one zero bytes = []
parts_in size one (suc n) bytes = one (take size bytes) ∷ parts_in size one n (drop size bytes)

-- the values at the front, so many
abbrev pub values_in : ℕ → List ℕ → List ℕ
values_in n bytes = parts_in 4 (from_be_bytes w32) n bytes

-- the role that a byte says
abbrev pub role_in : ℕ → Role
role_in byte = if byte == 1 then Moved else Seen

-- the want that an entry says
abbrev pub want_in : List ℕ → Want
want_in entry =
    record {
      comp = record { 0 = from_be_bytes w16 (take 2 entry) };
      role = role_in (slice_index entry 2);
      number = from_be_bytes w64 (take 8 (drop 3 entry));
    }

-- the wants of the entries at the front, so many
abbrev pub wants_in : ℕ → List ℕ → List Want
wants_in n bytes = parts_in 11 want_in n bytes

-- the entry at a place among entries
abbrev pub entry_in : ℕ → List ℕ → List ℕ
entry_in i bytes = take 11 (drop (11 * i) bytes)

-- the reason that four bytes say
abbrev pub why_in : List ℕ → Why
why_in part =
    record {
      inter = record { 0 = from_be_bytes w16 (take 2 part) };
      cause = cause_of_number (from_be_bytes w16 (take 2 (drop 2 part)));
    }

-- the reasons at the front, so many
abbrev pub whys_lent : ℕ → List ℕ → List Why
whys_lent n bytes = parts_in 4 why_in n bytes

-- that a cause can be named has one proof at most, so that a frame can keep it
pub nameable_prop : (cause : Cause) → IsProp (IsNameable cause)
nameable_prop (Port c) = le_prop
nameable_prop Guard = Unit-prop

pub ruleset kept = (nameable_prop, props)

-- the reasons' bytes behind so many entries and a count
abbrev pub behind_entries : ℕ → List ℕ → List ℕ
behind_entries entries bytes = drop (11 * entries + 1) bytes

-- the reasons of a list: behind their count, or none where nothing is there
abbrev pub listed_whys : List ℕ → List Why
listed_whys [] = []
listed_whys (n ∷ bytes) = whys_lent n bytes

-- the reasons behind so many entries
abbrev pub reasons_in : ℕ → List ℕ → List Why
reasons_in entries bytes = listed_whys (drop (11 * entries) bytes)
