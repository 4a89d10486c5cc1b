-- Faults: their numbers and words; and which one bytes have, the first from the left, as a relation
-- that knows no reader.
use Rattle.std.specs.Prelude.{◌≡◌, ℕ, zero, suc, ◌+◌, ◌*◌, ◌≤◌, ◌<◌, ◌^◌, ◌⊎◌, false, List, [], ◌∷◌}
use Rattle.std.specs.Prelude.{◌++◌, length, codes}
use Rattle.std.specs.Int.{Width, w16, w64, byte_len, to_be_bytes}
use Rattle.std.specs.List.{flat_map}
use Rattle.bip_model.specs.Reasons.{IsNameable}
use Rattle.bip_model.specs.declared.reasons.Why.{Why}
use Rattle.bip_model.specs.declared.wants.Role.{Role}
use Rattle.bip_model.specs.declared.wants.Want.{Want}
use Rattle.bip_frame.specs.Entries.{one_moves}
use Rattle.bip_frame.specs.Frames.{Message, Head, head_fields, entry, role_byte, reason_entry}
use Rattle.bip_frame.specs.Frames.{comp_of, inter_of, spelling, FitsInter}
use Rattle.bip_frame.specs.Frames.{IsHead, IsEntry, CanBeFramed}
use Rattle.bip_frame.specs.declared.faults.FrameFault.TheVariants as faults
use Rattle.bip_frame.specs.declared.faults.FrameFault.{FrameFault}

-- the number of a fault
abbrev pub number_of_frame : FrameFault → ℕ
number_of_frame faults.Kind = 1
number_of_frame faults.Short = 2
number_of_frame faults.Count = 3
number_of_frame faults.Role = 4
number_of_frame faults.Order = 5
number_of_frame faults.NoMover = 6
number_of_frame faults.ZeroNumber = 7
number_of_frame faults.PortNo = 8
number_of_frame faults.Long = 9

-- the words of a fault
abbrev pub text_of_frame : FrameFault → List ℕ
text_of_frame faults.Kind = codes "no kind of frame"
text_of_frame faults.Short = codes "too short"
text_of_frame faults.Count = codes "wrong count"
text_of_frame faults.Role = codes "no role"
text_of_frame faults.Order = codes "out of order"
text_of_frame faults.NoMover = codes "nothing moves"
text_of_frame faults.ZeroNumber = codes "number 0"
text_of_frame faults.PortNo = codes "no port number"
text_of_frame faults.Long = codes "too long"

-- Which fault bytes have.

abbrev pub Faults : Type 1
Faults = List ℕ → FrameFault → Type 0

-- a part is at fault; or it is good, and what follows is at fault
abbrev pub FirstIn : {A : Type 0} → Faults → (A → Type 0) → (A → List ℕ) → (A → Faults) → Faults
FirstIn {A = A} Bad Good spell Next bytes fault =
    Bad bytes fault
    ⊎ ((a : A) × (rest : List ℕ) × Good a × (bytes ≡ spell a ++ rest) × Next a rest fault)

abbrev pub ByteCut : Faults
ByteCut bytes fault = (bytes ≡ []) × (fault ≡ faults.Short)

abbrev pub NumberCut : Width → Faults
NumberCut w bytes fault = (length bytes < byte_len w) × (fault ≡ faults.Short)

abbrev pub IsByte : ℕ → Type 0
IsByte b = b < 256

abbrev pub one_byte : ℕ → List ℕ
one_byte b = b ∷ []

abbrev pub Is16 : ℕ → Type 0
Is16 n = n < 2 ^ 16

abbrev pub IsPositive : ℕ → Type 0
IsPositive n = (1 ≤ n) × (n < 2 ^ 64)

abbrev pub PositiveFault : Faults
PositiveFault =
    FirstIn (NumberCut w64) (λ n. n < 2 ^ 64) (to_be_bytes w64) (λ n rest fault.
    (n ≡ 0) × (fault ≡ faults.ZeroNumber))

abbrev pub PortFault : Faults
PortFault =
    FirstIn ByteCut IsByte one_byte (λ b rest fault. (15 < b) × (fault ≡ faults.PortNo))

abbrev pub ValuesFault : Faults
ValuesFault =
    FirstIn ByteCut IsByte one_byte (λ n rest fault.
    ((8 < n) × (fault ≡ faults.Count))
    ⊎ ((n ≤ 8) × (length rest < 4 * n) × (fault ≡ faults.Short)))

abbrev pub OfferFault : Faults
OfferFault =
    FirstIn (NumberCut w16) Is16 (to_be_bytes w16) (λ comp.
    FirstIn PositiveFault IsPositive (to_be_bytes w64) (λ number.
    FirstIn (NumberCut w16) Is16 (to_be_bytes w16) (λ ports. ValuesFault)))

abbrev pub NotifyFault : Faults
NotifyFault =
    FirstIn (NumberCut w16) Is16 (to_be_bytes w16) (λ comp.
    FirstIn PositiveFault IsPositive (to_be_bytes w64) (λ number.
    FirstIn PortFault (λ b. b < 16) one_byte (λ port. ValuesFault)))

abbrev pub HeadFault : Faults
HeadFault =
    FirstIn (NumberCut w16) Is16 (to_be_bytes w16) (λ class.
    FirstIn PositiveFault IsPositive (to_be_bytes w64) (λ request. NumberCut w16))

-- class, request and interaction are at fault, or what follows them
abbrev pub BehindHead : Faults → Faults
BehindHead Next =
    FirstIn HeadFault (λ (h : Head). IsHead h.class h.request h.inter)
    (λ h. head_fields h.class h.request h.inter) (λ h. Next)

abbrev pub GrantedFault : Faults
GrantedFault = BehindHead (NumberCut w64)

abbrev pub RefusedFault : Faults
RefusedFault =
    BehindHead (FirstIn (NumberCut w16) Is16 (to_be_bytes w16) (λ comp. PositiveFault))

-- a number below the lowest one that may stand there
abbrev pub RisingFault : ℕ → Faults
RisingFault low =
    FirstIn (NumberCut w16) Is16 (to_be_bytes w16) (λ number rest fault.
    (number < low) × (fault ≡ faults.Order))

-- a number that may stand there
abbrev pub IsRising : ℕ → ℕ → Type 0
IsRising low number = Is16 number × (low ≤ number)

abbrev pub RoleFault : Faults
RoleFault = FirstIn ByteCut IsByte one_byte (λ b rest fault. (1 < b) × (fault ≡ faults.Role))

-- each role is good
abbrev pub IsRole : Role → Type 0
IsRole r = Unit {0}

abbrev pub EntryFault : ℕ → Faults
EntryFault low =
    FirstIn (RisingFault low) (IsRising low) (to_be_bytes w16) (λ comp.
    FirstIn RoleFault IsRole (λ r. one_byte (role_byte r)) (λ role. PositiveFault))

abbrev pub ReasonFault : ℕ → Faults
ReasonFault low =
    FirstIn (RisingFault low) (IsRising low) (to_be_bytes w16) (λ inter. NumberCut w16)

-- parts that stand in a list, one to so many; their numbers strictly rise
pub record Parts (A : Type 0) : Type 1 where
  pub most : ℕ
  pub number : A → ℕ
  pub Good : A → Type 0
  pub spell : A → List ℕ
  -- the faults of one whose number must be at least this
  pub Fault : ℕ → Faults

-- an entry whose numbers fit
pub record IsGoodEntry (w : Want) : Type 0 where
  pub fits : IsEntry w
  pub some : 1 ≤ w.number

-- a reason whose numbers fit
pub record IsGoodReason (y : Why) : Type 0 where
  pub fits : FitsInter y
  pub nameable : IsNameable y.cause

abbrev pub entry_parts : Parts Want
entry_parts =
    record {
      most = 32;
      number = comp_of;
      Good = IsGoodEntry;
      spell = entry;
      Fault = EntryFault;
    }

abbrev pub reason_parts : Parts Why
reason_parts =
    record {
      most = 127;
      number = inter_of;
      Good = IsGoodReason;
      spell = reason_entry;
      Fault = ReasonFault;
    }

-- a part with a number that may stand there
abbrev pub IsNextPart : {A : Type 0} → Parts A → ℕ → A → Type 0
IsNextPart p low x = p.Good x × (low ≤ p.number x)

-- so many parts, each with a number above the one before
abbrev pub AreNext : {A : Type 0} → Parts A → ℕ → ℕ → List A → Type 0
AreNext p zero low [] = Unit {0}
AreNext p zero low (x ∷ xs) = ⊥
AreNext p (suc n) low [] = ⊥
AreNext p (suc n) low (x ∷ xs) = IsNextPart p low x × AreNext p n (p.number x + 1) xs

abbrev pub PartsFault : {A : Type 0} → Parts A → ℕ → ℕ → Faults
PartsFault p zero low bytes fault = ⊥
PartsFault p (suc n) low bytes fault =
    FirstIn (p.Fault low) (IsNextPart p low) p.spell (λ x. PartsFault p n (p.number x + 1)) bytes
    fault

abbrev pub CountFault : ℕ → Faults
CountFault most =
    FirstIn ByteCut IsByte one_byte (λ n rest fault.
    ((n ≡ 0) ⊎ (most < n)) × (fault ≡ faults.Count))

abbrev pub IsCount : ℕ → ℕ → Type 0
IsCount most n = (1 ≤ n) × (n ≤ most)

-- a count is at fault, or the parts behind it
abbrev pub ListFault : {A : Type 0} → Parts A → Faults
ListFault p =
    FirstIn (CountFault p.most) (IsCount p.most) one_byte (λ n. PartsFault p n 0)

-- a list without fault, and its spelling
pub record IsList {A : Type 0} (p : Parts A) (xs : List A) : Type 0 where
  pub counted : IsCount p.most (length xs)
  pub next : AreNext p (length xs) 0 xs

abbrev pub list_spelled : {A : Type 0} → Parts A → List A → List ℕ
list_spelled p xs = length xs ∷ flat_map p.spell xs

abbrev pub NoneMoves : List Want → Faults
NoneMoves ws rest fault = (one_moves ws ≡ false) × (fault ≡ faults.NoMover)

-- a list is at fault, or what follows it
abbrev pub BehindList : {A : Type 0} → Parts A → (List A → Faults) → Faults
BehindList p Next = FirstIn (ListFault p) (IsList p) (list_spelled p) Next

abbrev pub WantsFault : Faults
WantsFault = BehindList entry_parts NoneMoves

-- that no entry moves its component is told behind the reasons
abbrev pub ExplainedFault : Faults
ExplainedFault = BehindList entry_parts (λ ws. BehindList reason_parts (λ ys. NoneMoves ws))

-- the table of kinds
abbrev pub KindFault : ℕ → Faults
KindFault kind rest fault =
    ((kind ≡ 1) × OfferFault rest fault)
    ⊎ (((kind ≡ 2) × BehindHead WantsFault rest fault)
    ⊎ (((kind ≡ 3) × GrantedFault rest fault)
    ⊎ (((kind ≡ 4) × RefusedFault rest fault)
    ⊎ (((kind ≡ 5) × NotifyFault rest fault)
    ⊎ (((kind ≡ 6) × BehindHead ExplainedFault rest fault)
    ⊎ (((kind ≡ 0) ⊎ (6 < kind)) × (fault ≡ faults.Kind)))))))

-- the first fault of bytes that are no frame
abbrev pub IsFirstFault : Faults
IsFirstFault =
    FirstIn (FirstIn ByteCut IsByte one_byte KindFault) CanBeFramed spelling
    (λ (m : Message) rest fault. (1 ≤ length rest) × (fault ≡ faults.Long))
