-- The laws of frames.
use Rattle.std.proofs.Common.{◌≡◌, ℕ, zero, suc, ◌+◌, ◌^◌, ◌<◌, ◌≤◌, ◌⊎◌, List, [], ◌∷◌, ◌++◌}
use Rattle.std.proofs.Common.{length}
use Rattle.std.proofs.Common.{Result, Ok, Err, refl, sym, ap, ◌∙◌, arith, inl, inr}
use Rattle.std.proofs.lemmas.List.{append-nil, length-append}
use Rattle.std.proofs.lemmas.List.Elements.{recursion_from_All}
use Rattle.std.specs.List.{AllByRecursion}
use Rattle.bip_model.specs.declared.messages.Notify.{Notify}
use Rattle.bip_model.specs.declared.messages.Reply.TheVariants.{Granted, Refused}
use Rattle.bip_model.specs.declared.messages.Request.{Request}
use Rattle.bip_model.specs.declared.reasons.Cause.TheVariants.{Guard}
use Rattle.bip_model.specs.declared.reasons.Why.{Why}
use Rattle.bip_model.specs.declared.wants.Role.TheVariants.{Moved}
use Rattle.bip_model.specs.declared.wants.Want.{Want}
use Rattle.bip_frame.specs.declared.faults.FrameFault.{FrameFault}
use Rattle.bip_frame.specs.declared.faults.FrameFault.TheVariants.{Short}
use Rattle.bip_frame.specs.Faults.{AreNext, IsByte, IsFirstFault, IsList, entry_parts, reason_parts}
use Rattle.bip_frame.specs.Frames.{Message, of_offer, of_request, of_reply, of_notify, spelling}
use Rattle.bip_frame.specs.Frames.{CanBeFramed, IsEntry, IsFrame, IsNotify, IsRequest}
use Rattle.bip_frame.specs.Laws.{frame_length, reasons_length, CutIsShort, FrameOrFault, IsWithin}
use Rattle.bip_frame.specs.Laws.{MoreIsLong}
use Rattle.bip_frame.specs.Laws.{NotBoth, OneFrameFault}
use Rattle.bip_frame.specs.Reading.{read_frame, read_whole}
use Rattle.bip_frame.proofs.CutLemmas.{with_more, frame_stays}
use Rattle.bip_frame.proofs.EntryLemmas.{are_wants, entries_fit, some_wants}
use Rattle.bip_frame.proofs.FaultLemmas.{whole_exact}
use Rattle.bip_frame.proofs.FieldLemmas.{IsBytes, done, ok_is}
use Rattle.bip_frame.proofs.LengthLemmas.{frame_long, front_fits}
use Rattle.bip_frame.proofs.PartLemmas.{listed}
use Rattle.bip_frame.proofs.ReasonLemmas.{are_reasons, reasons_fit}
use Rattle.bip_frame.proofs.ReadingLemmas.{frame_again, whole_again, whole_takes}

abbrev failed : FrameFault → Result Message FrameFault
failed f = Err f

no_ok : (m : Message) (f : FrameFault) → done m ≡ failed f → ⊥
no_ok m f e = cc

no_pair : (x : Message × List ℕ) (f : FrameFault) → done x ≡ Err f → ⊥
no_pair x f e = cc

same_fault : (f g : FrameFault) → failed f ≡ failed g → f ≡ g
same_fault f g e = cc

read_back : (m : Message) (a : List ℕ) → IsFrame m a → read_whole a ≡ Ok m
read_back m a frame = ap read_whole frame.is ∙ whole_again m frame.can

pub not_both : NotBoth
not_both m fault a frame bad = no_ok m fault (sym (read_back m a frame)
    ∙ whole_exact.only a fault bad)

pub one_fault : OneFrameFault
one_fault f g a first second = same_fault f g
    (sym (whole_exact.only a f first) ∙ whole_exact.only a g second)

bytes_from_all : (a : List ℕ) → AllByRecursion IsByte a → IsBytes a
bytes_from_all [] all i = omega arith
bytes_from_all (b ∷ a) all zero = all.0
bytes_from_all (b ∷ a) all (suc i) = bytes_from_all a all.1 i

pub frame_or_fault : FrameOrFault
frame_or_fault a all = by_read (read_whole a) refl
  where
    fits : IsBytes a
    fits = bytes_from_all a (recursion_from_All IsByte a all)

    by_read : (got : Result Message FrameFault) → read_whole a ≡ got
        → ((m : Message) × IsFrame m a) ⊎ ((fault : FrameFault) × IsFirstFault a fault)
    by_read (Ok m) is = inl (m, whole_takes a m fits is)
    by_read (Err fault) is = inr (fault, whole_exact.found a fault fits is)

pub cut_is_short : CutIsShort
unfolding read_whole
cut_is_short m front more frame some = whole_exact.found front Short
    (front_fits m front more frame) short
  where
    whole : read_frame (front ++ more) ≡ Ok (m, [])
    whole = ap read_frame (frame.is ∙ sym (append-nil _)) ∙ frame_again m [] frame.can

    by_front : (got : Result (Message × List ℕ) FrameFault)
        → read_frame (front ++ more) ≡ with_more more got → got ≡ Err Short
    by_front (Ok (n, rest)) same =
        let both : (n, rest ++ more) ≡ (m, []) =
        ok_is (n, rest ++ more) (m, []) (sym same ∙ whole) in
        let none : rest ++ more ≡ [] = ap (λ (p : Message × List ℕ). p.1) both in
        absurd (omega (arith, some, ap length none, length-append rest more))
    by_front (Err f) same = absurd (no_pair (m, []) f (sym whole ∙ same))

    front_short : read_frame front ≡ Err Short
    front_short = elim (frame_stays front more)
        [ inl short ↦ short | inr same ↦ by_front (read_frame front) same ]

    short : read_whole front ≡ Err Short
    short = rw front_short refl

pub more_is_long : MoreIsLong
more_is_long m a more frame some = inr (
  m,
  more,
  frame.can,
  ap (λ (t : List ℕ). t ++ more) frame.is,
  (omega (arith, some), refl),
)

reasons_below : (ys : List Why) → length ys ≤ 127 → reasons_length ys ≤ 509
reasons_below [] few = omega arith
reasons_below (y ∷ ys) few = omega (arith, few)

within : (m : Message) (a : List ℕ) → IsFrame m a → (13 ≤ frame_length m) × (frame_length m ≤ 875)
within (of_offer o) a frame = (omega arith, omega (arith, frame.can.few))
within (of_request r) a frame = (
  omega (arith, some_wants r.wants frame.can.wants.moving),
  omega (arith, frame.can.wants.few, reasons_below r.reasons frame.can.reasons.few),
)
within (of_reply (Granted c r i s)) a frame = (omega arith, omega arith)
within (of_reply (Refused c r i k u)) a frame = (omega arith, omega arith)
within (of_notify n) a frame = (omega arith, omega (arith, frame.can.few))

pub is_within : IsWithin
is_within m a frame =
    let w = within m a frame in
    let long = frame_long m a frame in
    (omega (arith, w.0, long), omega (arith, w.1, long))

pub too_few : (a : List ℕ) (m : Message) → IsBytes a → length a < 13 → read_whole a ≡ Ok m → ⊥
too_few a m fits few e = omega (arith, few, (is_within m a (whole_takes a m fits e)).0)

-- ---- the shortest frame and the longest

abbrev Reached : ℕ → Type 0
Reached n = (m : Message) × (a : List ℕ) × IsFrame m a × (length a ≡ n)

reached : (m : Message) (n : ℕ) → CanBeFramed m → frame_length m ≡ n → Reached n
reached m n can long =
    let frame : IsFrame m (spelling m) = record { can = can; is = refl } in
    (m, spelling m, frame, frame_long m (spelling m) frame ∙ long)

abbrev short_notify : Notify
short_notify = record { comp = record { 0 = 0 }; number = 1; port = record { 0 = 0 }; values = [] }

short_can : IsNotify short_notify
short_can = record {
  comp = omega arith;
  some = omega arith;
  number = omega arith;
  port = omega arith;
  few = omega arith;
  values = tt;
}

pub shortest : Reached 13
shortest = reached (of_notify short_notify) 13 short_can refl

-- so many components in a row, each moved by its move 1
abbrev wants_from : ℕ → ℕ → List Want
wants_from zero c = []
wants_from (suc n) c = record { comp = record { 0 = c }; role = Moved; number = 1 } ∷ wants_from n
    (c + 1)

counted_from : (n c : ℕ) → length (wants_from n c) ≡ n
counted_from zero c = refl
counted_from (suc n) c = ap suc (counted_from n (c + 1))

wants_next : (n c : ℕ) → c + n ≤ 2 ^ 16 → AreNext entry_parts n c (wants_from n c)
wants_next zero c few = tt
wants_next (suc n) c few =
    let fits : IsEntry (record { comp = record { 0 = c }; role = Moved; number = 1 }) =
    record { comp = omega (arith, few); number = omega arith } in (
      (record { fits = fits; some = omega arith }, omega arith),
      wants_next n (c + 1) (omega (arith, few)),
    )

-- so many interactions in a row, each with a guard that is false
abbrev reasons_from : ℕ → ℕ → List Why
reasons_from zero i = []
reasons_from (suc n) i = record { inter = record { 0 = i }; cause = Guard } ∷ reasons_from n (i + 1)

reasons_counted_from : (n i : ℕ) → length (reasons_from n i) ≡ n
reasons_counted_from zero i = refl
reasons_counted_from (suc n) i = ap suc (reasons_counted_from n (i + 1))

reasons_next : (n i : ℕ) → i + n ≤ 2 ^ 16 → AreNext reason_parts n i (reasons_from n i)
reasons_next zero i few = tt
reasons_next (suc n) i few = (
  (record { fits = omega (arith, few); nameable = tt }, omega arith),
  reasons_next n (i + 1) (omega (arith, few)),
)

long_wants : IsList entry_parts (wants_from 32 0)
long_wants = listed entry_parts 32 (wants_from 32 0) (omega arith, omega arith)
    (wants_next 32 0 (omega arith))

long_reasons : IsList reason_parts (reasons_from 127 0)
long_reasons = listed reason_parts 127 (reasons_from 127 0) (omega arith, omega arith)
    (reasons_next 127 0 (omega arith))

abbrev long_request : Request
long_request = record {
  wants = wants_from 32 0;
  reasons = reasons_from 127 0;
  request = 1;
  class = record { 0 = 0 };
  inter = record { 0 = 0 };
}

long_can : IsRequest long_request
long_can = record {
  head = record {
    class_fits = omega arith;
    some = omega arith;
    request_fits = omega arith;
    inter_fits = omega arith;
  };
  wants = are_wants (wants_from 32 0) long_wants refl;
  entries = entries_fit (wants_from 32 0) long_wants;
  reasons = are_reasons (reasons_from 127 0) long_reasons;
  inters = reasons_fit (reasons_from 127 0) long_reasons;
}

pub longest : Reached 875
longest = reached (of_request long_request) 875 long_can refl
