-- The reader's faults are the first ones from the left.
use Rattle.std.proofs.Common.{◌≡◌, ℕ, zero, suc, ◌+◌, ◌*◌, ◌^◌, ◌<◌, ◌≤◌, ◌⊎◌, Bool, true, false}
use Rattle.std.proofs.Common.{cond, eqb, ltb, List, [], ◌∷◌, length, take, drop}
use Rattle.std.proofs.Common.{Result, Ok, Err, refl, sym, ap, subst, ◌∙◌, arith, inl, inr}
use Rattle.std.specs.Prelude.{IfErr, IsErrOf}
use Rattle.std.specs.Int.{Width, w16, w64, byte_len, from_be_bytes, to_be_bytes}
use Rattle.std.proofs.lemmas.Bool.{cases_lt, eqb-true, eqb-false, ltb-true, ltb-false, lt-ltb}
use Rattle.std.proofs.lemmas.Bool.{le-ltb, ne_eqb}
use Rattle.bip_model.specs.declared.messages.Reply.{Reply}
use Rattle.bip_model.specs.declared.messages.Request.{Request}
use Rattle.bip_model.specs.Reasons.{cause_of_number}
use Rattle.bip_model.specs.declared.wants.Role.{Role}
use Rattle.bip_model.specs.declared.wants.Want.{Want}
use Rattle.bip_model.specs.declared.messages.Notify.{Notify}
use Rattle.bip_model.specs.declared.messages.Offer.{Offer}
use Rattle.bip_frame.specs.declared.faults.FrameFault.{FrameFault}
use Rattle.bip_frame.specs.declared.faults.FrameFault.TheVariants.{Kind, Short, Count, Order}
use Rattle.bip_frame.specs.declared.faults.FrameFault.TheVariants.{NoMover, ZeroNumber, PortNo}
use Rattle.bip_frame.specs.declared.faults.FrameFault.TheVariants.{Long}
use Rattle.bip_frame.specs.declared.faults.FrameFault.TheVariants as fault_kinds
use Rattle.bip_frame.specs.Faults.{IsRole, Faults, FirstIn, ByteCut, NumberCut, IsByte, one_byte}
use Rattle.bip_frame.specs.Faults.{Is16, IsPositive, PositiveFault, PortFault, ValuesFault}
use Rattle.bip_frame.specs.Faults.{OfferFault, NotifyFault, HeadFault, BehindHead, GrantedFault}
use Rattle.bip_frame.specs.Faults.{RefusedFault, RisingFault, IsRising, RoleFault, EntryFault}
use Rattle.bip_frame.specs.Faults.{ReasonFault, Parts, IsNextPart, PartsFault, CountFault, IsCount}
use Rattle.bip_frame.specs.Faults.{ListFault, IsList, list_spelled, entry_parts, reason_parts}
use Rattle.bip_frame.specs.Faults.{NoneMoves, WantsFault, ExplainedFault, KindFault, IsFirstFault}
use Rattle.bip_frame.specs.Frames.{Message, Head, of_offer, of_request, of_reply, of_notify}
use Rattle.bip_frame.specs.Frames.{head_fields, role_byte, spelling, IsHead}
use Rattle.bip_frame.specs.Frames.{CanBeFramed}
use Rattle.bip_frame.specs.Views.{message_shown}
use Rattle.bip_frame.specs.declared.frames.Frame.{Frame}
use Rattle.bip_frame.specs.Lent.{role_in, values_in}
use Rattle.bip_frame.specs.Entries.{PartReader, want_made, why_made, one_moves, read_rising}
use Rattle.bip_frame.specs.Entries.{read_role, read_entry, read_reason, read_parts, read_count}
use Rattle.bip_frame.specs.Entries.{read_list, read_entries, read_reasons}
use Rattle.bip_frame.specs.Fields.{head_made, ◌>>=◌, read_byte, read_number, read_positive}
use Rattle.bip_frame.specs.Fields.{read_port, read_values, read_head, Gives}
use Rattle.bip_frame.specs.Reading.{granted_made, notify_made, offer_made, refused_made}
use Rattle.bip_frame.specs.Reading.{request_made, read_offer, read_notify, read_granted}
use Rattle.bip_frame.specs.Reading.{read_refused, read_request, as_message, of_kind, read_frame}
use Rattle.bip_frame.specs.Reading.{if_moving, read_explained, read_whole}
use Rattle.bip_frame.proofs.FieldLemmas.{IsBytes, Part, wide16, wide64, number_takes, number_again}
use Rattle.bip_frame.proofs.FieldLemmas.{positive_takes, positive_again, byte_takes, port_takes}
use Rattle.bip_frame.proofs.FieldLemmas.{port_again, head_takes, head_again}
use Rattle.bip_frame.proofs.EntryLemmas.{rising_takes, rising_again, role_takes, role_again}
use Rattle.bip_frame.proofs.EntryLemmas.{entry_part, entries_list}
use Rattle.bip_frame.proofs.PartLemmas.{ReadsParts, count_part}
use Rattle.bip_frame.proofs.ReasonLemmas.{reason_part, reasons_list}
use Rattle.bip_frame.proofs.ReadingLemmas.{frame_takes, frame_again}

abbrev failed : {A : Type 0} → FrameFault → Result A FrameFault
failed f = Err f

-- a reader's faults are these
pub record Exact {B : Type 0} (read : List ℕ → Result B FrameFault) (Bad : Faults) : Type 0 where
  pub found : (bytes : List ℕ) (f : FrameFault) → IsBytes bytes → read bytes ≡ Err f → Bad bytes f
  pub only : (bytes : List ℕ) (f : FrameFault) → Bad bytes f → read bytes ≡ Err f

pub in_order : {A B : Type 0} (read : List ℕ → Result (A × List ℕ) FrameFault)
    (next : A → List ℕ → Result B FrameFault) (Good : A → Type 0) (spell : A → List ℕ)
    (Bad : Faults) (Next : A → Faults)
    → Part read Good spell → Exact read Bad → ((x : A) → Good x → Exact (next x) (Next x))
    → Exact (λ bytes. read bytes >>= λ x. next x.0 x.1) (FirstIn Bad Good spell Next)
in_order {A = A} {B = B} read next Good spell Bad Next part here there =
    record { found = λ bytes f fits e. by_read bytes f fits (read bytes) refl e; only = backwards }
  where
    by_read : (bytes : List ℕ) (f : FrameFault) → IsBytes bytes →
        (r : Result (A × List ℕ) FrameFault) → read bytes ≡ r → (r >>= λ x. next x.0 x.1) ≡ Err f
        → FirstIn Bad Good spell Next bytes f
    by_read bytes f fits (Ok x) is e =
        let t = part.takes bytes x.0 x.1 fits is in
        inr (x.0, x.1, t.1, t.0.parts, (there x.0 t.1).found x.1 f t.0.rest_fits e)
    by_read bytes f fits (Err g) is e = let same : read bytes ≡ Err f = is ∙ ap failed cc in
        inl (here.found bytes f fits same)

    backwards : (bytes : List ℕ) (f : FrameFault) → FirstIn Bad Good spell Next bytes f
        → (read bytes >>= λ x. next x.0 x.1) ≡ Err f
    backwards bytes f (inl bad) = rw (here.only bytes f bad) refl
    backwards bytes f (inr (x, rest, good, is, bad)) =
        let read_again : read bytes ≡ Ok (x, rest) = ap read is ∙ part.again x rest good in
        rw read_again ((there x good).only rest f bad)

-- a value made of the last part has that part's faults
pub last : {A B : Type 0} (read : List ℕ → Result A FrameFault) (g : A → B) (Bad : Faults)
    → Exact read Bad → Exact (λ bytes. read bytes >>= λ x. Ok (g x)) Bad
last {A = A} {B = B} read g Bad here = record {
  found = λ bytes f fits e. by_read bytes f fits (read bytes) refl e;
  only =
      λ bytes f bad. rw (here.only bytes f bad) refl;
}
  where
    by_read : (bytes : List ℕ) (f : FrameFault) → IsBytes bytes → (r : Result A FrameFault)
        → read bytes ≡ r → (r >>= λ x. Ok (g x)) ≡ Err f → Bad bytes f
    by_read bytes f fits (Ok x) is e = absurd cc
    by_read bytes f fits (Err h) is e = let same : read bytes ≡ Err f = is ∙ ap failed cc in
        here.found bytes f fits same

by_guard : {A : Type 0} (b : Bool) (d : FrameFault) (r : Result A FrameFault) (f : FrameFault)
    → cond b (Err d) r ≡ Err f → ((b ≡ true) × (f ≡ d)) ⊎ ((b ≡ false) × (r ≡ Err f))
by_guard true d r f e = inl (refl, cc)
by_guard false d r f e = inr (refl, e)

-- a test of what was read
pub guard : {A : Type 0} (b : Bool) (d : FrameFault) (made : List ℕ → A) (P : Type 0)
    → (b ≡ true → P) → (P → b ≡ true)
    → Exact (λ rest. cond b (Err d) (Ok (made rest))) (λ rest f. P × (f ≡ d))
guard b d made P holds fails = record {
  found = λ rest f fits e. elim (by_guard b d (Ok (made rest)) f e)
      [ inl h ↦ (holds h.0, h.1) | inr h ↦ absurd (no_ok (made rest) f h.1) ];
  only = λ rest f bad. rw (fails bad.0) (ap failed (sym bad.1));
}
  where
    no_ok : {A : Type 0} (x : A) (f : FrameFault) → Ok x ≡ failed f → ⊥
    no_ok x f e = cc

-- ---- fields

pub byte_exact : Exact read_byte ByteCut
byte_exact = record {
  found = forwards;
  only = λ bytes f bad. subst (λ (bs : List ℕ). read_byte bs
      ≡ Err f) (sym bad.0) (ap failed (sym bad.1));
}
  where
    forwards : (bytes : List ℕ) (f : FrameFault) → IsBytes bytes → read_byte bytes ≡ Err f
        → ByteCut bytes f
    forwards [] f fits e = (refl, cc)
    forwards (b ∷ bytes) f fits e = absurd cc

pub byte_part : Part read_byte IsByte one_byte
byte_part = record { takes = byte_takes; again = λ b rest good. refl }

pub cut : (w : Width) → Exact (read_number w) (NumberCut w)
cut w = record {
  found = λ bytes f fits e. elim (by_guard (ltb (length bytes) (byte_len w)) Short
      (Ok (from_be_bytes w (take (byte_len w) bytes), drop (byte_len w) bytes)) f e) [
        | inl h ↦ (ltb-true _ _ h.0, h.1)
        | inr h ↦
            absurd (no_ok (from_be_bytes w (take (byte_len w) bytes), drop (byte_len w) bytes) f
            h.1)
      ];
  only = λ bytes f bad. rw (lt-ltb _ _ bad.0) (ap failed (sym bad.1));
}
  where
    no_ok : {A : Type 0} (x : A) (f : FrameFault) → Ok x ≡ failed f → ⊥
    no_ok x f e = cc

pub part16 : Part (read_number w16) Is16 (to_be_bytes w16)
part16 = record {
  takes = number_takes w16 (2 ^ 16) wide16;
  again = number_again w16 (2 ^ 16) wide16;
}

pub part64 : Part (read_number w64) (λ n. n < 2 ^ 64) (to_be_bytes w64)
part64 = record {
  takes = number_takes w64 (2 ^ 64) wide64;
  again = number_again w64 (2 ^ 64) wide64;
}

pub positive_exact : Exact read_positive PositiveFault
unfolding read_positive
positive_exact =
    in_order (read_number w64) (λ n rest. cond (eqb n 0) (Err ZeroNumber) (Ok (n, rest)))
    (λ n. n < 2 ^ 64) (to_be_bytes w64) (NumberCut w64)
    (λ n rest f. (n ≡ 0) × (f ≡ ZeroNumber)) part64 (cut w64)
    (λ n good. guard (eqb n 0) ZeroNumber (λ rest. (n, rest)) (n ≡ 0) (eqb-true n 0)
    (λ is. subst (λ (k : ℕ). eqb k 0 ≡ true) (sym is) refl))

pub positive_part : Part read_positive IsPositive (to_be_bytes w64)
positive_part = record {
  takes = λ bytes n rest fits e. (let t =
      positive_takes bytes n rest fits e in (t.0, (t.1, t.2)));
  again =
      λ n rest good. positive_again n rest good.0 good.1;
}

pub port_exact : Exact read_port PortFault
unfolding read_port
port_exact =
    in_order read_byte (λ b rest. cond (ltb 15 b) (Err PortNo) (Ok (b, rest))) IsByte one_byte
    ByteCut (λ b rest f. (15 < b) × (f ≡ PortNo)) byte_part byte_exact
    (λ b good. guard (ltb 15 b) PortNo (λ rest. (b, rest)) (15 < b) (ltb-true 15 b) (lt-ltb 15 b))

pub port_part : Part read_port (λ b. b < 16) one_byte
port_part = record { takes = port_takes; again = port_again }

abbrev NoValues : ℕ → Faults
NoValues n rest fault = ((8 < n) × (fault ≡ Count))
    ⊎ ((n ≤ 8) × (length rest < 4 * n) × (fault ≡ Short))

abbrev values_made : ℕ → List ℕ → List ℕ × List ℕ
values_made n rest = (values_in n (take (4 * n) rest), drop (4 * n) rest)

abbrev measured : ℕ → List ℕ → Result (List ℕ × List ℕ) FrameFault
measured n rest = cond (ltb (length rest) (4 * n)) (Err Short) (Ok (values_made n rest))

abbrev counted_values_at : ℕ → List ℕ → Result (List ℕ × List ℕ) FrameFault
counted_values_at n rest = cond (ltb 8 n) (Err Count) (measured n rest)

no_ok : {A : Type 0} (x : A) (f : FrameFault) → Ok x ≡ failed f → ⊥
no_ok x f e = cc

counted : (n : ℕ) → Exact (counted_values_at n) (NoValues n)
counted n = record { found = λ rest f fits e. forwards rest f e; only = backwards }
  where
    forwards : (rest : List ℕ) (f : FrameFault) → counted_values_at n rest ≡ Err f
        → NoValues n rest f
    forwards rest f e = elim (by_guard (ltb 8 n) Count (measured n rest) f e) [
      | inl h ↦ inl (ltb-true _ _ h.0, h.1)
      | inr h ↦ elim (by_guard (ltb (length rest) (4 * n)) Short (Ok (values_made n rest)) f h.1) [
        | inl g ↦ inr (ltb-false _ _ h.0, ltb-true _ _ g.0, g.1)
        | inr g ↦ absurd (no_ok (values_made n rest) f g.1)
      ]
    ]

    backwards : (rest : List ℕ) (f : FrameFault) → NoValues n rest f
        → counted_values_at n rest ≡ Err f
    backwards rest f (inl h) = rw (lt-ltb 8 n h.0) (ap failed (sym h.1))
    backwards rest f (inr h) = rw (le-ltb 8 n h.0, lt-ltb (length rest) (4 * n) h.1)
        (ap failed (sym h.2))

pub values_exact : Exact read_values ValuesFault
unfolding read_values
values_exact = in_order read_byte counted_values_at IsByte one_byte ByteCut NoValues byte_part
    byte_exact (λ n good. counted n)

-- ---- offers and notifications

pub offer_exact : Exact read_offer OfferFault
unfolding read_offer
offer_exact =
    in_order (read_number w16) (λ c rest. read_positive rest >>= λ n. read_number w16 n.1 >>= λ p.
    read_values p.1 >>= λ v. Ok (offer_made c n.0 p.0 v.0, v.1)) Is16 (to_be_bytes w16)
    (NumberCut w16)
    (λ c. FirstIn PositiveFault IsPositive (to_be_bytes w64)
    (λ n. FirstIn (NumberCut w16) Is16 (to_be_bytes w16) (λ p. ValuesFault))) part16 (cut w16)
    (λ c c_fits.
    in_order read_positive (λ n rest. read_number w16 rest >>= λ p. read_values p.1 >>= λ v.
    Ok (offer_made c n p.0 v.0, v.1)) IsPositive (to_be_bytes w64) PositiveFault
    (λ n. FirstIn (NumberCut w16) Is16 (to_be_bytes w16) (λ p. ValuesFault)) positive_part
    positive_exact (λ n n_fits.
    in_order (read_number w16) (λ p rest. read_values rest >>= λ v. Ok (offer_made c n p v.0, v.1))
    Is16 (to_be_bytes w16) (NumberCut w16)
    (λ p. ValuesFault) part16 (cut w16) (λ p p_fits.
    last read_values (λ (v : List ℕ × List ℕ). (offer_made c n p v.0, v.1)) ValuesFault
    values_exact)))

pub notify_exact : Exact read_notify NotifyFault
unfolding read_notify
notify_exact =
    in_order (read_number w16) (λ c rest. read_positive rest >>= λ n. read_port n.1 >>= λ p.
    read_values p.1 >>= λ v. Ok (notify_made c n.0 p.0 v.0, v.1)) Is16 (to_be_bytes w16)
    (NumberCut w16)
    (λ c. FirstIn PositiveFault IsPositive (to_be_bytes w64)
    (λ n. FirstIn PortFault (λ b. b < 16) one_byte (λ p. ValuesFault))) part16 (cut w16)
    (λ c c_fits.
    in_order read_positive (λ n rest. read_port rest >>= λ p. read_values p.1 >>= λ v.
    Ok (notify_made c n p.0 v.0, v.1)) IsPositive (to_be_bytes w64) PositiveFault
    (λ n. FirstIn PortFault (λ b. b < 16) one_byte (λ p. ValuesFault)) positive_part positive_exact
    (λ n n_fits.
    in_order read_port (λ p rest. read_values rest >>= λ v. Ok (notify_made c n p v.0, v.1))
    (λ b. b < 16) one_byte PortFault
    (λ p. ValuesFault) port_part port_exact (λ p p_fits.
    last read_values (λ (v : List ℕ × List ℕ). (notify_made c n p v.0, v.1)) ValuesFault
    values_exact)))

-- ---- class, request and interaction

pub head_exact : Exact read_head HeadFault
unfolding read_head
head_exact =
    in_order (read_number w16) (λ c rest. read_positive rest >>= λ r. read_number w16 r.1 >>= λ i.
    Ok (head_made c r.0 i.0, i.1)) Is16 (to_be_bytes w16) (NumberCut w16)
    (λ c. FirstIn PositiveFault IsPositive (to_be_bytes w64) (λ r. NumberCut w16)) part16 (cut w16)
    (λ c c_fits.
    in_order read_positive (λ r rest. read_number w16 rest >>= λ i. Ok (head_made c r i.0, i.1))
    IsPositive (to_be_bytes w64) PositiveFault
    (λ r. NumberCut w16) positive_part positive_exact (λ r r_fits.
    last (read_number w16) (λ (i : ℕ × List ℕ). (head_made c r i.0, i.1)) (NumberCut w16)
    (cut w16)))

abbrev IsGoodHead : Head → Type 0
IsGoodHead h = IsHead h.class h.request h.inter

abbrev head_spelled : Head → List ℕ
head_spelled h = head_fields h.class h.request h.inter

pub head_part : Part read_head IsGoodHead head_spelled
head_part =
    record {
      takes = head_takes;
      again = λ h rest good. head_again h.class h.request h.inter rest good;
    }

pub granted_exact : Exact read_granted GrantedFault
unfolding read_granted
granted_exact =
    in_order read_head (λ h rest. read_number w64 rest >>= λ s. Ok (granted_made h s.0, s.1))
    IsGoodHead head_spelled HeadFault (λ h. NumberCut w64) head_part head_exact (λ h h_fits.
    last (read_number w64) (λ (s : ℕ × List ℕ). (granted_made h s.0, s.1)) (NumberCut w64)
    (cut w64))

pub refused_exact : Exact read_refused RefusedFault
unfolding read_refused
refused_exact =
    in_order read_head (λ h rest. read_number w16 rest >>= λ c. read_positive c.1 >>= λ u.
    Ok (refused_made h c.0 u.0, u.1)) IsGoodHead head_spelled HeadFault
    (λ h. FirstIn (NumberCut w16) Is16 (to_be_bytes w16) (λ c. PositiveFault)) head_part head_exact
    (λ h h_fits.
    in_order (read_number w16) (λ c rest. read_positive rest >>= λ u.
    Ok (refused_made h c u.0, u.1)) Is16 (to_be_bytes w16) (NumberCut w16)
    (λ c. PositiveFault) part16 (cut w16) (λ c c_fits.
    last read_positive (λ (u : ℕ × List ℕ). (refused_made h c u.0, u.1)) PositiveFault
    positive_exact))

-- ---- parts that rise

rising_exact : (low : ℕ) → Exact (read_rising low) (RisingFault low)
unfolding read_rising
rising_exact low =
    in_order (read_number w16) (λ c rest. cond (ltb c low) (Err Order) (Ok (c, rest))) Is16
    (to_be_bytes w16) (NumberCut w16) (λ c rest f. (c < low) × (f ≡ Order)) part16 (cut w16)
    (λ c good. guard (ltb c low) Order (λ rest. (c, rest)) (c < low) (ltb-true c low)
    (lt-ltb c low))

rising_part : (low : ℕ) → Part (read_rising low) (IsRising low) (to_be_bytes w16)
rising_part low = record {
  takes = λ bytes c rest fits e. (let t =
      rising_takes low bytes c rest fits e in (t.0, (t.1, t.2)));
  again =
      λ c rest good. rising_again low c rest good.0 good.1;
}

abbrev count_tested : ℕ → ℕ → List ℕ → Result (ℕ × List ℕ) FrameFault
count_tested most n rest = cond (eqb n 0) (Err Count) (cond (ltb most n) (Err Count) (Ok (n, rest)))

abbrev NoCount : ℕ → ℕ → Faults
NoCount most n rest f = ((n ≡ 0) ⊎ (most < n)) × (f ≡ Count)

count_tests : (most n : ℕ) → Exact (count_tested most n) (NoCount most n)
count_tests most n = record { found = λ rest f fits e. forwards rest f e; only = backwards }
  where
    forwards : (rest : List ℕ) (f : FrameFault) → count_tested most n rest ≡ Err f
        → NoCount most n rest f
    forwards rest f e = elim (by_guard (eqb n 0) Count
        (cond (ltb most n) (Err Count) (Ok (n, rest))) f e) [
          | inl h ↦ (inl (eqb-true n 0 h.0), h.1)
          | inr h ↦ elim (by_guard (ltb most n) Count (Ok (n, rest)) f h.1) [
            | inl g ↦ (inr (ltb-true most n g.0), g.1)
            | inr g ↦ absurd (no_ok (n, rest) f g.1)
          ]
        ]

    backwards : (rest : List ℕ) (f : FrameFault) → NoCount most n rest f
        → count_tested most n rest ≡ Err f
    backwards rest f (inl is, e) = subst (λ (k : ℕ). count_tested most k rest ≡ Err f) (sym is)
        (ap failed (sym e))
    backwards rest f (inr above, e) =
        let not_zero : eqb n 0 ≡ false = ne_eqb n 0 (λ is. omega (arith, is)) in
        rw (not_zero, lt-ltb most n above) (ap failed (sym e))

count_exact : (most : ℕ) → Exact (read_count most) (CountFault most)
unfolding read_count
count_exact most = in_order read_byte (count_tested most) IsByte one_byte ByteCut
    (NoCount most) byte_part byte_exact (λ n good. count_tests most n)

parts_exact : {A : Type 0} (p : Parts A) (read : PartReader A) → ReadsParts p read
    → ((low : ℕ) → Exact (read low) (p.Fault low))
    → (n low : ℕ) → Exact (read_parts read p.number n low) (PartsFault p n low)
unfolding read_parts
parts_exact p read part exact zero low = record {
  found = λ bytes f fits e. no_ok ([], bytes) f e;
  only = λ bytes f bad. absurd bad;
}
parts_exact {A = A} p read part exact (suc n) low =
    in_order (read low) (λ x rest. read_parts read p.number n
    (p.number x + 1) rest >>= λ others. Ok (x ∷ others.0, others.1)) (IsNextPart p low) p.spell
    (p.Fault low)
    (λ x. PartsFault p n (p.number x + 1)) (part low) (exact low) (λ x good.
    last (read_parts read p.number n (p.number x + 1))
    (λ (others : List A × List ℕ). (x ∷ others.0, others.1)) (PartsFault p n (p.number x + 1))
    (parts_exact p read part exact n (p.number x + 1)))

list_exact : {A : Type 0} (p : Parts A) (read : PartReader A) → ReadsParts p read
    → ((low : ℕ) → Exact (read low) (p.Fault low))
    → Exact (read_list p.most read p.number) (ListFault p)
unfolding read_list
list_exact p read part exact = in_order (read_count p.most)
    (λ n rest. read_parts read p.number n 0 rest) (IsCount p.most) one_byte (CountFault p.most)
    (λ n. PartsFault p n 0) (count_part p.most) (count_exact p.most)
    (λ n good. parts_exact p read part exact n 0)

-- ---- entries

role_exact : Exact read_role RoleFault
unfolding read_role
role_exact =
    in_order read_byte (λ b rest. cond (ltb 1 b) (Err fault_kinds.Role) (Ok (role_in b, rest)))
    IsByte one_byte ByteCut (λ b rest f. (1 < b) × (f ≡ fault_kinds.Role)) byte_part byte_exact
    (λ b good. guard (ltb 1 b) fault_kinds.Role (λ rest. (role_in b, rest)) (1 < b) (ltb-true 1 b)
    (lt-ltb 1 b))

abbrev role_spelled : Role → List ℕ
role_spelled r = role_byte r ∷ []

role_part : Part read_role IsRole role_spelled
role_part = record {
  takes = λ bytes r rest fits e. (role_takes bytes r rest fits e, tt);
  again = λ r rest good. role_again r rest;
}

entry_exact : (low : ℕ) → Exact (read_entry low) (EntryFault low)
unfolding read_entry
entry_exact low =
    in_order (read_rising low) (λ c rest. read_role rest >>= λ r. read_positive r.1 >>= λ n.
    Ok (want_made c r.0 n.0, n.1)) (IsRising low) (to_be_bytes w16) (RisingFault low)
    (λ c. FirstIn RoleFault IsRole role_spelled (λ r. PositiveFault)) (rising_part low)
    (rising_exact low) (λ c c_fits.
    in_order read_role (λ r rest. read_positive rest >>= λ n. Ok (want_made c r n.0, n.1)) IsRole
    role_spelled RoleFault (λ r. PositiveFault) role_part role_exact (λ r r_fits.
    last read_positive (λ (n : ℕ × List ℕ). (want_made c r n.0, n.1)) PositiveFault positive_exact))

entries_exact : Exact read_entries (ListFault entry_parts)
entries_exact = list_exact entry_parts read_entry entry_part entry_exact

-- ---- reasons

reason_exact : (low : ℕ) → Exact (read_reason low) (ReasonFault low)
unfolding read_reason
reason_exact low =
    in_order (read_rising low) (λ i rest. read_number w16 rest >>= λ c.
    Ok (why_made i (cause_of_number c.0), c.1)) (IsRising low) (to_be_bytes w16)
    (RisingFault low)
    (λ i. NumberCut w16) (rising_part low) (rising_exact low) (λ i i_fits.
    last (read_number w16) (λ (c : ℕ × List ℕ). (why_made i (cause_of_number c.0), c.1))
    (NumberCut w16) (cut w16))

reasons_exact : Exact read_reasons (ListFault reason_parts)
reasons_exact = list_exact reason_parts read_reason reason_part reason_exact

-- ---- requests

mover_tests : (r : Request) → Exact (λ rest. if_moving r rest) (NoneMoves r.wants)
mover_tests r = record {
  found = λ rest f fits e. by_test (one_moves r.wants) rest f refl e;
  only = λ rest f bad. rw bad.0 (ap failed (sym bad.1));
}
  where
    by_test : (b : Bool) (rest : List ℕ) (f : FrameFault) → one_moves r.wants ≡ b
        → cond {A = Result (Request × List ℕ) FrameFault} b (Ok (r, rest)) (Err NoMover) ≡ Err f
        → NoneMoves r.wants rest f
    by_test true rest f is e = absurd (no_ok (r, rest) f e)
    by_test false rest f is e = (is, cc)

reserve_exact : Exact read_request (BehindHead WantsFault)
unfolding read_request
reserve_exact =
    in_order read_head (λ h rest. read_entries rest >>= λ ws. if_moving
    (request_made h ws.0 []) ws.1) IsGoodHead head_spelled HeadFault
    (λ h. WantsFault) head_part head_exact (λ h h_fits.
    in_order read_entries (λ ws rest. if_moving (request_made h ws []) rest) (IsList entry_parts)
    (list_spelled entry_parts) (ListFault entry_parts) NoneMoves entries_list entries_exact
    (λ ws list. mover_tests (request_made h ws [])))

explained_exact : Exact read_explained (BehindHead ExplainedFault)
unfolding read_explained
explained_exact =
    in_order read_head (λ h rest. read_entries rest >>= λ ws. read_reasons ws.1 >>= λ ys. if_moving
    (request_made h ws.0 ys.0) ys.1) IsGoodHead head_spelled HeadFault
    (λ h. ExplainedFault) head_part head_exact (λ h h_fits.
    in_order read_entries (λ ws rest. read_reasons rest >>= λ ys. if_moving
    (request_made h ws ys.0) ys.1) (IsList entry_parts) (list_spelled entry_parts)
    (ListFault entry_parts)
    (λ (ws : List Want). FirstIn (ListFault reason_parts) (IsList reason_parts)
    (list_spelled reason_parts) (λ ys. NoneMoves ws)) entries_list entries_exact (λ ws list.
    in_order read_reasons (λ ys rest. if_moving (request_made h ws ys) rest) (IsList reason_parts)
    (list_spelled reason_parts) (ListFault reason_parts)
    (λ ys. NoneMoves ws) reasons_list reasons_exact
    (λ ys whys. mover_tests (request_made h ws ys))))

-- ---- all kinds

abbrev Read : Type 0
Read = Result (Message × List ℕ) FrameFault

split : (kind k : ℕ) (one other : Read) (f : FrameFault) → cond (eqb kind k) one other ≡ Err f
    → ((kind ≡ k) × (one ≡ Err f)) ⊎ ((kind ≡ k → ⊥) × (other ≡ Err f))
split kind k one other f e = by_test (eqb kind k) refl e
  where
    by_test : (b : Bool) → eqb kind k ≡ b → cond b one other ≡ Err f
        → ((kind ≡ k) × (one ≡ Err f)) ⊎ ((kind ≡ k → ⊥) × (other ≡ Err f))
    by_test true is e = inl (eqb-true kind k is, e)
    by_test false is e = inr (eqb-false kind k is, e)

none_of : (kind : ℕ) → (kind ≡ 1 → ⊥) → (kind ≡ 2 → ⊥) → (kind ≡ 3 → ⊥) → (kind ≡ 4 → ⊥)
    → (kind ≡ 5 → ⊥) → (kind ≡ 6 → ⊥) → (kind ≡ 0) ⊎ (6 < kind)
none_of kind n1 n2 n3 n4 n5 n6 = elim (cases_lt 6 kind)
    [ inl lt ↦ inr lt | inr le ↦ inl (omega (arith, n1, n2, n3, n4, n5, n6)) ]

offered_exact : Exact (λ bytes. as_message of_offer (read_offer bytes)) OfferFault
offered_exact = last read_offer (λ (x : Offer × List ℕ). (of_offer x.0, x.1)) OfferFault offer_exact

asked_exact : Exact (λ bytes. as_message of_request (read_request bytes)) (BehindHead WantsFault)
asked_exact = last read_request (λ (x : Request × List ℕ). (of_request x.0, x.1))
    (BehindHead WantsFault) reserve_exact

explains_exact : Exact (λ bytes. as_message of_request (read_explained bytes))
    (BehindHead ExplainedFault)
explains_exact = last read_explained (λ (x : Request × List ℕ). (of_request x.0, x.1))
    (BehindHead ExplainedFault) explained_exact

grants_exact : Exact (λ bytes. as_message of_reply (read_granted bytes)) GrantedFault
grants_exact = last read_granted (λ (x : Reply × List ℕ). (of_reply x.0, x.1)) GrantedFault
    granted_exact

refusals_exact : Exact (λ bytes. as_message of_reply (read_refused bytes)) RefusedFault
refusals_exact = last read_refused (λ (x : Reply × List ℕ). (of_reply x.0, x.1)) RefusedFault
    refused_exact

notified_exact : Exact (λ bytes. as_message of_notify (read_notify bytes)) NotifyFault
notified_exact = last read_notify (λ (x : Notify × List ℕ). (of_notify x.0, x.1)) NotifyFault
    notify_exact

kind_exact : (kind : ℕ) → Exact (of_kind kind) (KindFault kind)
kind_exact kind = record { found = forwards; only = backwards }
  where
    forwards : (rest : List ℕ) (f : FrameFault) → IsBytes rest → of_kind kind rest ≡ Err f
        → KindFault kind rest f
    forwards rest f fits e =
        let k6 : Read = cond (eqb kind 6) (as_message of_request (read_explained rest))
        (Err Kind) in
        let k5 : Read = cond (eqb kind 5) (as_message of_notify (read_notify rest)) k6 in
        let k4 : Read = cond (eqb kind 4) (as_message of_reply (read_refused rest)) k5 in
        let k3 : Read = cond (eqb kind 3) (as_message of_reply (read_granted rest)) k4 in
        let k2 : Read = cond (eqb kind 2) (as_message of_request (read_request rest)) k3 in
        elim (split kind 1 (as_message of_offer (read_offer rest)) k2 f e) [
          | inl h ↦ inl (h.0, offered_exact.found rest f fits h.1)
          | inr a ↦ elim (split kind 2 (as_message of_request (read_request rest)) k3 f a.1) [
            | inl h ↦ inr (inl (h.0, asked_exact.found rest f fits h.1))
            | inr b ↦ elim (split kind 3 (as_message of_reply (read_granted rest)) k4 f b.1) [
              | inl h ↦ inr (inr (inl (h.0, grants_exact.found rest f fits h.1)))
              | inr c ↦ elim (split kind 4 (as_message of_reply (read_refused rest)) k5 f c.1) [
                | inl h ↦ inr (inr (inr (inl (h.0, refusals_exact.found rest f fits h.1))))
                | inr d ↦ elim (split kind 5 (as_message of_notify (read_notify rest)) k6 f d.1) [
                  | inl h ↦ inr (inr (inr (inr (inl (h.0, notified_exact.found rest f fits h.1)))))
                  | inr g ↦ elim (split kind 6 (as_message of_request (read_explained rest))
                      (Err Kind) f g.1) [
                        | inl h ↦ inr (inr (inr (inr (inr (inl (
                          h.0,
                          explains_exact.found rest f fits h.1,
                        ))))))
                        | inr o ↦ inr (inr (inr (inr (inr (inr (
                          none_of kind a.0 b.0 c.0 d.0 g.0 o.0,
                          same_fault Kind f o.1,
                        ))))))
                      ]
                ]
              ]
            ]
          ]
        ]
      where
        same_fault : (d f : FrameFault) → failed {A = Message × List ℕ} d ≡ Err f → f ≡ d
        same_fault d f e = cc

    backwards : (rest : List ℕ) (f : FrameFault) → KindFault kind rest f → of_kind kind rest ≡ Err f
    backwards rest f (inl h) = subst (λ (k : ℕ). of_kind k rest ≡ Err f) (sym h.0)
        (offered_exact.only rest f h.1)
    backwards rest f (inr (inl h)) = subst (λ (k : ℕ). of_kind k rest ≡ Err f) (sym h.0)
        (asked_exact.only rest f h.1)
    backwards rest f (inr (inr (inl h))) = subst (λ (k : ℕ). of_kind k rest ≡ Err f) (sym h.0)
        (grants_exact.only rest f h.1)
    backwards rest f (inr (inr (inr (inl h)))) =
        subst (λ (k : ℕ). of_kind k rest ≡ Err f) (sym h.0) (refusals_exact.only rest f h.1)
    backwards rest f (inr (inr (inr (inr (inl h))))) =
        subst (λ (k : ℕ). of_kind k rest ≡ Err f) (sym h.0) (notified_exact.only rest f h.1)
    backwards rest f (inr (inr (inr (inr (inr (inl h)))))) =
        subst (λ (k : ℕ). of_kind k rest ≡ Err f) (sym h.0) (explains_exact.only rest f h.1)
    backwards rest f (inr (inr (inr (inr (inr (inr (inl none, e))))))) =
        subst (λ (k : ℕ). of_kind k rest ≡ Err f) (sym none) (ap failed (sym e))
    backwards rest f (inr (inr (inr (inr (inr (inr (inr above, e))))))) =
        let n1 : eqb kind 1 ≡ false = ne_eqb kind 1 (λ is. omega (arith, is)) in
        let n2 : eqb kind 2 ≡ false = ne_eqb kind 2 (λ is. omega (arith, is)) in
        let n3 : eqb kind 3 ≡ false = ne_eqb kind 3 (λ is. omega (arith, is)) in
        let n4 : eqb kind 4 ≡ false = ne_eqb kind 4 (λ is. omega (arith, is)) in
        let n5 : eqb kind 5 ≡ false = ne_eqb kind 5 (λ is. omega (arith, is)) in
        let n6 : eqb kind 6 ≡ false = ne_eqb kind 6 (λ is. omega (arith, is)) in
        rw (n1, n2, n3, n4, n5, n6) (ap failed (sym e))

abbrev FieldFault : Faults
FieldFault = FirstIn ByteCut IsByte one_byte KindFault

frame_exact : Exact read_frame FieldFault
unfolding read_frame
frame_exact = in_order read_byte of_kind IsByte one_byte ByteCut KindFault byte_part byte_exact
    (λ kind good. kind_exact kind)

frame_part : Part read_frame CanBeFramed spelling
frame_part = record {
  takes = λ bytes m rest fits e. frame_takes bytes (m, rest) fits e;
  again = frame_again;
}

abbrev IsLong : Message → Faults
IsLong m rest f = (1 ≤ length rest) × (f ≡ Long)

long_tests : (m : Message)
    → Exact {B = Message} (λ rest. cond (eqb (length rest) 0) (Ok m) (Err Long)) (IsLong m)
long_tests m = record {
  found = λ rest f fits e. by_test (eqb (length rest) 0) rest f refl e;
  only = backwards;
}
  where
    by_test : (b : Bool) (rest : List ℕ) (f : FrameFault) → eqb (length rest) 0 ≡ b
        → cond {A = Result Message FrameFault} b (Ok m) (Err Long) ≡ Err f → IsLong m rest f
    by_test true rest f is e = absurd (no_ok m f e)
    by_test false rest f is e = (omega (arith, eqb-false (length rest) 0 is), cc)

    backwards : (rest : List ℕ) (f : FrameFault) → IsLong m rest f
        → cond {A = Result Message FrameFault} (eqb (length rest) 0) (Ok m) (Err Long) ≡ Err f
    backwards rest f bad =
        let some : eqb (length rest) 0 ≡ false =
        ne_eqb (length rest) 0 (λ is. omega (arith, is, bad.0)) in
        rw some (ap failed (sym bad.1))

pub whole_exact : Exact read_whole IsFirstFault
unfolding read_whole
whole_exact = in_order read_frame (λ m rest. cond (eqb (length rest) 0) (Ok m) (Err Long))
    CanBeFramed spelling FieldFault IsLong frame_part frame_exact (λ m good. long_tests m)

pub is_first : (bytes : List ℕ) (r : Result Frame FrameFault) → IsBytes bytes
    → Gives message_shown r (read_whole bytes) → IfErr r (λ f. IsFirstFault bytes f)
is_first bytes (Ok x) fits given = tt
is_first bytes (Err f) fits given = whole_exact.found bytes f fits given

pub is_only : (bytes : List ℕ) (r : Result Frame FrameFault)
    → Gives message_shown r (read_whole bytes) → (f : FrameFault) → IsFirstFault bytes f
    → IsErrOf r f
is_only bytes (Ok x) given f bad = absurd (no_ok (message_shown x) f
    (sym given ∙ whole_exact.only bytes f bad))
is_only bytes (Err g) given f bad = same g f (sym given ∙ whole_exact.only bytes f bad)
  where
    same : (g f : FrameFault) → failed {A = Message} g ≡ Err f → failed {A = Frame} g ≡ Err f
    same g f e = let is : g ≡ f = cc in ap (failed {A = Frame}) is
