-- Bytes that are cut: a reader that has enough says the same where more stands behind.
use Rattle.std.proofs.Common.{◌≡◌, ℕ, zero, suc, ◌+◌, ◌*◌, ◌⊎◌, Bool, true, false, cond, eqb}
use Rattle.std.proofs.Common.{ltb, List, [], ◌∷◌, ◌++◌, length, take, drop, Result, Ok, Err, refl}
use Rattle.std.proofs.Common.{arith, inl, inr}
use Rattle.std.specs.Int.{Width, w16, w64, byte_len}
use Rattle.std.proofs.lemmas.Bool.{cases_lt, lt-ltb, le-ltb}
use Rattle.std.proofs.lemmas.List.{take-append-le, drop-append-le, length-append}
use Rattle.bip_model.specs.Reasons.{cause_of_number}
use Rattle.bip_model.specs.declared.messages.Request.{Request}
use Rattle.bip_model.specs.declared.reasons.Why.{Why}
use Rattle.bip_model.specs.declared.wants.Want.{Want}
use Rattle.bip_frame.specs.declared.faults.FrameFault.{FrameFault}
use Rattle.bip_frame.specs.declared.faults.FrameFault.TheVariants as faults
use Rattle.bip_frame.specs.Entries.{PartReader, want_made, why_made, one_moves}
use Rattle.bip_frame.specs.Frames.{comp_of, inter_of}
use Rattle.bip_frame.specs.Entries.{read_rising, read_role, read_entry, read_reason, read_parts}
use Rattle.bip_frame.specs.Entries.{read_count, read_list, read_entries, read_reasons}
use Rattle.bip_frame.specs.Fields.{head_made, ◌>>=◌, read_byte, read_number, read_positive}
use Rattle.bip_frame.specs.Fields.{read_port}
use Rattle.bip_frame.specs.Fields.{read_values, read_head}
use Rattle.bip_frame.specs.Frames.{Message, of_offer, of_request, of_reply, of_notify}
use Rattle.bip_frame.specs.Lent.{role_in, values_in}
use Rattle.bip_frame.specs.Reading.{granted_made, notify_made, offer_made, refused_made}
use Rattle.bip_frame.specs.Reading.{request_made, read_offer, read_notify, read_granted}
use Rattle.bip_frame.specs.Reading.{if_moving, read_explained, read_refused}
use Rattle.bip_frame.specs.Reading.{read_request, as_message, of_kind, read_frame}

abbrev pub Reader : Type 0 → Type 0
Reader A = List ℕ → Result (A × List ℕ) FrameFault

-- the same, where more stands behind the bytes
abbrev pub with_more : {A : Type 0} → List ℕ → Result (A × List ℕ) FrameFault
    → Result (A × List ℕ) FrameFault
with_more more (Ok (x, rest)) = Ok (x, rest ++ more)
with_more more (Err f) = Err f

-- what a reader says stays, whatever stands behind the bytes, but that they are too short
abbrev pub Stays : {A : Type 0} → Reader A → Type 0
Stays read =
    (front more : List ℕ) → (read front ≡ Err faults.Short)
    ⊎ (read (front ++ more) ≡ with_more more (read front))

pub and_then : {A B : Type 0} (read : Reader A) (next : A → Reader B) → Stays read
    → ((x : A) → Stays (next x)) → Stays (λ bytes. read bytes >>= λ x. next x.0 x.1)
and_then {A = A} {B = B} read next first second front more =
    elim (first front more) [
      | inl short ↦ inl (rw short refl)
      | inr same ↦ by_read (read front) refl same
    ]
  where
    Both : Result (B × List ℕ) FrameFault → Type 0
    Both got = (got ≡ Err faults.Short) ⊎ ((read (front ++ more) >>= λ x. next x.0 x.1)
        ≡ with_more more got)

    by_next : (x : A) (rest : List ℕ) → read (front ++ more) ≡ Ok (x, rest ++ more)
        → Both (next x rest)
    by_next x rest same =
        elim (second x rest more) [
          | inl short ↦ inl short
          | inr again ↦ inr (rw same again)
        ]

    by_read : (got : Result (A × List ℕ) FrameFault) → read front ≡ got
        → read (front ++ more) ≡ with_more more got → Both (read front >>= λ x. next x.0 x.1)
    by_read (Ok (x, rest)) is same = rw is (by_next x rest same)
    by_read (Err f) is same = rw is (inr (rw same refl))

pub given : {A : Type 0} (x : A) → Stays (λ rest. Ok (x, rest))
given x front more = inr refl

pub refused : {A : Type 0} (f : FrameFault) → Stays {A = A} (λ rest. Err f)
refused f front more = inr refl

-- a test that the bytes behind don't decide
pub tested : {A : Type 0} (b : Bool) (one other : Reader A) → Stays one → Stays other
    → Stays (λ rest. cond b (one rest) (other rest))
tested true one other first second = first
tested false one other first second = second

-- ---- fields

byte_stays : Stays read_byte
byte_stays [] more = inl refl
byte_stays (b ∷ front) more = inr refl

number_stays : (w : Width) → Stays (read_number w)
number_stays w front more =
    elim (cases_lt (length front) (byte_len w)) [
      | inl lt ↦ inl (rw (lt-ltb _ _ lt) refl)
      | inr le ↦
          let long : ltb (length front) (byte_len w) ≡ false = le-ltb _ _ le in
          let longer : ltb (length (front ++ more)) (byte_len w) ≡ false =
          le-ltb _ _ (omega (arith, le, length-append front more)) in
          inr (rw (
            long,
            longer,
            take-append-le (byte_len w) front more le,
            drop-append-le (byte_len w) front more le,
          ) refl)
    ]

positive_stays : Stays read_positive
unfolding read_positive
positive_stays =
    and_then (read_number w64) (λ n rest. cond (eqb n 0) (Err faults.ZeroNumber) (Ok (n, rest)))
    (number_stays w64) (λ n.
    tested (eqb n 0) (λ rest. Err faults.ZeroNumber) (λ rest. Ok (n, rest))
    (refused faults.ZeroNumber) (given n))

port_stays : Stays read_port
unfolding read_port
port_stays =
    and_then read_byte (λ b rest. cond (ltb 15 b) (Err faults.PortNo) (Ok (b, rest))) byte_stays
    (λ b.
    tested (ltb 15 b) (λ rest. Err faults.PortNo) (λ rest. Ok (b, rest)) (refused faults.PortNo)
    (given b))

abbrev measured : ℕ → Reader (List ℕ)
measured n rest = cond (ltb (length rest) (4 * n)) (Err faults.Short)
    (Ok (values_in n (take (4 * n) rest), drop (4 * n) rest))

measured_stays : (n : ℕ) → Stays (measured n)
measured_stays n front more =
    elim (cases_lt (length front) (4 * n)) [
      | inl lt ↦ inl (rw (lt-ltb _ _ lt) refl)
      | inr le ↦
          let long : ltb (length front) (4 * n) ≡ false = le-ltb _ _ le in
          let longer : ltb (length (front ++ more)) (4 * n) ≡ false =
          le-ltb _ _ (omega (arith, le, length-append front more)) in
          inr (rw (
            long,
            longer,
            take-append-le (4 * n) front more le,
            drop-append-le (4 * n) front more le,
          ) refl)
    ]

values_stay : Stays read_values
unfolding read_values
values_stay =
    and_then read_byte (λ n rest. cond (ltb 8 n) (Err faults.Count) (measured n rest)) byte_stays
    (λ n.
    tested (ltb 8 n) (λ rest. Err faults.Count) (measured n) (refused faults.Count)
    (measured_stays n))

head_stays : Stays read_head
unfolding read_head
head_stays =
    and_then (read_number w16) (λ c rest. read_positive rest >>= λ r. read_number w16 r.1 >>= λ i.
    Ok (head_made c r.0 i.0, i.1)) (number_stays w16) (λ c.
    and_then read_positive (λ r rest. read_number w16 rest >>= λ i. Ok (head_made c r i.0, i.1))
    positive_stays (λ r.
    and_then (read_number w16) (λ i rest. Ok (head_made c r i, rest)) (number_stays w16)
    (λ i. given (head_made c r i))))

-- ---- parts that rise

rising_stays : (low : ℕ) → Stays (read_rising low)
unfolding read_rising
rising_stays low =
    and_then (read_number w16) (λ c rest. cond (ltb c low) (Err faults.Order) (Ok (c, rest)))
    (number_stays w16) (λ c.
    tested (ltb c low) (λ rest. Err faults.Order) (λ rest. Ok (c, rest)) (refused faults.Order)
    (given c))

parts_stay : {A : Type 0} (read : PartReader A) (key : A → ℕ) → ((low : ℕ) → Stays (read low))
    → (n low : ℕ) → Stays (read_parts read key n low)
unfolding read_parts
parts_stay read key stays zero low = given []
parts_stay {A = A} read key stays (suc n) low =
    and_then (read low) (λ x rest. read_parts read key n
    (key x + 1) rest >>= λ others. Ok (x ∷ others.0, others.1)) (stays low) (λ x.
    and_then (read_parts read key n (key x + 1)) (λ (xs : List A) rest. Ok (x ∷ xs, rest))
    (parts_stay read key stays n (key x + 1)) (λ xs. given (x ∷ xs)))

abbrev counted : ℕ → ℕ → Reader ℕ
counted most n rest = cond (ltb most n) (Err faults.Count) (Ok (n, rest))

count_stays : (most : ℕ) → Stays (read_count most)
unfolding read_count
count_stays most =
    and_then read_byte (λ n rest. cond (eqb n 0) (Err faults.Count) (counted most n rest))
    byte_stays (λ n.
    tested (eqb n 0) (λ rest. Err faults.Count) (counted most n) (refused faults.Count)
    (tested (ltb most n) (λ rest. Err faults.Count) (λ rest. Ok (n, rest)) (refused faults.Count)
    (given n)))

list_stays : {A : Type 0} (most : ℕ) (read : PartReader A) (key : A → ℕ)
    → ((low : ℕ) → Stays (read low)) → Stays (read_list most read key)
unfolding read_list
list_stays most read key stays = and_then (read_count most) (λ n. read_parts read key n 0)
    (count_stays most) (λ n. parts_stay read key stays n 0)

-- ---- entries and reasons

role_stays : Stays read_role
unfolding read_role
role_stays =
    and_then read_byte (λ b rest. cond (ltb 1 b) (Err faults.Role) (Ok (role_in b, rest)))
    byte_stays (λ b.
    tested (ltb 1 b) (λ rest. Err faults.Role) (λ rest. Ok (role_in b, rest)) (refused faults.Role)
    (given (role_in b)))

entry_stays : (low : ℕ) → Stays (read_entry low)
unfolding read_entry
entry_stays low =
    and_then (read_rising low) (λ c rest. read_role rest >>= λ r. read_positive r.1 >>= λ n.
    Ok (want_made c r.0 n.0, n.1)) (rising_stays low) (λ c.
    and_then read_role (λ r rest. read_positive rest >>= λ n. Ok (want_made c r n.0, n.1))
    role_stays (λ r.
    and_then read_positive (λ n rest. Ok (want_made c r n, rest)) positive_stays
    (λ n. given (want_made c r n))))

reason_stays : (low : ℕ) → Stays (read_reason low)
unfolding read_reason
reason_stays low =
    and_then (read_rising low) (λ i rest. read_number w16 rest >>= λ c.
    Ok (why_made i (cause_of_number c.0), c.1)) (rising_stays low) (λ i.
    and_then (read_number w16) (λ c rest. Ok (why_made i (cause_of_number c), rest))
    (number_stays w16) (λ c. given (why_made i (cause_of_number c))))

entries_stay : Stays read_entries
entries_stay = list_stays 32 read_entry comp_of entry_stays

reasons_stay : Stays read_reasons
reasons_stay = list_stays 127 read_reason inter_of reason_stays

moving_stays : (r : Request) → Stays (if_moving r)
moving_stays r = tested (one_moves r.wants) (λ rest. Ok (r, rest)) (λ rest. Err faults.NoMover)
    (given r) (refused faults.NoMover)

-- ---- kinds

offer_stays : Stays read_offer
unfolding read_offer
offer_stays =
    and_then (read_number w16) (λ c rest. read_positive rest >>= λ n. read_number w16 n.1 >>= λ p.
    read_values p.1 >>= λ v. Ok (offer_made c n.0 p.0 v.0, v.1)) (number_stays w16) (λ c.
    and_then read_positive (λ n rest. read_number w16 rest >>= λ p. read_values p.1 >>= λ v.
    Ok (offer_made c n p.0 v.0, v.1)) positive_stays (λ n.
    and_then (read_number w16) (λ p rest. read_values rest >>= λ v. Ok (offer_made c n p v.0, v.1))
    (number_stays w16) (λ p.
    and_then read_values (λ v rest. Ok (offer_made c n p v, rest)) values_stay
    (λ v. given (offer_made c n p v)))))

notify_stays : Stays read_notify
unfolding read_notify
notify_stays =
    and_then (read_number w16) (λ c rest. read_positive rest >>= λ n. read_port n.1 >>= λ p.
    read_values p.1 >>= λ v. Ok (notify_made c n.0 p.0 v.0, v.1)) (number_stays w16) (λ c.
    and_then read_positive (λ n rest. read_port rest >>= λ p. read_values p.1 >>= λ v.
    Ok (notify_made c n p.0 v.0, v.1)) positive_stays (λ n.
    and_then read_port (λ p rest. read_values rest >>= λ v. Ok (notify_made c n p v.0, v.1))
    port_stays (λ p.
    and_then read_values (λ v rest. Ok (notify_made c n p v, rest)) values_stay
    (λ v. given (notify_made c n p v)))))

granted_stays : Stays read_granted
unfolding read_granted
granted_stays =
    and_then read_head (λ h rest. read_number w64 rest >>= λ s. Ok (granted_made h s.0, s.1))
    head_stays (λ h.
    and_then (read_number w64) (λ s rest. Ok (granted_made h s, rest)) (number_stays w64)
    (λ s. given (granted_made h s)))

refused_stays : Stays read_refused
unfolding read_refused
refused_stays =
    and_then read_head (λ h rest. read_number w16 rest >>= λ c. read_positive c.1 >>= λ u.
    Ok (refused_made h c.0 u.0, u.1)) head_stays (λ h.
    and_then (read_number w16) (λ c rest. read_positive rest >>= λ u.
    Ok (refused_made h c u.0, u.1)) (number_stays w16) (λ c.
    and_then read_positive (λ u rest. Ok (refused_made h c u, rest)) positive_stays
    (λ u. given (refused_made h c u))))

request_stays : Stays read_request
unfolding read_request
request_stays =
    and_then read_head (λ h rest. read_entries rest >>= λ ws. if_moving
    (request_made h ws.0 []) ws.1) head_stays (λ h.
    and_then read_entries (λ (ws : List Want) rest. if_moving (request_made h ws []) rest)
    entries_stay (λ ws. moving_stays (request_made h ws [])))

explained_stays : Stays read_explained
unfolding read_explained
explained_stays =
    and_then read_head (λ h rest. read_entries rest >>= λ ws. read_reasons ws.1 >>= λ ys. if_moving
    (request_made h ws.0 ys.0) ys.1) head_stays (λ h.
    and_then read_entries (λ (ws : List Want) rest. read_reasons rest >>= λ ys. if_moving
    (request_made h ws ys.0) ys.1) entries_stay (λ ws.
    and_then read_reasons (λ (ys : List Why) rest. if_moving (request_made h ws ys) rest)
    reasons_stay (λ ys. moving_stays (request_made h ws ys))))

message_stays : {A : Type 0} (message : A → Message) (read : Reader A) → Stays read
    → Stays (λ bytes. as_message message (read bytes))
message_stays message read stays = and_then read (λ x rest. Ok (message x, rest)) stays
    (λ x. given (message x))

kind_stays : (kind : ℕ) → Stays (of_kind kind)
kind_stays kind =
    tested (eqb kind 1) (λ rest. as_message of_offer (read_offer rest)) (λ rest. from_2 rest)
    (message_stays of_offer read_offer offer_stays)
    (tested (eqb kind 2) (λ rest. as_message of_request (read_request rest)) (λ rest. from_3 rest)
    (message_stays of_request read_request request_stays)
    (tested (eqb kind 3) (λ rest. as_message of_reply (read_granted rest)) (λ rest. from_4 rest)
    (message_stays of_reply read_granted granted_stays)
    (tested (eqb kind 4) (λ rest. as_message of_reply (read_refused rest)) (λ rest. from_5 rest)
    (message_stays of_reply read_refused refused_stays)
    (tested (eqb kind 5) (λ rest. as_message of_notify (read_notify rest)) (λ rest. from_6 rest)
    (message_stays of_notify read_notify notify_stays)
    (tested (eqb kind 6) (λ rest. as_message of_request (read_explained rest))
    (λ rest. Err faults.Kind) (message_stays of_request read_explained explained_stays)
    (refused faults.Kind))))))
  where
    from_6 : Reader Message
    from_6 rest = cond (eqb kind 6) (as_message of_request (read_explained rest)) (Err faults.Kind)

    from_5 : Reader Message
    from_5 rest = cond (eqb kind 5) (as_message of_notify (read_notify rest)) (from_6 rest)

    from_4 : Reader Message
    from_4 rest = cond (eqb kind 4) (as_message of_reply (read_refused rest)) (from_5 rest)

    from_3 : Reader Message
    from_3 rest = cond (eqb kind 3) (as_message of_reply (read_granted rest)) (from_4 rest)

    from_2 : Reader Message
    from_2 rest = cond (eqb kind 2) (as_message of_request (read_request rest)) (from_3 rest)

pub frame_stays : Stays read_frame
unfolding read_frame
frame_stays = and_then read_byte of_kind byte_stays kind_stays
