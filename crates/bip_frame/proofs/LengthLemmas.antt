-- How long a frame is, and that it is made of bytes.
use Rattle.std.proofs.Common.{◌≡◌, ℕ, suc, zero, ◌<◌, ◌≤◌, List, [], ◌∷◌, ◌++◌, length}
use Rattle.std.proofs.Common.{refl, sym, ap, subst, ◌∙◌, arith}
use Rattle.std.specs.Int.{w16, w32, w64, to_be_bytes}
use Rattle.std.specs.List.{flat_map}
use Rattle.std.proofs.lemmas.List.{take_at, length-append}
use Rattle.std.proofs.lemmas.List.Concat.{flat_map-cons}
use Rattle.bip_model.specs.declared.messages.Notify.{Notify}
use Rattle.bip_model.specs.declared.messages.Offer.{Offer}
use Rattle.bip_model.specs.declared.messages.Reply.TheVariants.{Granted, Refused}
use Rattle.bip_model.specs.Reasons.{cause_number}
use Rattle.bip_model.specs.declared.reasons.Why.{Why}
use Rattle.bip_model.specs.declared.wants.Role.TheVariants.{Moved, Seen}
use Rattle.bip_model.specs.declared.wants.Role.{Role}
use Rattle.bip_model.specs.declared.wants.Want.{Want}
use Rattle.bip_frame.specs.Frames.{Message, of_offer, of_request, of_reply, of_notify, entry}
use Rattle.bip_frame.specs.Frames.{role_byte, spelling, counted_values, counted_entries}
use Rattle.bip_frame.specs.Frames.{head_fields}
use Rattle.bip_frame.specs.Frames.{offer_fields, request_fields, granted_fields, refused_fields}
use Rattle.bip_frame.specs.Frames.{notify_fields, CanBeFramed, IsFrame}
use Rattle.bip_frame.specs.Frames.{reason_entry, reason_fields, request_kind}
use Rattle.bip_frame.specs.Laws.{frame_length, reasons_length}
use Rattle.bip_frame.proofs.EntryLemmas.{entries_long, entries_spelled}
use Rattle.bip_frame.proofs.ReasonLemmas.{reasons_long}
use Rattle.bip_frame.proofs.FieldLemmas.{IsBytes, IsBytes-take, values_long}

-- ---- lengths

pub reason_fields_long : (ys : List Why) → length (reason_fields ys) ≡ reasons_length ys
reason_fields_long [] = refl
reason_fields_long (y ∷ ys) = omega (arith, reasons_long (y ∷ ys))

spelled_long : (m : Message) → length (spelling m) ≡ frame_length m
spelled_long (of_offer o) = omega (arith, values_long o.values)
spelled_long (of_request r) = omega (
  arith,
  length-append (entries_spelled r.wants) (reason_fields
      r.reasons),
  entries_long r.wants,
  reason_fields_long r.reasons,
)
spelled_long (of_reply (Granted c r i s)) = refl
spelled_long (of_reply (Refused c r i k u)) = refl
spelled_long (of_notify n) = omega (arith, values_long n.values)

pub frame_long : (m : Message) (a : List ℕ) → IsFrame m a → length a ≡ frame_length m
frame_long m a frame = ap length frame.is ∙ spelled_long m

-- ---- bytes

IsBytes-none : IsBytes []
IsBytes-none i = omega arith

IsBytes-cons : (b : ℕ) (bytes : List ℕ) → b < 256 → IsBytes bytes → IsBytes (b ∷ bytes)
IsBytes-cons b bytes lt fits zero = lt
IsBytes-cons b bytes lt fits (suc i) = fits i

IsBytes-append : (a b : List ℕ) → IsBytes a → IsBytes b → IsBytes (a ++ b)
IsBytes-append [] b first second = second
IsBytes-append (x ∷ a) b first second = IsBytes-cons x (a ++ b) (first 0)
    (IsBytes-append a b (λ i. first (suc i)) second)

two : (n : ℕ) → IsBytes (to_be_bytes w16 n)
two n zero = omega arith
two n (suc zero) = omega arith
two n (suc (suc i)) = IsBytes-none i

four : (n : ℕ) → IsBytes (to_be_bytes w32 n)
four n zero = omega arith
four n (suc zero) = omega arith
four n (suc (suc zero)) = omega arith
four n (suc (suc (suc zero))) = omega arith
four n (suc (suc (suc (suc i)))) = IsBytes-none i

eight : (n : ℕ) → IsBytes (to_be_bytes w64 n)
eight n zero = omega arith
eight n (suc zero) = omega arith
eight n (suc (suc zero)) = omega arith
eight n (suc (suc (suc zero))) = omega arith
eight n (suc (suc (suc (suc zero)))) = omega arith
eight n (suc (suc (suc (suc (suc zero))))) = omega arith
eight n (suc (suc (suc (suc (suc (suc zero)))))) = omega arith
eight n (suc (suc (suc (suc (suc (suc (suc zero))))))) = omega arith
eight n (suc (suc (suc (suc (suc (suc (suc (suc i)))))))) = IsBytes-none i

each : {A : Type 0} (f : A → List ℕ) (xs : List A) → ((x : A) → IsBytes (f x))
    → IsBytes (flat_map f xs)
each f [] fits = IsBytes-none
each f (x ∷ xs) fits = subst IsBytes (sym (flat_map-cons f x xs))
    (IsBytes-append (f x) (flat_map f xs) (fits x) (each f xs fits))

role_fits : (r : Role) → role_byte r < 256
role_fits Moved = omega arith
role_fits Seen = omega arith

entry_fits : (w : Want) → IsBytes (entry w)
entry_fits w = IsBytes-append (to_be_bytes w16 w.comp.0)
    (role_byte w.role ∷ to_be_bytes w64 w.number) (two w.comp.0)
    (IsBytes-cons (role_byte w.role) (to_be_bytes w64 w.number) (role_fits w.role) (eight w.number))

values_fit : (values : List ℕ) → length values ≤ 8 → IsBytes (counted_values values)
values_fit values few = IsBytes-cons (length values) (flat_map (to_be_bytes w32) values)
    (omega arith) (each (to_be_bytes w32) values four)

entries_fit : (ws : List Want) → length ws ≤ 32 → IsBytes (counted_entries ws)
entries_fit ws few = IsBytes-cons (length ws) (flat_map entry ws) (omega arith)
    (each entry ws entry_fits)

reason_fits : (y : Why) → IsBytes (reason_entry y)
reason_fits y = IsBytes-append (to_be_bytes w16 y.inter.0) (to_be_bytes w16 (cause_number y.cause))
    (two y.inter.0) (two (cause_number y.cause))

reasons_fit : (ys : List Why) → length ys ≤ 127 → IsBytes (reason_fields ys)
reasons_fit [] few = IsBytes-none
reasons_fit (y ∷ ys) few = IsBytes-cons (length (y ∷ ys)) (flat_map reason_entry (y ∷ ys))
    (omega (arith, few)) (each reason_entry (y ∷ ys) reason_fits)

kind_fits : (ys : List Why) → request_kind ys < 256
kind_fits [] = omega arith
kind_fits (y ∷ ys) = omega arith

head_fits : (c r i : ℕ) → IsBytes (head_fields c r i)
head_fits c r i = IsBytes-append (to_be_bytes w16 c) (to_be_bytes w64 r ++ to_be_bytes w16 i)
    (two c) (IsBytes-append (to_be_bytes w64 r) (to_be_bytes w16 i) (eight r) (two i))

-- a number in front of bytes
IsBytes-two : (n : ℕ) (bytes : List ℕ) → IsBytes bytes → IsBytes (to_be_bytes w16 n ++ bytes)
IsBytes-two n bytes fits = IsBytes-append (to_be_bytes w16 n) bytes (two n) fits

IsBytes-eight : (n : ℕ) (bytes : List ℕ) → IsBytes bytes → IsBytes (to_be_bytes w64 n ++ bytes)
IsBytes-eight n bytes fits = IsBytes-append (to_be_bytes w64 n) bytes (eight n) fits

offer_fits : (o : Offer) → length o.values ≤ 8 → IsBytes (offer_fields o)
offer_fits o few =
    let values : List ℕ = counted_values o.values in
    let ports : List ℕ = to_be_bytes w16 o.ports ++ values in
    IsBytes-two o.comp.0 (to_be_bytes w64 o.number ++ ports)
    (IsBytes-eight o.number ports (IsBytes-two o.ports values (values_fit o.values few)))

notify_fits : (n : Notify) → n.port.0 < 16 → length n.values ≤ 8 → IsBytes (notify_fields n)
notify_fits n port few =
    let values : List ℕ = counted_values n.values in
    IsBytes-two n.comp.0 (to_be_bytes w64 n.number ++ (n.port.0 ∷ values))
    (IsBytes-eight n.number (n.port.0 ∷ values)
    (IsBytes-cons n.port.0 values (omega arith) (values_fit n.values few)))

spelling_fits : (m : Message) → CanBeFramed m → IsBytes (spelling m)
spelling_fits (of_offer o) can = IsBytes-cons 1 (offer_fields o) (omega arith)
    (offer_fits o can.few)
spelling_fits (of_request r) can =
    let lists : IsBytes (counted_entries r.wants ++ reason_fields r.reasons) =
    IsBytes-append (counted_entries r.wants) (reason_fields r.reasons)
    (entries_fit r.wants can.wants.few) (reasons_fit r.reasons can.reasons.few) in
    IsBytes-cons (request_kind r.reasons) (request_fields r) (kind_fits r.reasons)
    (IsBytes-append (head_fields r.class.0 r.request r.inter.0)
    (counted_entries r.wants ++ reason_fields r.reasons)
    (head_fits r.class.0 r.request r.inter.0) lists)
spelling_fits (of_reply (Granted c r i s)) can =
    IsBytes-cons 3 (granted_fields c.0 r i.0 s) (omega arith)
    (IsBytes-append (head_fields c.0 r i.0) (to_be_bytes w64 s) (head_fits c.0 r i.0) (eight s))
spelling_fits (of_reply (Refused c r i k u)) can =
    IsBytes-cons 4 (refused_fields c.0 r i.0 k.0 u) (omega arith)
    (IsBytes-append (head_fields c.0 r i.0) (to_be_bytes w16 k.0 ++ to_be_bytes w64 u)
    (head_fits c.0 r i.0) (IsBytes-two k.0 (to_be_bytes w64 u) (eight u)))
spelling_fits (of_notify n) can = IsBytes-cons 5 (notify_fields n) (omega arith)
    (notify_fits n can.port can.few)

pub front_fits : (m : Message) (front more : List ℕ) → IsFrame m (front ++ more) → IsBytes front
front_fits m front more frame =
    let whole : IsBytes (front ++ more) =
    subst IsBytes (sym frame.is) (spelling_fits m frame.can) in
    subst IsBytes (take_at front more (length front) refl)
    (IsBytes-take (length front) (front ++ more) whole)
