-- What is read is spelled so, and what is spelled so is read.
use Rattle.bip_model.specs.declared.reasons.Why.{Why}
use Rattle.std.proofs.Common.{◌≡◌, ℕ, ◌+◌, ◌*◌, ◌^◌, Bool, true, false, cond, eqb, ltb, List, []}
use Rattle.std.proofs.Common.{◌∷◌, ◌++◌}
use Rattle.std.proofs.Common.{length, take, drop, Result, Ok, Err, refl, sym, ap, subst, ◌∙◌}
use Rattle.std.proofs.Common.{append_assoc, arith, ◌≤◌}
use Rattle.std.specs.Prelude.{IfOk}
use Rattle.std.specs.Int.{Width, w16, w64, byte_len, from_be_bytes, to_be_bytes}
use Rattle.std.proofs.lemmas.Bool.{eqb-true, ltb-false}
use Rattle.std.proofs.lemmas.List.{append-nil, nil_from_length, take-take, drop-take, drop-drop}
use Rattle.std.proofs.lemmas.List.{length-drop}
use Rattle.bip_model.specs.declared.messages.Notify.{Notify}
use Rattle.bip_model.specs.declared.messages.Offer.{Offer}
use Rattle.bip_model.specs.declared.messages.Reply.{Reply}
use Rattle.bip_model.specs.declared.messages.Reply.TheVariants.{Granted, Refused}
use Rattle.bip_model.specs.declared.messages.Request.{Request}
use Rattle.bip_frame.specs.declared.faults.FrameFault.{FrameFault}
use Rattle.bip_frame.specs.declared.faults.FrameFault.TheVariants.{Kind, Long, NoMover, Short}
use Rattle.bip_frame.specs.declared.faults.FrameFault.TheVariants.{ZeroNumber}
use Rattle.bip_frame.specs.declared.frames.Frame.{Frame}
use Rattle.bip_frame.specs.declared.frames.Frame.TheVariants as frames
use Rattle.bip_frame.specs.Frames.{Message, Head, of_offer, of_request, of_reply, of_notify}
use Rattle.bip_frame.specs.Frames.{counted_values, head_fields, offer_fields, request_fields}
use Rattle.bip_frame.specs.Frames.{notify_fields, spelling, IsOffer, IsRequest, IsGranted}
use Rattle.bip_frame.specs.Frames.{IsRefused, IsNotify, CanBeFramed, IsFrame, IsHead, FitsInter}
use Rattle.bip_frame.specs.Frames.{reason_fields, request_kind}
use Rattle.bip_model.specs.Reasons.{IsNameable, IsReasons}
use Rattle.std.specs.List.{AllByRecursion}
use Rattle.std.proofs.lemmas.List.Elements.{All-from_recursion}
use Rattle.bip_model.specs.declared.wants.Want.{Want}
use Rattle.bip_frame.specs.Entries.{one_moves, read_entries, read_reasons}
use Rattle.bip_frame.specs.Faults.{IsList, entry_parts, list_spelled, reason_parts}
use Rattle.bip_frame.specs.Fields.{head_made, ◌>>=◌, Gives, read_number, read_positive, read_port}
use Rattle.bip_frame.specs.Fields.{read_values, read_head}
use Rattle.bip_frame.specs.Reading.{granted_made, notify_made, offer_made, refused_made}
use Rattle.bip_frame.specs.Reading.{request_made, read_offer, read_notify, read_granted}
use Rattle.bip_frame.specs.Reading.{read_refused, read_request, as_message, of_kind, read_frame}
use Rattle.bip_frame.specs.Reading.{if_moving, read_explained}
use Rattle.bip_frame.specs.Reading.{read_whole}
use Rattle.bip_frame.specs.Views.{message_shown, IsLent}
use Rattle.bip_frame.proofs.FieldLemmas.{IsBytes, IsBytes-rest, bind_ok, guarded, allowed, done}
use Rattle.bip_frame.proofs.FieldLemmas.{ok_is, Takes, Takes-then, wide16, wide64, number_takes}
use Rattle.bip_frame.proofs.FieldLemmas.{number_again, positive_takes, positive_again, port_takes}
use Rattle.bip_frame.proofs.FieldLemmas.{port_again, values_take, values_read, head_takes}
use Rattle.bip_frame.proofs.FieldLemmas.{head_again}
use Rattle.bip_frame.proofs.EntryLemmas.{are_wants, entries_fit, entries_list}
use Rattle.bip_frame.proofs.EntryLemmas.{wants_listed}
use Rattle.bip_frame.proofs.ReasonLemmas.{are_reasons, reasons_fit, reasons_list, reasons_listed}
use Rattle.bip_frame.proofs.ReasonLemmas.{some_reasons}

Takes-cons : (k : ℕ) (bytes text rest : List ℕ) → Takes bytes text rest
    → Takes (k ∷ bytes) (k ∷ text) rest
Takes-cons k bytes text rest t = record {
  parts = ap (λ (x : List ℕ). k ∷ x) t.parts;
  rest_fits = t.rest_fits;
}

regroup : (a b c d rest : List ℕ) → (a ++ (b ++ (c ++ d))) ++ rest ≡ a ++ (b ++ (c ++ (d ++ rest)))
regroup a b c d rest = simp append_assoc

-- ---- offers

offer_takes : (bytes : List ℕ) (o : Offer) (rest : List ℕ) → IsBytes bytes
    → read_offer bytes ≡ Ok (o, rest) → Takes bytes (offer_fields o) rest × IsOffer o
unfolding read_offer
offer_takes bytes o rest fits e =
    let a =
    bind_ok (read_number w16 bytes) (λ comp. read_positive comp.1 >>= λ number. read_number w16
    number.1 >>= λ ports. read_values ports.1 >>= λ values.
    Ok (offer_made comp.0 number.0 ports.0 values.0, values.1)) (o, rest) e in
    let b =
    bind_ok (read_positive a.0.1) (λ number. read_number w16 number.1 >>= λ ports. read_values
    ports.1 >>= λ values. Ok (offer_made a.0.0 number.0 ports.0 values.0, values.1))
    (o, rest) a.2 in
    let c =
    bind_ok (read_number w16 b.0.1) (λ ports. read_values ports.1 >>= λ values.
    Ok (offer_made a.0.0 b.0.0 ports.0 values.0, values.1)) (o, rest) b.2 in
    let d =
    bind_ok (read_values c.0.1) (λ values. Ok (offer_made a.0.0 b.0.0 c.0.0 values.0, values.1))
    (o, rest) c.2 in
    let t0 = number_takes w16 (2 ^ 16) wide16 bytes a.0.0 a.0.1 fits a.1 in
    let t1 = positive_takes a.0.1 b.0.0 b.0.1 t0.0.rest_fits b.1 in
    let t2 = number_takes w16 (2 ^ 16) wide16 b.0.1 c.0.0 c.0.1 t1.0.rest_fits c.1 in
    let t3 = values_take c.0.1 d.0.0 d.0.1 t2.0.rest_fits d.1 in
    let e23 =
    Takes-then b.0.1 (to_be_bytes w16 c.0.0) c.0.1 (counted_values d.0.0) d.0.1 t2.0 t3.0 in
    let e13 =
    Takes-then a.0.1 (to_be_bytes w64 b.0.0) b.0.1
    (to_be_bytes w16 c.0.0 ++ counted_values d.0.0) d.0.1 t1.0 e23 in
    let e03 =
    Takes-then bytes (to_be_bytes w16 a.0.0) a.0.1
    (to_be_bytes w64 b.0.0 ++ (to_be_bytes w16 c.0.0 ++ counted_values d.0.0)) d.0.1 t0.0 e13 in
    let made : Offer × List ℕ = (offer_made a.0.0 b.0.0 c.0.0 d.0.0, d.0.1) in
    subst (λ (p : Offer × List ℕ). Takes bytes (offer_fields p.0) p.1 × IsOffer p.0)
    (ok_is made (o, rest) d.2) (
      e03,
      record {
        comp = t0.1;
        some = t1.1;
        number = t1.2;
        ports = t2.1;
        few = t3.1;
        values = t3.2;
      },
    )

offer_again : (o : Offer) (rest : List ℕ) → IsOffer o
    → read_offer (offer_fields o ++ rest) ≡ Ok (o, rest)
unfolding read_offer
offer_again o rest fits =
    ap read_offer (regroup (to_be_bytes w16 o.comp.0) (to_be_bytes w64 o.number)
    (to_be_bytes w16 o.ports) (counted_values o.values) rest)
    ∙ rw (
      number_again w16 (2 ^ 16) wide16 o.comp.0 (to_be_bytes w64 o.number
          ++ (to_be_bytes w16 o.ports ++ (counted_values o.values ++ rest))) fits.comp,
      positive_again o.number (to_be_bytes w16 o.ports ++ (counted_values o.values ++ rest))
          fits.some fits.number,
      number_again w16 (2 ^ 16) wide16 o.ports
          (counted_values o.values ++ rest) fits.ports,
      values_read o.values rest fits.few fits.values,
    ) refl

-- ---- notifications

notify_takes : (bytes : List ℕ) (o : Notify) (rest : List ℕ) → IsBytes bytes
    → read_notify bytes ≡ Ok (o, rest) → Takes bytes (notify_fields o) rest × IsNotify o
unfolding read_notify
notify_takes bytes o rest fits e =
    let a =
    bind_ok (read_number w16 bytes) (λ comp. read_positive comp.1 >>= λ number. read_port number.1
    >>= λ port. read_values port.1 >>= λ values.
    Ok (notify_made comp.0 number.0 port.0 values.0, values.1)) (o, rest) e in
    let b =
    bind_ok (read_positive a.0.1) (λ number. read_port number.1 >>= λ port. read_values port.1 >>=
    λ values. Ok (notify_made a.0.0 number.0 port.0 values.0, values.1)) (o, rest) a.2 in
    let c =
    bind_ok (read_port b.0.1) (λ port. read_values port.1 >>= λ values.
    Ok (notify_made a.0.0 b.0.0 port.0 values.0, values.1)) (o, rest) b.2 in
    let d =
    bind_ok (read_values c.0.1) (λ values. Ok (notify_made a.0.0 b.0.0 c.0.0 values.0, values.1))
    (o, rest) c.2 in
    let t0 = number_takes w16 (2 ^ 16) wide16 bytes a.0.0 a.0.1 fits a.1 in
    let t1 = positive_takes a.0.1 b.0.0 b.0.1 t0.0.rest_fits b.1 in
    let t2 = port_takes b.0.1 c.0.0 c.0.1 t1.0.rest_fits c.1 in
    let t3 = values_take c.0.1 d.0.0 d.0.1 t2.0.rest_fits d.1 in
    let e23 = Takes-then b.0.1 (c.0.0 ∷ []) c.0.1 (counted_values d.0.0) d.0.1 t2.0 t3.0 in
    let e13 =
    Takes-then a.0.1 (to_be_bytes w64 b.0.0) b.0.1 (c.0.0 ∷ counted_values d.0.0) d.0.1 t1.0 e23 in
    let e03 =
    Takes-then bytes (to_be_bytes w16 a.0.0) a.0.1
    (to_be_bytes w64 b.0.0 ++ (c.0.0 ∷ counted_values d.0.0)) d.0.1 t0.0 e13 in
    let made : Notify × List ℕ = (notify_made a.0.0 b.0.0 c.0.0 d.0.0, d.0.1) in
    subst (λ (p : Notify × List ℕ). Takes bytes (notify_fields p.0) p.1 × IsNotify p.0)
    (ok_is made (o, rest) d.2) (
      e03,
      record {
        comp = t0.1;
        some = t1.1;
        number = t1.2;
        port = t2.1;
        few = t3.1;
        values = t3.2;
      },
    )

notify_again : (o : Notify) (rest : List ℕ) → IsNotify o
    → read_notify (notify_fields o ++ rest) ≡ Ok (o, rest)
unfolding read_notify
notify_again o rest fits =
    ap read_notify (regroup (to_be_bytes w16 o.comp.0) (to_be_bytes w64 o.number) (o.port.0 ∷ [])
    (counted_values o.values) rest)
    ∙ rw (
      number_again w16 (2 ^ 16) wide16 o.comp.0 (to_be_bytes w64 o.number
          ++ (o.port.0 ∷ (counted_values o.values ++ rest))) fits.comp,
      positive_again o.number
          (o.port.0 ∷ (counted_values o.values ++ rest)) fits.some fits.number,
      port_again o.port.0
          (counted_values o.values ++ rest) fits.port,
      values_read o.values rest fits.few fits.values,
    )
    refl

-- ---- replies

granted_takes : (bytes : List ℕ) (y : Reply) (rest : List ℕ) → IsBytes bytes
    → read_granted bytes ≡ Ok (y, rest)
    → Takes (3 ∷ bytes) (spelling (of_reply y)) rest × CanBeFramed (of_reply y)
unfolding read_granted
granted_takes bytes y rest fits e =
    let a =
    bind_ok (read_head bytes) (λ head. read_number w64 head.1 >>= λ serial.
    Ok (granted_made head.0 serial.0, serial.1)) (y, rest) e in
    let b =
    bind_ok (read_number w64 a.0.1) (λ serial. Ok (granted_made a.0.0 serial.0, serial.1))
    (y, rest) a.2 in
    let t0 = head_takes bytes a.0.0 a.0.1 fits a.1 in
    let t1 = number_takes w64 (2 ^ 64) wide64 a.0.1 b.0.0 b.0.1 t0.0.rest_fits b.1 in
    let e01 =
    Takes-then bytes (head_fields a.0.0.class a.0.0.request a.0.0.inter) a.0.1
    (to_be_bytes w64 b.0.0) b.0.1 t0.0 t1.0 in
    let made : Reply × List ℕ = (granted_made a.0.0 b.0.0, b.0.1) in
    subst (λ (p : Reply × List ℕ). Takes (3 ∷ bytes) (spelling (of_reply p.0)) p.1
    × CanBeFramed (of_reply p.0)) (ok_is made (y, rest) b.2) (
      Takes-cons 3 bytes (head_fields a.0.0.class a.0.0.request a.0.0.inter
          ++ to_be_bytes w64 b.0.0) b.0.1 e01,
      record { head = t0.1; serial_fits = t1.1 },
    )

granted_again : (c r i s : ℕ) (rest : List ℕ) → IsGranted c r i s
    → read_granted ((head_fields c r i ++ to_be_bytes w64 s) ++ rest)
    ≡ Ok (granted_made (head_made c r i) s, rest)
unfolding read_granted
granted_again c r i s rest fits =
    ap read_granted (append_assoc (head_fields c r i) (to_be_bytes w64 s) rest)
    ∙ rw (
      head_again c r i (to_be_bytes w64 s ++ rest) fits.head,
      number_again w64 (2 ^ 64) wide64 s rest fits.serial_fits,
    ) refl

-- a component and its used number lie in the ten bytes at the front
pub record Used (behind : List ℕ) (c n : ℕ) : Type 0 where
  pub long : 10 ≤ length behind
  pub comp : from_be_bytes w16 (take 2 (take 10 behind)) ≡ c
  pub number : from_be_bytes w64 (drop 2 (take 10 behind)) ≡ n

number_lies : (w : Width) (bytes : List ℕ) (n : ℕ) (rest : List ℕ)
    → read_number w bytes ≡ Ok (n, rest)
    → (byte_len w ≤ length bytes) × (from_be_bytes w (take (byte_len w) bytes) ≡ n)
    × (drop (byte_len w) bytes ≡ rest)
number_lies w bytes n rest e =
    let g =
    guarded (ltb (length bytes) (byte_len w)) Short
    (Ok (from_be_bytes w (take (byte_len w) bytes), drop (byte_len w) bytes)) (n, rest) e in
    let same =
    ok_is (from_be_bytes w (take (byte_len w) bytes), drop (byte_len w) bytes) (n, rest) g.1 in
    (ltb-false _ _ g.0, ap (λ (p : ℕ × List ℕ). p.0) same, ap (λ (p : ℕ × List ℕ). p.1) same)

pub used_lies : (behind : List ℕ) (c : ℕ) (used : List ℕ) (n : ℕ) (rest : List ℕ)
    → read_number w16 behind ≡ Ok (c, used) → read_positive used ≡ Ok (n, rest) → Used behind c n
unfolding read_positive
used_lies behind c used n rest comp number =
    let a = number_lies w16 behind c used comp in
    let b =
    bind_ok (read_number w64 used) (λ n. cond (eqb n.0 0) (Err ZeroNumber) (Ok n))
    (n, rest) number in
    let g = guarded (eqb b.0.0 0) ZeroNumber (Ok b.0) (n, rest) b.2 in
    let d = number_lies w64 used b.0.0 b.0.1 b.1 in
    let same : b.0.0 ≡ n = ap (λ (p : ℕ × List ℕ). p.0) (ok_is b.0 (n, rest) g.1) in
    let front : take 2 (take 10 behind) ≡ take 2 behind = take-take 2 10 behind (omega arith) in
    let back : drop 2 (take 10 behind) ≡ take 8 used = drop-take 2 8 behind ∙ ap (take 8) a.2 in
    record {
      long = omega (arith, a.0, d.0, length-drop 2 behind, ap length a.2);
      comp = ap (from_be_bytes w16) front ∙ a.1;
      number = ap (from_be_bytes w64) back ∙ d.1 ∙ same;
    }

pub is_refused : (bytes : List ℕ) (h : Head) (behind : List ℕ) (c : ℕ) (used : List ℕ) (n : ℕ)
    (rest answer : List ℕ) → read_head bytes ≡ Ok (h, behind)
    → read_number w16 behind ≡ Ok (c, used) → read_positive used ≡ Ok (n, rest)
    → answer ≡ take 10 behind
    → read_refused bytes ≡ Ok (
      refused_made h (from_be_bytes w16 (take 2 answer)) (from_be_bytes w64
          (drop 2 answer)),
      rest,
    )
unfolding read_refused
is_refused bytes h behind c used n rest answer head comp number is =
    let lies = used_lies behind c used n rest comp number in
    let read : (read_head bytes >>= λ h. read_number w16 h.1 >>= λ c. read_positive c.1 >>= λ u.
    Ok (refused_made h.0 c.0 u.0, u.1)) ≡ Ok (refused_made h c n, rest) =
    rw (head, comp, number) refl in
    let first : c ≡ from_be_bytes w16 (take 2 answer) =
    sym (ap (λ (t : List ℕ). from_be_bytes w16 (take 2 t)) is ∙ lies.comp) in
    let second : n ≡ from_be_bytes w64 (drop 2 answer) =
    sym (ap (λ (t : List ℕ). from_be_bytes w64 (drop 2 t)) is ∙ lies.number) in
    read ∙ ap (λ (k : ℕ). done (refused_made h k n, rest)) first
    ∙ ap (λ (k : ℕ). done (refused_made h (from_be_bytes w16 (take 2 answer)) k, rest)) second

refused_takes : (bytes : List ℕ) (y : Reply) (rest : List ℕ) → IsBytes bytes
    → read_refused bytes ≡ Ok (y, rest)
    → Takes (4 ∷ bytes) (spelling (of_reply y)) rest × CanBeFramed (of_reply y)
unfolding read_refused
refused_takes bytes y rest fits e =
    let a =
    bind_ok (read_head bytes) (λ head. read_number w16 head.1 >>= λ comp. read_positive comp.1 >>=
    λ used. Ok (refused_made head.0 comp.0 used.0, used.1)) (y, rest) e in
    let b =
    bind_ok (read_number w16 a.0.1) (λ comp. read_positive comp.1 >>= λ used.
    Ok (refused_made a.0.0 comp.0 used.0, used.1)) (y, rest) a.2 in
    let d =
    bind_ok (read_positive b.0.1) (λ used. Ok (refused_made a.0.0 b.0.0 used.0, used.1))
    (y, rest) b.2 in
    let t0 = head_takes bytes a.0.0 a.0.1 fits a.1 in
    let t1 = number_takes w16 (2 ^ 16) wide16 a.0.1 b.0.0 b.0.1 t0.0.rest_fits b.1 in
    let t2 = positive_takes b.0.1 d.0.0 d.0.1 t1.0.rest_fits d.1 in
    let e12 =
    Takes-then a.0.1 (to_be_bytes w16 b.0.0) b.0.1 (to_be_bytes w64 d.0.0) d.0.1 t1.0 t2.0 in
    let e02 =
    Takes-then bytes (head_fields a.0.0.class a.0.0.request a.0.0.inter) a.0.1
    (to_be_bytes w16 b.0.0 ++ to_be_bytes w64 d.0.0) d.0.1 t0.0 e12 in
    let made : Reply × List ℕ = (refused_made a.0.0 b.0.0 d.0.0, d.0.1) in
    subst (λ (p : Reply × List ℕ). Takes (4 ∷ bytes) (spelling (of_reply p.0)) p.1
    × CanBeFramed (of_reply p.0)) (ok_is made (y, rest) d.2) (
      Takes-cons 4 bytes (head_fields a.0.0.class a.0.0.request a.0.0.inter
          ++ (to_be_bytes w16 b.0.0 ++ to_be_bytes w64 d.0.0)) d.0.1 e02,
      record { head = t0.1; comp_fits = t1.1; some = t2.1; used_fits = t2.2 },
    )

refused_again : (c r i k u : ℕ) (rest : List ℕ) → IsRefused c r i k u
    → read_refused ((head_fields c r i ++ (to_be_bytes w16 k ++ to_be_bytes w64 u)) ++ rest)
    ≡ Ok (refused_made (head_made c r i) k u, rest)
unfolding read_refused
refused_again c r i k u rest fits =
    let regrouped : (head_fields c r i ++ (to_be_bytes w16 k ++ to_be_bytes w64 u)) ++ rest
    ≡ head_fields c r i ++ (to_be_bytes w16 k ++ (to_be_bytes w64 u ++ rest)) =
    append_assoc (head_fields c r i) (to_be_bytes w16 k ++ to_be_bytes w64 u) rest
    ∙ ap (λ (x : List ℕ). head_fields c r i ++ x)
    (append_assoc (to_be_bytes w16 k) (to_be_bytes w64 u) rest) in
    ap read_refused regrouped
    ∙ rw (
      head_again c r i (to_be_bytes w16 k ++ (to_be_bytes w64 u ++ rest)) fits.head,
      number_again w16 (2 ^ 16) wide16 k (to_be_bytes w64 u ++ rest) fits.comp_fits,
      positive_again u rest fits.some fits.used_fits,
    ) refl

-- ---- requests

-- entries behind the head, and then reasons, as they were read
request_made_of : (h : Head) (ws : List Want) (ys : List Why) → IsHead h.class h.request h.inter
    → IsList entry_parts ws → one_moves ws ≡ true → IsReasons ys → AllByRecursion FitsInter ys
    → IsRequest (request_made h ws ys)
request_made_of h ws ys head list moving are fit = record {
  head = head;
  wants = are_wants ws list moving;
  entries = entries_fit ws list;
  reasons = are;
  inters = fit;
}

pub no_reasons : IsReasons []
no_reasons = record {
  few = omega arith;
  rising = λ k within. absurd (omega (arith, within));
  nameable = All-from_recursion (λ (y : Why). IsNameable y.cause) [] tt;
}

request_takes : (bytes : List ℕ) (r : Request) (rest : List ℕ) → IsBytes bytes
    → read_request bytes ≡ Ok (r, rest)
    → Takes (2 ∷ bytes) (spelling (of_request r)) rest × IsRequest r
unfolding read_request
request_takes bytes r rest fits e =
    let a =
    bind_ok (read_head bytes) (λ head. read_entries head.1 >>= λ wants. if_moving
    (request_made head.0 wants.0 []) wants.1) (r, rest) e in
    let b =
    bind_ok (read_entries a.0.1) (λ wants. if_moving (request_made a.0.0 wants.0 []) wants.1)
    (r, rest) a.2 in
    let made : Request × List ℕ = (request_made a.0.0 b.0.0 [], b.0.1) in
    let g = allowed (one_moves b.0.0) NoMover (Ok made) (r, rest) b.2 in
    let t0 = head_takes bytes a.0.0 a.0.1 fits a.1 in
    let t1 = entries_list.takes a.0.1 b.0.0 b.0.1 t0.0.rest_fits b.1 in
    let entries : Takes a.0.1 (list_spelled entry_parts b.0.0 ++ []) b.0.1 =
    subst (λ (t : List ℕ). Takes a.0.1 t b.0.1)
    (sym (append-nil (list_spelled entry_parts b.0.0))) t1.0 in
    let fields =
    Takes-then bytes (head_fields a.0.0.class a.0.0.request a.0.0.inter) a.0.1
    (list_spelled entry_parts b.0.0 ++ []) b.0.1 t0.0 entries in
    subst (λ (p : Request × List ℕ). Takes (2 ∷ bytes) (spelling (of_request p.0)) p.1
    × IsRequest p.0) (ok_is made (r, rest) g.1) (
      Takes-cons 2 bytes (request_fields (request_made a.0.0 b.0.0 [])) b.0.1 fields,
      request_made_of a.0.0 b.0.0 [] t0.1 t1.1 g.0 no_reasons tt,
    )

-- with reasons, however they are spelled behind the entries
explained_is : (h : Head) (ws : List Want) (ys : List Why) (bytes rest : List ℕ) → 1 ≤ length ys
    → Takes bytes (head_fields h.class h.request h.inter
    ++ (list_spelled entry_parts ws ++ list_spelled reason_parts ys)) rest
    → Takes (6 ∷ bytes) (spelling (of_request (request_made h ws ys))) rest
explained_is h ws [] bytes rest some t = absurd (omega arith)
explained_is h ws (y ∷ ys) bytes rest some t =
    Takes-cons 6 bytes (request_fields (request_made h ws (y ∷ ys))) rest t

explained_takes : (bytes : List ℕ) (r : Request) (rest : List ℕ) → IsBytes bytes
    → read_explained bytes ≡ Ok (r, rest)
    → Takes (6 ∷ bytes) (spelling (of_request r)) rest × IsRequest r
unfolding read_explained
explained_takes bytes r rest fits e =
    let a =
    bind_ok (read_head bytes) (λ head. read_entries head.1 >>= λ wants. read_reasons wants.1 >>=
    λ reasons. if_moving (request_made head.0 wants.0 reasons.0) reasons.1) (r, rest) e in
    let b =
    bind_ok (read_entries a.0.1) (λ wants. read_reasons wants.1 >>= λ reasons. if_moving
    (request_made a.0.0 wants.0 reasons.0) reasons.1) (r, rest) a.2 in
    let c =
    bind_ok (read_reasons b.0.1) (λ reasons. if_moving
    (request_made a.0.0 b.0.0 reasons.0) reasons.1) (r, rest) b.2 in
    let made : Request × List ℕ = (request_made a.0.0 b.0.0 c.0.0, c.0.1) in
    let g = allowed (one_moves b.0.0) NoMover (Ok made) (r, rest) c.2 in
    let t0 = head_takes bytes a.0.0 a.0.1 fits a.1 in
    let t1 = entries_list.takes a.0.1 b.0.0 b.0.1 t0.0.rest_fits b.1 in
    let t2 = reasons_list.takes b.0.1 c.0.0 c.0.1 t1.0.rest_fits c.1 in
    let lists =
    Takes-then a.0.1 (list_spelled entry_parts b.0.0) b.0.1
    (list_spelled reason_parts c.0.0) c.0.1 t1.0 t2.0 in
    let fields =
    Takes-then bytes (head_fields a.0.0.class a.0.0.request a.0.0.inter) a.0.1
    (list_spelled entry_parts b.0.0 ++ list_spelled reason_parts c.0.0) c.0.1 t0.0 lists in
    subst (λ (p : Request × List ℕ). Takes (6 ∷ bytes) (spelling (of_request p.0)) p.1
    × IsRequest p.0) (ok_is made (r, rest) g.1) (
      explained_is a.0.0 b.0.0 c.0.0 bytes c.0.1 t2.1.counted.0 fields,
      request_made_of a.0.0 b.0.0 c.0.0 t0.1 t1.1 g.0 (are_reasons c.0.0 t2.1)
          (reasons_fit c.0.0 t2.1),
    )

-- three parts of a request's fields, and what stands behind
fields_apart : (a b c rest : List ℕ) → (a ++ (b ++ c)) ++ rest ≡ a ++ (b ++ (c ++ rest))
fields_apart a b c rest = simp append_assoc

request_again : (r : Request) (rest : List ℕ) → IsRequest r → r.reasons ≡ []
    → read_request (request_fields r ++ rest) ≡ Ok (r, rest)
unfolding read_request
request_again r rest fits none =
    let bare : reason_fields r.reasons ++ rest ≡ rest =
    ap (λ (ys : List Why). reason_fields ys ++ rest) none in
    let made : read_request (head_fields r.class.0 r.request r.inter.0
    ++ (list_spelled entry_parts r.wants ++ rest)) ≡ Ok (record r { reasons = [] }, rest) =
    rw (
      head_again r.class.0 r.request r.inter.0 (list_spelled entry_parts r.wants
          ++ rest) fits.head,
      entries_list.again r.wants rest
          (wants_listed r.wants fits.wants fits.entries),
      fits.wants.moving,
    ) refl in
    ap read_request (fields_apart (head_fields r.class.0 r.request r.inter.0)
    (list_spelled entry_parts r.wants) (reason_fields r.reasons) rest
    ∙ ap (λ (t : List ℕ). head_fields r.class.0 r.request r.inter.0
    ++ (list_spelled entry_parts r.wants ++ t)) bare)
    ∙ (made ∙ ap (λ (ys : List Why). Ok (record r { reasons = ys }, rest)) (sym none))

explained_again : (r : Request) (rest : List ℕ) → IsRequest r → 1 ≤ length r.reasons
    → read_explained (request_fields r ++ rest) ≡ Ok (r, rest)
unfolding read_explained
explained_again r rest fits some =
    let wants = wants_listed r.wants fits.wants fits.entries in
    let reasons = reasons_listed r.reasons some fits.reasons fits.inters in
    let spelled : List ℕ = list_spelled reason_parts r.reasons in
    ap read_explained (fields_apart (head_fields r.class.0 r.request r.inter.0)
    (list_spelled entry_parts r.wants) (reason_fields r.reasons) rest
    ∙ ap (λ (t : List ℕ). head_fields r.class.0 r.request r.inter.0
    ++ (list_spelled entry_parts r.wants ++ (t ++ rest))) (some_reasons r.reasons some))
    ∙ rw (
      head_again r.class.0 r.request r.inter.0 (list_spelled entry_parts r.wants
          ++ (spelled ++ rest)) fits.head,
      entries_list.again r.wants (spelled ++ rest) wants,
      reasons_list.again r.reasons rest reasons,
      fits.wants.moving,
    ) refl

-- ---- all kinds

-- what is known of a message that was read behind the byte of its kind
abbrev Reads : ℕ → List ℕ → Message × List ℕ → Type 0
Reads kind bytes x = Takes (kind ∷ bytes) (spelling x.0) x.1 × CanBeFramed x.0

offered_takes : (bytes : List ℕ) (x : Message × List ℕ) → IsBytes bytes
    → as_message of_offer (read_offer bytes) ≡ Ok x → Reads 1 bytes x
offered_takes bytes x fits e =
    let a = bind_ok (read_offer bytes) (λ y. Ok (of_offer y.0, y.1)) x e in
    let t = offer_takes bytes a.0.0 a.0.1 fits a.1 in
    subst (Reads 1 bytes) (ok_is (of_offer a.0.0, a.0.1) x a.2)
    (Takes-cons 1 bytes (offer_fields a.0.0) a.0.1 t.0, t.1)

asked_takes : (kind : ℕ) (read : List ℕ → Result (Request × List ℕ) FrameFault)
    → ((bytes : List ℕ) (r : Request) (rest : List ℕ) → IsBytes bytes → read bytes ≡ Ok (r, rest)
    → Takes (kind ∷ bytes) (spelling (of_request r)) rest × IsRequest r)
    → (bytes : List ℕ) (x : Message × List ℕ) → IsBytes bytes
    → as_message of_request (read bytes) ≡ Ok x → Reads kind bytes x
asked_takes kind read takes bytes x fits e =
    let a = bind_ok (read bytes) (λ y. Ok (of_request y.0, y.1)) x e in
    subst (Reads kind bytes) (ok_is (of_request a.0.0, a.0.1) x a.2)
    (takes bytes a.0.0 a.0.1 fits a.1)

replied_takes : (kind : ℕ) (read : List ℕ → Result (Reply × List ℕ) FrameFault)
    → ((bytes : List ℕ) (y : Reply) (rest : List ℕ) → IsBytes bytes → read bytes ≡ Ok (y, rest)
    → Takes (kind ∷ bytes) (spelling (of_reply y)) rest × CanBeFramed (of_reply y))
    → (bytes : List ℕ) (x : Message × List ℕ) → IsBytes bytes
    → as_message of_reply (read bytes) ≡ Ok x → Reads kind bytes x
replied_takes kind read takes bytes x fits e =
    let a = bind_ok (read bytes) (λ y. Ok (of_reply y.0, y.1)) x e in
    subst (Reads kind bytes) (ok_is (of_reply a.0.0, a.0.1) x a.2)
    (takes bytes a.0.0 a.0.1 fits a.1)

notified_takes : (bytes : List ℕ) (x : Message × List ℕ) → IsBytes bytes
    → as_message of_notify (read_notify bytes) ≡ Ok x → Reads 5 bytes x
notified_takes bytes x fits e =
    let a = bind_ok (read_notify bytes) (λ y. Ok (of_notify y.0, y.1)) x e in
    let t = notify_takes bytes a.0.0 a.0.1 fits a.1 in
    subst (Reads 5 bytes) (ok_is (of_notify a.0.0, a.0.1) x a.2)
    (Takes-cons 5 bytes (notify_fields a.0.0) a.0.1 t.0, t.1)

-- one of two readings, by the kind
chosen : (kind k : ℕ) (bytes : List ℕ) (one other : Result (Message × List ℕ) FrameFault)
    (x : Message × List ℕ) → (one ≡ Ok x → Reads k bytes x) → (other ≡ Ok x → Reads kind bytes x)
    → cond (eqb kind k) one other ≡ Ok x → Reads kind bytes x
chosen kind k bytes one other x here there e = by_test (eqb kind k) refl e
  where
    by_test : (b : Bool) → eqb kind k ≡ b → cond b one other ≡ Ok x → Reads kind bytes x
    by_test true is e = subst (λ (j : ℕ). Reads j bytes x) (sym (eqb-true kind k is)) (here e)
    by_test false is e = there e

no_kind : (kind : ℕ) (bytes : List ℕ) (x : Message × List ℕ) → done x ≡ Err Kind
    → Reads kind bytes x
no_kind kind bytes x e = absurd cc

kind_takes : (kind : ℕ) (bytes : List ℕ) (x : Message × List ℕ) → IsBytes bytes
    → of_kind kind bytes ≡ Ok x → Reads kind bytes x
kind_takes kind bytes x fits e =
    let k6 : Result (Message × List ℕ) FrameFault =
    cond (eqb kind 6) (as_message of_request (read_explained bytes)) (Err Kind) in
    let k5 : Result (Message × List ℕ) FrameFault =
    cond (eqb kind 5) (as_message of_notify (read_notify bytes)) k6 in
    let k4 : Result (Message × List ℕ) FrameFault =
    cond (eqb kind 4) (as_message of_reply (read_refused bytes)) k5 in
    let k3 : Result (Message × List ℕ) FrameFault =
    cond (eqb kind 3) (as_message of_reply (read_granted bytes)) k4 in
    let k2 : Result (Message × List ℕ) FrameFault =
    cond (eqb kind 2) (as_message of_request (read_request bytes)) k3 in
    chosen kind 1 bytes (as_message of_offer (read_offer bytes)) k2 x (offered_takes bytes x fits)
    (chosen kind 2 bytes (as_message of_request (read_request bytes)) k3 x
    (asked_takes 2 read_request request_takes bytes x fits)
    (chosen kind 3 bytes (as_message of_reply (read_granted bytes)) k4 x
    (replied_takes 3 read_granted granted_takes bytes x fits)
    (chosen kind 4 bytes (as_message of_reply (read_refused bytes)) k5 x
    (replied_takes 4 read_refused refused_takes bytes x fits)
    (chosen kind 5 bytes (as_message of_notify (read_notify bytes)) k6 x
    (notified_takes bytes x fits)
    (chosen kind 6 bytes (as_message of_request (read_explained bytes)) (Err Kind) x
    (asked_takes 6 read_explained explained_takes bytes x fits)
    (λ other. no_kind kind bytes x (sym other))))))) e

pub frame_takes : (bytes : List ℕ) (x : Message × List ℕ) → IsBytes bytes → read_frame bytes ≡ Ok x
    → Takes bytes (spelling x.0) x.1 × CanBeFramed x.0
unfolding read_frame
frame_takes [] x fits e = absurd cc
frame_takes (kind ∷ bytes) x fits e = kind_takes kind bytes x (IsBytes-rest kind bytes fits) e

-- behind the byte of its kind a request is read again
by_reasons : (r : Request) (rest : List ℕ) (ys : List Why) → r.reasons ≡ ys → IsRequest r
    → of_kind (request_kind ys) (request_fields r ++ rest) ≡ Ok (of_request r, rest)
by_reasons r rest [] is fits = ap (as_message of_request) (request_again r rest fits is)
by_reasons r rest (y ∷ ys) is fits = ap (as_message of_request)
    (explained_again r rest fits (omega (arith, ap length is)))

pub frame_again : (m : Message) (rest : List ℕ) → CanBeFramed m
    → read_frame (spelling m ++ rest) ≡ Ok (m, rest)
unfolding read_frame
frame_again (of_offer o) rest fits = ap (as_message of_offer) (offer_again o rest fits)
frame_again (of_request r) rest fits = by_reasons r rest r.reasons refl fits
frame_again (of_reply (Granted c r i s)) rest fits =
    ap (as_message of_reply) (granted_again c.0 r i.0 s rest fits)
frame_again (of_reply (Refused c r i k u)) rest fits =
    ap (as_message of_reply) (refused_again c.0 r i.0 k.0 u rest fits)
frame_again (of_notify n) rest fits = ap (as_message of_notify) (notify_again n rest fits)

pub whole_takes : (bytes : List ℕ) (m : Message) → IsBytes bytes → read_whole bytes ≡ Ok m
    → IsFrame m bytes
unfolding read_whole
whole_takes bytes m fits e =
    let a = bind_ok (read_frame bytes) (λ x. cond (eqb (length x.1) 0) (Ok x.0) (Err Long)) m e in
    let g = allowed (eqb (length a.0.1) 0) Long (Ok a.0.0) m a.2 in
    let t = frame_takes bytes a.0 fits a.1 in
    let nothing : a.0.1 ≡ [] = nil_from_length a.0.1 (eqb-true _ _ g.0) in
    let whole : bytes ≡ spelling a.0.0 =
    t.0.parts ∙ ap (λ (r : List ℕ). spelling a.0.0 ++ r) nothing
    ∙ append-nil (spelling a.0.0) in
    subst (λ (n : Message). IsFrame n bytes) (ok_is a.0.0 m g.1) (record { can = t.1; is = whole })

pub whole_again : (m : Message) → CanBeFramed m → read_whole (spelling m) ≡ Ok m
unfolding read_whole
whole_again m fits =
    let all : read_frame (spelling m) ≡ Ok (m, []) =
    ap read_frame (sym (append-nil (spelling m))) ∙ frame_again m [] fits in
    rw all refl

pub is_found : (bytes : List ℕ) (r : Result Frame FrameFault) → IsBytes bytes
    → Gives message_shown r (read_whole bytes)
    → IfOk r (λ frame. IsFrame (message_shown frame) bytes)
is_found bytes (Ok f) fits given = whole_takes bytes (message_shown f) fits given
is_found bytes (Err e) fits given = tt

lies_at : (x : Frame) (bytes : List ℕ) → bytes ≡ spelling (message_shown x) → IsLent x bytes
lies_at (frames.Offer f) bytes is = f.spelled ∙ sym (ap (drop 14) is)
lies_at (frames.Reserve f) bytes is =
    let parts : f.parts.now ≡ drop 14 bytes = f.spelled ∙ sym (ap (drop 14) is) in (
      parts,
      ap (drop (11 * f.count + 1)) parts ∙ drop-drop (11 * f.count +
          1) 14 bytes ∙ ap (λ (k : ℕ). drop k bytes) (omega arith),
    )
lies_at (frames.Reply f) bytes is = tt
lies_at (frames.Notify f) bytes is = f.spelled ∙ sym (ap (drop 13) is)

pub are_lent : (bytes : List ℕ) (r : Result Frame FrameFault) → IsBytes bytes
    → Gives message_shown r (read_whole bytes) → IfOk r (λ frame. IsLent frame bytes)
are_lent bytes (Ok f) fits given = lies_at f bytes
    (whole_takes bytes (message_shown f) fits given).is
are_lent bytes (Err e) fits given = tt

-- ---- laws

pub none_begins : (m n : Message) (a b x y : List ℕ) → IsFrame m a → IsFrame n b → a ++ x ≡ b ++ y
    → (m ≡ n) × (a ≡ b) × (x ≡ y)
none_begins m n a b x y one other e =
    let spelled : spelling m ++ x ≡ spelling n ++ y =
    ap (λ (t : List ℕ). t ++ x) (sym one.is) ∙ e ∙ ap (λ (t : List ℕ). t ++ y) other.is in
    let both : (m, x) ≡ (n, y) =
    ok_is (m, x) (n, y) (sym (frame_again m x one.can) ∙ ap read_frame spelled
    ∙ frame_again n y other.can) in
    let same : m ≡ n = ap (λ (p : Message × List ℕ). p.0) both in
    (same, one.is ∙ ap spelling same ∙ sym other.is, ap (λ (p : Message × List ℕ). p.1) both)

pub one_message : (m n : Message) (a : List ℕ) → IsFrame m a → IsFrame n a → m ≡ n
one_message m n a one other = (none_begins m n a a [] [] one other refl).0
