-- What contracts of private functions say of frames that are read, kind by kind.
use Rattle.std.specs.Prelude.{◌≡◌, ℕ, List, [], ◌++◌, length, Result, Ok, Err, ◌==◌}
use Rattle.std.specs.Prelude.{if◌then◌else◌}
use Rattle.std.specs.List.{flat_map}
use Rattle.std.specs.Int.{w16, w64}
use Rattle.bip_model.specs.declared.messages.Notify.{Notify}
use Rattle.bip_model.specs.declared.messages.Offer.{Offer}
use Rattle.bip_model.specs.declared.messages.Reply.TheVariants.{Granted, Refused}
use Rattle.bip_model.specs.declared.messages.Reply.{Reply}
use Rattle.bip_model.specs.declared.messages.Request.{Request}
use Rattle.bip_model.specs.declared.reasons.Why.{Why}
use Rattle.bip_model.specs.declared.wants.Want.{Want}
use Rattle.bip_frame.specs.Entries.{one_moves, read_entries, read_reasons}
use Rattle.bip_frame.specs.Faults.{Parts, IsList}
use Rattle.bip_frame.specs.Fields.{◌>>=◌, read_byte, read_number, read_positive, read_port}
use Rattle.bip_frame.specs.Fields.{read_values, read_head}
use Rattle.bip_frame.specs.Frames.{Head, Message, of_offer, of_request, of_reply, of_notify}
use Rattle.bip_frame.specs.declared.faults.FrameFault.TheVariants.{Kind, Long, NoMover}
use Rattle.bip_frame.specs.declared.faults.FrameFault.{FrameFault}

-- parts that were passed lie at the front of a list
pub record Lies {A : Type 0} (p : Parts A) (xs : List A) (list rest : List ℕ) : Type 0 where
  pub are : IsList p xs
  pub spelled : list ≡ flat_map p.spell xs ++ rest

-- messages, by what their fields say

abbrev pub offer_made : ℕ → ℕ → ℕ → List ℕ → Offer
offer_made comp number ports values =
    record { comp = record { 0 = comp }; number = number; ports = ports; values = values }

abbrev pub request_made : Head → List Want → List Why → Request
request_made head wants reasons =
    record {
      class = record { 0 = head.class };
      request = head.request;
      inter = record { 0 = head.inter };
      wants = wants;
      reasons = reasons;
    }

abbrev pub granted_made : Head → ℕ → Reply
granted_made head serial =
    Granted (record { 0 = head.class }) head.request (record { 0 = head.inter }) serial

abbrev pub refused_made : Head → ℕ → ℕ → Reply
refused_made head comp used =
    Refused (record { 0 = head.class }) head.request (record { 0 = head.inter })
    (record { 0 = comp }) used

abbrev pub notify_made : ℕ → ℕ → ℕ → List ℕ → Notify
notify_made comp number port values =
    record {
      comp = record { 0 = comp };
      number = number;
      port = record { 0 = port };
      values = values;
    }

unfoldable pub read_offer : List ℕ → Result (Offer × List ℕ) FrameFault
read_offer bytes = do
  comp ← read_number w16 bytes
  number ← read_positive comp.1
  ports ← read_number w16 number.1
  values ← read_values ports.1
  Ok (offer_made comp.0 number.0 ports.0 values.0, values.1)

unfoldable pub read_notify : List ℕ → Result (Notify × List ℕ) FrameFault
read_notify bytes = do
  comp ← read_number w16 bytes
  number ← read_positive comp.1
  port ← read_port number.1
  values ← read_values port.1
  Ok (notify_made comp.0 number.0 port.0 values.0, values.1)

unfoldable pub read_granted : List ℕ → Result (Reply × List ℕ) FrameFault
read_granted bytes = do
  head ← read_head bytes
  serial ← read_number w64 head.1
  Ok (granted_made head.0 serial.0, serial.1)

unfoldable pub read_refused : List ℕ → Result (Reply × List ℕ) FrameFault
read_refused bytes = do
  head ← read_head bytes
  comp ← read_number w16 head.1
  used ← read_positive comp.1
  Ok (refused_made head.0 comp.0 used.0, used.1)

-- a request, of which one entry must move its component
abbrev pub if_moving : Request → List ℕ → Result (Request × List ℕ) FrameFault
if_moving request rest = if one_moves request.wants then Ok (request, rest) else Err NoMover

unfoldable pub read_request : List ℕ → Result (Request × List ℕ) FrameFault
read_request bytes = do
  head ← read_head bytes
  wants ← read_entries head.1
  if_moving (request_made head.0 wants.0 []) wants.1

-- a request with reasons
unfoldable pub read_explained : List ℕ → Result (Request × List ℕ) FrameFault
read_explained bytes = do
  head ← read_head bytes
  wants ← read_entries head.1
  reasons ← read_reasons wants.1
  if_moving (request_made head.0 wants.0 reasons.0) reasons.1

-- what was read, as a message
abbrev pub as_message : {A : Type 0} → (A → Message) → Result (A × List ℕ) FrameFault
    → Result (Message × List ℕ) FrameFault
as_message message read = read >>= λ x. Ok (message x.0, x.1)

abbrev pub of_kind : ℕ → List ℕ → Result (Message × List ℕ) FrameFault
of_kind kind rest =
    if kind == 1 then as_message of_offer (read_offer rest)
    else if kind == 2 then as_message of_request (read_request rest)
    else if kind == 3 then as_message of_reply (read_granted rest)
    else if kind == 4 then as_message of_reply (read_refused rest)
    else if kind == 5 then as_message of_notify (read_notify rest)
    else if kind == 6 then as_message of_request (read_explained rest)
    else Err Kind

-- a frame at the front
unfoldable pub read_frame : List ℕ → Result (Message × List ℕ) FrameFault
read_frame bytes = do
  kind ← read_byte bytes
  of_kind kind.0 kind.1

-- a frame that is all of the bytes
unfoldable pub read_whole : List ℕ → Result Message FrameFault
read_whole bytes = do
  frame ← read_frame bytes
  if length frame.1 == 0 then Ok frame.0 else Err Long
