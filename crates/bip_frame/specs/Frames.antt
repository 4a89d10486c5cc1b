-- Frames: which bytes spell which message. A frame begins with the byte of its kind; its fields
-- follow, each number with its highest byte first.
use Rattle.std.specs.Prelude.{◌≡◌, ℕ, ◌≤◌, ◌<◌, ◌^◌, List, [], ◌∷◌, ◌++◌, length}
use Rattle.std.specs.Int.{w16, w32, w64, to_be_bytes}
use Rattle.std.specs.List.{flat_map, AllByRecursion}
use Rattle.bip_model.specs.Reasons.{IsReasons, cause_number}
use Rattle.bip_model.specs.Wants.{IsWants}
use Rattle.bip_model.specs.declared.messages.Notify.{Notify}
use Rattle.bip_model.specs.declared.messages.Offer.{Offer}
use Rattle.bip_model.specs.declared.messages.Reply.TheVariants.{Granted, Refused}
use Rattle.bip_model.specs.declared.messages.Reply.{Reply}
use Rattle.bip_model.specs.declared.messages.Request.{Request}
use Rattle.bip_model.specs.declared.reasons.Why.{Why}
use Rattle.bip_model.specs.declared.wants.Role.TheVariants.{Moved, Seen}
use Rattle.bip_model.specs.declared.wants.Role.{Role}
use Rattle.bip_model.specs.declared.wants.Want.{Want}

-- what a frame spells
pub data Message : Type 0 where
  of_offer : Offer → Message
  of_request : Request → Message
  of_reply : Reply → Message
  of_notify : Notify → Message

-- how many values there are, and the values
abbrev pub counted_values : List ℕ → List ℕ
counted_values values = length values ∷ flat_map (to_be_bytes w32) values

abbrev pub role_byte : Role → ℕ
role_byte Moved = 1
role_byte Seen = 0

-- an entry of a request: component, role, number
abbrev pub entry : Want → List ℕ
entry w = to_be_bytes w16 w.comp.0 ++ (role_byte w.role ∷ to_be_bytes w64 w.number)

-- entries are ordered by their components
abbrev pub comp_of : Want → ℕ
comp_of w = w.comp.0

-- how many entries there are, and the entries
abbrev pub counted_entries : List Want → List ℕ
counted_entries wants = length wants ∷ flat_map entry wants

-- a reason of a request: interaction, number of the cause
abbrev pub reason_entry : Why → List ℕ
reason_entry y = to_be_bytes w16 y.inter.0 ++ to_be_bytes w16 (cause_number y.cause)

-- reasons are ordered by their interactions
abbrev pub inter_of : Why → ℕ
inter_of y = y.inter.0

-- how many reasons there are, and the reasons
abbrev pub counted_reasons : List Why → List ℕ
counted_reasons reasons = length reasons ∷ flat_map reason_entry reasons

-- what requests and replies begin with: class, request, interaction
abbrev pub head_fields : ℕ → ℕ → ℕ → List ℕ
head_fields class request inter =
    to_be_bytes w16 class ++ (to_be_bytes w64 request ++ to_be_bytes w16 inter)

-- The fields behind the byte of the kind.

abbrev pub offer_fields : Offer → List ℕ
offer_fields o =
    to_be_bytes w16 o.comp.0
    ++ (to_be_bytes w64 o.number ++ (to_be_bytes w16 o.ports ++ counted_values o.values))

-- reasons stand behind the entries; where there are none, so does nothing
abbrev pub reason_fields : List Why → List ℕ
reason_fields [] = []
reason_fields (y ∷ ys) = counted_reasons (y ∷ ys)

abbrev pub request_fields : Request → List ℕ
request_fields r =
    head_fields r.class.0 r.request r.inter.0
    ++ (counted_entries r.wants ++ reason_fields r.reasons)

abbrev pub granted_fields : ℕ → ℕ → ℕ → ℕ → List ℕ
granted_fields class request inter serial =
    head_fields class request inter ++ to_be_bytes w64 serial

abbrev pub refused_fields : ℕ → ℕ → ℕ → ℕ → ℕ → List ℕ
refused_fields class request inter comp used =
    head_fields class request inter ++ (to_be_bytes w16 comp ++ to_be_bytes w64 used)

abbrev pub notify_fields : Notify → List ℕ
notify_fields n =
    to_be_bytes w16 n.comp.0
    ++ (to_be_bytes w64 n.number ++ (n.port.0 ∷ counted_values n.values))

-- requests without reasons are of one kind, those with reasons of another
abbrev pub request_kind : List Why → ℕ
request_kind [] = 2
request_kind (y ∷ ys) = 6

-- the table of kinds
abbrev pub spelling : Message → List ℕ
spelling (of_offer o) = 1 ∷ offer_fields o
spelling (of_request r) = request_kind r.reasons ∷ request_fields r
spelling (of_reply (Granted class request inter serial)) =
    3 ∷ granted_fields class.0 request inter.0 serial
spelling (of_reply (Refused class request inter comp used)) =
    4 ∷ refused_fields class.0 request inter.0 comp.0 used
spelling (of_notify n) = 5 ∷ notify_fields n

-- What can be framed: numbers of moves and of requests are at least 1, there are at most eight
-- values, a port is below 16, and each number is within its width.

pub record IsOffer (o : Offer) : Type 0 where
  pub comp : o.comp.0 < 2 ^ 16
  pub some : 1 ≤ o.number
  pub number : o.number < 2 ^ 64
  pub ports : o.ports < 2 ^ 16
  pub few : length o.values ≤ 8
  pub values : AllByRecursion (λ v. v < 2 ^ 32) o.values

-- class, request, interaction
pub record Head : Type 0 where
  pub class : ℕ
  pub request : ℕ
  pub inter : ℕ

pub record IsHead (class request inter : ℕ) : Type 0 where
  pub class_fits : class < 2 ^ 16
  pub some : 1 ≤ request
  pub request_fits : request < 2 ^ 64
  pub inter_fits : inter < 2 ^ 16

pub record IsEntry (w : Want) : Type 0 where
  pub comp : w.comp.0 < 2 ^ 16
  pub number : w.number < 2 ^ 64

-- a reason whose interaction fits; its cause fits since it can be named
abbrev pub FitsInter : Why → Type 0
FitsInter y = inter_of y < 2 ^ 16

pub record IsRequest (r : Request) : Type 0 where
  pub head : IsHead r.class.0 r.request r.inter.0
  pub wants : IsWants r.wants
  pub entries : AllByRecursion IsEntry r.wants
  pub reasons : IsReasons r.reasons
  pub inters : AllByRecursion FitsInter r.reasons

pub record IsGranted (class request inter serial : ℕ) : Type 0 where
  pub head : IsHead class request inter
  pub serial_fits : serial < 2 ^ 64

pub record IsRefused (class request inter comp used : ℕ) : Type 0 where
  pub head : IsHead class request inter
  pub comp_fits : comp < 2 ^ 16
  pub some : 1 ≤ used
  pub used_fits : used < 2 ^ 64

pub record IsNotify (n : Notify) : Type 0 where
  pub comp : n.comp.0 < 2 ^ 16
  pub some : 1 ≤ n.number
  pub number : n.number < 2 ^ 64
  pub port : n.port.0 < 16
  pub few : length n.values ≤ 8
  pub values : AllByRecursion (λ v. v < 2 ^ 32) n.values

abbrev pub CanBeFramed : Message → Type 0
CanBeFramed (of_offer o) = IsOffer o
CanBeFramed (of_request r) = IsRequest r
CanBeFramed (of_reply (Granted class request inter serial)) =
    IsGranted class.0 request inter.0 serial
CanBeFramed (of_reply (Refused class request inter comp used)) =
    IsRefused class.0 request inter.0 comp.0 used
CanBeFramed (of_notify n) = IsNotify n

-- a reply whose numbers are at least 1, so that it can be framed
abbrev pub IsNumbered : Reply → Type 0
IsNumbered (Granted class request inter serial) = 1 ≤ request
IsNumbered (Refused class request inter comp used) = (1 ≤ request) × (1 ≤ used)

-- the bytes are the frame of the message
pub record IsFrame (m : Message) (bytes : List ℕ) : Type 0 where
  pub can : CanBeFramed m
  pub is : bytes ≡ spelling m
