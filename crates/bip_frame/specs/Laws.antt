-- What the definitions mean: laws that a reviewer reads.
use Rattle.std.specs.Prelude.{◌≡◌, ℕ, ◌+◌, ◌*◌, ◌<◌, ◌≤◌, ◌⊎◌, List, [], ◌∷◌, ◌++◌, length, All}
use Rattle.bip_model.specs.declared.messages.Reply.TheVariants.{Granted, Refused}
use Rattle.bip_model.specs.declared.reasons.Why.{Why}
use Rattle.bip_frame.specs.Faults.{IsByte, IsFirstFault}
use Rattle.bip_frame.specs.Frames.{Message, of_offer, of_request, of_reply, of_notify}
use Rattle.bip_frame.specs.Frames.{CanBeFramed, IsFrame, spelling}
use Rattle.bip_frame.specs.declared.faults.FrameFault.TheVariants.{Short, Long}
use Rattle.bip_frame.specs.declared.faults.FrameFault.{FrameFault}

-- a message has one frame
abbrev pub OneFrame : Type 0
OneFrame = (m : Message) (a b : List ℕ) → IsFrame m a → IsFrame m b → a ≡ b

-- a frame is that of one message
abbrev pub OneMessage : Type 0
OneMessage = (m n : Message) (a : List ℕ) → IsFrame m a → IsFrame n a → m ≡ n

-- no frame begins another: where two frames stand at the front, they are the same
abbrev pub NoneBegins : Type 0
NoneBegins =
    (m n : Message) (a b x y : List ℕ) → IsFrame m a → IsFrame n b → a ++ x ≡ b ++ y
    → (m ≡ n) × (a ≡ b) × (x ≡ y)

-- any bytes are a frame, or have a first fault
abbrev pub FrameOrFault : Type 0
FrameOrFault =
    (a : List ℕ) → All IsByte a
    → ((m : Message) × IsFrame m a) ⊎ ((fault : FrameFault) × IsFirstFault a fault)

-- and not both
abbrev pub NotBoth : Type 0
NotBoth =
    (m : Message) (fault : FrameFault) (a : List ℕ) → IsFrame m a → ¬ IsFirstFault a fault

-- the first fault is one
abbrev pub OneFrameFault : Type 0
OneFrameFault =
    (f g : FrameFault) (a : List ℕ) → IsFirstFault a f → IsFirstFault a g → f ≡ g

-- what is written is read back: the spelling of a message that can be framed is its frame
abbrev pub WrittenIsRead : Type 0
WrittenIsRead = (m : Message) → CanBeFramed m → IsFrame m (spelling m)

-- what is read is written back: the spelling of what a frame says is that frame
abbrev pub ReadIsWritten : Type 0
ReadIsWritten = (m : Message) (a : List ℕ) → IsFrame m a → spelling m ≡ a

-- a frame that is cut is too short
abbrev pub CutIsShort : Type 0
CutIsShort =
    (m : Message) (front more : List ℕ) → IsFrame m (front ++ more) → 0 < length more
    → IsFirstFault front Short

-- a frame with more behind it is too long
abbrev pub MoreIsLong : Type 0
MoreIsLong =
    (m : Message) (a more : List ℕ) → IsFrame m a → 0 < length more
    → IsFirstFault (a ++ more) Long

-- how many bytes reasons have with their count; where there are none, it isn't there either
abbrev pub reasons_length : List Why → ℕ
reasons_length [] = 0
reasons_length (y ∷ ys) = 1 + 4 * length (y ∷ ys)

-- how many bytes the frame of a message has
abbrev pub frame_length : Message → ℕ
frame_length (of_offer o) = 14 + 4 * length o.values
frame_length (of_request r) = 14 + 11 * length r.wants + reasons_length r.reasons
frame_length (of_reply (Granted class request inter serial)) = 21
frame_length (of_reply (Refused class request inter comp used)) = 23
frame_length (of_notify n) = 13 + 4 * length n.values

abbrev pub HasLength : Type 0
HasLength = (m : Message) (a : List ℕ) → IsFrame m a → length a ≡ frame_length m

-- the shortest frames have 13 bytes and the longest 875
abbrev pub IsWithin : Type 0
IsWithin = (m : Message) (a : List ℕ) → IsFrame m a → (13 ≤ length a) × (length a ≤ 875)

-- and there are such frames
abbrev pub LimitsAreReached : Type 0
LimitsAreReached =
    ((m : Message) × (a : List ℕ) × IsFrame m a × (length a ≡ 13))
    × ((m : Message) × (a : List ℕ) × IsFrame m a × (length a ≡ 875))
