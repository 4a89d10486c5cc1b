-- What contracts of private functions say of fields: a field is what it says and the bytes behind
-- it, or its fault. Fields are read from left to right, each first for its length.
use Rattle.std.specs.Prelude.{◌≡◌, ℕ, ◌*◌, List, [], ◌∷◌, length, take, drop, Result, Ok, Err}
use Rattle.std.specs.Prelude.{nat_lt, ◌==◌, if◌then◌else◌}
use Rattle.std.specs.Int.{Width, w16, w64, byte_len, from_be_bytes}
use Rattle.bip_frame.specs.Frames.{Head}
use Rattle.bip_frame.specs.Lent.{values_in}
use Rattle.bip_frame.specs.declared.faults.FrameFault.TheVariants.{Short, Count, ZeroNumber, PortNo}
use Rattle.bip_frame.specs.declared.faults.FrameFault.{FrameFault}

infixl 10 ◌>>=◌
abbrev pub ◌>>=◌ : {A B : Type 0} → Result A FrameFault → (A → Result B FrameFault)
    → Result B FrameFault
(Ok x) >>= f = f x
(Err e) >>= f = Err e

-- what a function answered, seen by view, is what reading gives
abbrev pub Gives : {X Y : Type 0} → (X → Y) → Result X FrameFault → Result Y FrameFault → Type 0
Gives view (Ok x) read = read ≡ Ok (view x)
Gives view (Err fault) read = read ≡ Err fault

abbrev pub read_byte : List ℕ → Result (ℕ × List ℕ) FrameFault
read_byte [] = Err Short
read_byte (byte ∷ rest) = Ok (byte, rest)

abbrev pub read_number : Width → List ℕ → Result (ℕ × List ℕ) FrameFault
read_number w bytes =
    if nat_lt (length bytes) (byte_len w) then Err Short
    else Ok (from_be_bytes w (take (byte_len w) bytes), drop (byte_len w) bytes)

-- a number of a move or of a request
unfoldable pub read_positive : List ℕ → Result (ℕ × List ℕ) FrameFault
read_positive bytes = do
  n ← read_number w64 bytes
  if n.0 == 0 then Err ZeroNumber else Ok n

unfoldable pub read_port : List ℕ → Result (ℕ × List ℕ) FrameFault
read_port bytes = do
  port ← read_byte bytes
  if nat_lt 15 port.0 then Err PortNo else Ok port

-- a count, and so many values
unfoldable pub read_values : List ℕ → Result (List ℕ × List ℕ) FrameFault
read_values bytes = do
  n ← read_byte bytes
  if nat_lt 8 n.0 then Err Count
      else if nat_lt (length n.1) (4 * n.0) then Err Short
      else Ok (values_in n.0 (take (4 * n.0) n.1), drop (4 * n.0) n.1)

abbrev pub head_made : ℕ → ℕ → ℕ → Head
head_made class request inter = record { class = class; request = request; inter = inter }

-- class, request, interaction
unfoldable pub read_head : List ℕ → Result (Head × List ℕ) FrameFault
read_head bytes = do
  class ← read_number w16 bytes
  request ← read_positive class.1
  inter ← read_number w16 request.1
  Ok (head_made class.0 request.0 inter.0, inter.1)
