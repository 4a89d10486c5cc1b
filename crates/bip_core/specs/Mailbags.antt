-- Messages in pieces.
use Rattle.std.specs.Prelude.{◌≡◌, ℕ, ◌+◌, ◌-◌, ◌<◌, ◌≤◌, IfSome, List, length, slice_get}
use Rattle.std.specs.Prelude.{slice_index_or, take}
use Rattle.std.specs.Global.{Vec}
use Rattle.std.specs.List.{flat_map}
use Rattle.bip_core.specs.declared.messages.Message.{Message}

-- what a piece has: a chunk, or a group
abbrev pub of_chunk : Vec Message → List Message
of_chunk chunk = chunk.items

abbrev pub of_group : List Message → List Message
of_group group = group

-- what all of them have, one after another
abbrev pub in_chunks : List (Vec Message) → List Message
in_chunks chunks = flat_map of_chunk chunks

abbrev pub in_groups : List (List Message) → List Message
in_groups groups = flat_map of_group groups

-- the last of these pieces, if there is one, has so many or more
abbrev pub IsLastFull : {X T : Type 0} (of : X → List T) → ℕ → List X → Type 0
IsLastFull of most pieces =
    IfSome (slice_get pieces (length pieces - 1)) (λ piece. most ≤ length (of piece))

-- of what stands in pieces, the one with so many before it is in this piece, at this place there
pub record IsPlaceIn {X T : Type 0} (of : X → List T) (pieces : List X) (before piece within : ℕ)
    : Type 0 where
  pub piece_is : piece < length pieces
  pub within_is : (x : X) → within < length (of (slice_index_or pieces piece x))
  pub before_is : length (flat_map of (take piece pieces)) + within ≡ before
