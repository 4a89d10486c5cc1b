-- A list that was copied to the front of an array of zeros is kept by it.
use Rattle.std.proofs.Common.{◌≡◌, ℕ, ◌≤◌, List, ◌++◌, length, take, drop, replicate, ◌∙◌, arith}
use Rattle.std.proofs.Common.{length-append, length-drop}
use Rattle.std.proofs.Math.Seq.{drop-append_seam, take-append_seam}
use Rattle.std.proofs.lemmas.List.{drop-replicate, length-replicate}
use Rattle.bip_model.specs.Sequence.{IsPadded}

-- the array of room places after a copy to its front
abbrev pub copied : ℕ → List ℕ → List ℕ
copied room xs = xs ++ drop (length xs) (replicate room 0)

pub IsPadded-copied : (room : ℕ) (xs : List ℕ) → length xs ≤ room
    → IsPadded room (length xs) (copied room xs)
IsPadded-copied room xs within = (
  within,
  simp (length-append, length-drop, length-replicate) (omega arith),
  drop-append_seam xs (drop (length xs) (replicate room 0))
      ∙ drop-replicate (length xs) room 0,
)

pub take-copied : (room : ℕ) (xs : List ℕ) → take (length xs) (copied room xs) ≡ xs
take-copied room xs = take-append_seam xs (drop (length xs) (replicate room 0))
