-- The words by which components are expected next, as they are kept as text.
use Rattle.std.specs.Fmt.{decimal}
use Rattle.std.specs.Prelude.{List, Some, slice_get, take, ℕ, ◌++◌, ◌<◌, ◌∷◌, ◌≡◌, ◌≤◌}
use Rattle.bip_model.specs.Naming.{IsName, name_in}
use Rattle.bip_replay.specs.Lines.{colon}
use Rattle.bip_replay.specs.declared.kept_words.KeptWord.{KeptWord}

-- a word that is kept is that of a name by its number; none is kept yet where that is 0
pub record IsKeptWord (name : List ℕ) (w : KeptWord) : Type 0 where
  pub fits : w.len ≤ 53
  pub named : 0 < w.number → IsName name
  pub spelled : 0 < w.number → take w.len w.bytes ≡ name ++ colon ∷ decimal w.number

-- the words that are kept are those of names, place by place
abbrev pub AreKeptWords : List (List ℕ) → List KeptWord → Type 0
AreKeptWords names ws =
    (c : ℕ) (w : KeptWord) → slice_get ws c ≡ Some w → IsKeptWord (name_in names c) w

-- a word that is kept is that of the name at a place by a number
pub record IsKeptBy (names : List (List ℕ)) (c number : ℕ) (w : KeptWord) : Type 0 where
  pub word : IsKeptWord (name_in names c) w
  pub numbered : w.number ≡ number
