-- Words of lines, with their columns.
use Rattle.std.specs.Prelude.{◌≡◌, ℕ, ◌+◌, ◌-◌, ◌<◌, ◌≤◌, List, [], ◌∷◌, ◌++◌, length, Option}
use Rattle.std.specs.Prelude.{Bool, IsTrue, None, Some, drop}
use Rattle.bip_model.specs.Naming.{IsName}
use Rattle.bip_model.specs.Texts.{words, words_said}
use Rattle.bip_explain.specs.declared.placed.Placed.{Placed}

-- a word of a line begins at a column, counted in bytes from 1: in front of it stand a byte less,
-- and behind it the words of the line that follow it
pub record IsWordAt (line : List ℕ) (column : ℕ) (word : List ℕ) : Type 0 where
  pub before : List ℕ
  pub behind : List ℕ
  pub front : List (List ℕ)
  pub line_is : line ≡ before ++ (word ++ behind)
  pub column_is : column ≡ length before + 1
  pub words_are : words line ≡ front ++ word ∷ words behind

-- a word stands in a line, at its column
abbrev pub IsPlacedOn : List ℕ → Placed → Type 0
IsPlacedOn line placed = IsWordAt line placed.column placed.word.now

-- a list ends so
abbrev pub IsEndOf : {A : Type 0} → List A → List A → Type 0
IsEndOf whole end = drop (length whole - length end) whole ≡ end

-- what is left of a line behind some of its words
abbrev pub IsRestOf : List ℕ → List ℕ → Type 0
IsRestOf line rest = IsEndOf line rest × IsEndOf (words line) (words rest)

-- a word stands between what was left of a line, with it, and what is left behind it
pub record IsBetween (line old : List ℕ) (placed : Placed) (new : List ℕ) : Type 0 where
  pub some : 0 < length placed.word.now
  pub fits : length placed.word.now + length new ≤ length old
  pub column : length line + 1 ≡ placed.column + length placed.word.now + length new

-- a step over what is left of a line: its first word, if it has one, with the word's column
abbrev pub TakesWord : List ℕ → List ℕ → Option Placed → List ℕ → Type 0
TakesWord line old None new = (words old ≡ []) × (words new ≡ [])
TakesWord line old (Some placed) new =
    (words old ≡ placed.word.now ∷ words new) × (at : IsPlacedOn line placed)
    × (words at.behind ≡ words new) × IsBetween line old placed new

-- these words stand in front of what is left of a line
abbrev pub IsBehind : List (List ℕ) → List ℕ → List ℕ → Type 0
IsBehind front line rest = words line ≡ front ++ words rest

-- the first two words of a line stand in front of what is left
abbrev pub IsBehindTwo : List ℕ → List ℕ → Type 0
IsBehindTwo line rest =
    (first : List ℕ) × (second : List ℕ) × IsBehind (first ∷ second ∷ []) line rest

-- the words that a line says; none of a comment, or where a byte can stand in no text
abbrev pub words_told : Option (List (List ℕ)) → List (List ℕ)
words_told None = []
words_told (Some ws) = ws

abbrev pub said_words : List ℕ → List (List ℕ)
said_words line = words_told (words_said line)

-- a word is a name, and stands behind words of this kind
abbrev pub IsNameBehind : (List (List ℕ) → Bool) → List ℕ → Placed → Type 0
IsNameBehind are_such line placed =
    IsName placed.word.now × ((at : IsPlacedOn line placed) × IsTrue (are_such at.front))

-- a word is the first of a line that says something
abbrev pub IsFirstOn : List ℕ → Placed → Type 0
IsFirstOn line placed =
    (at : IsPlacedOn line placed) × (at.front ≡ [])
    × ((rest : List (List ℕ)) × (said_words line ≡ placed.word.now ∷ rest))

-- the first two words, as most lines are told apart
abbrev pub first_two : List (List ℕ) → Option (List ℕ × List ℕ)
first_two [] = None
first_two (first ∷ []) = None
first_two (first ∷ second ∷ rest) = Some (first, second)

abbrev pub first_three : List (List ℕ) → Option (List ℕ × List ℕ × List ℕ)
first_three (first ∷ second ∷ third ∷ rest) = Some (first, second, third)
first_three ws = None

abbrev pub first_four : List (List ℕ) → Option (List ℕ × List ℕ × List ℕ × List ℕ)
first_four (first ∷ second ∷ third ∷ fourth ∷ rest) = Some (first, second, third, fourth)
first_four ws = None
