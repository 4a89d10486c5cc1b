-- What is said of a fault.
use Rattle.std.specs.Prelude.{◌≡◌, ◌⊎◌, ℕ, ◌+◌, Bool, true, false, not, ◌&&◌, ◌==◌, nat_le}
use Rattle.std.specs.Prelude.{List, [], ◌∷◌, ◌++◌, length, codes, if◌then◌else◌, map, take}
use Rattle.std.specs.Fmt.{decimal}
use Rattle.bip_explain.specs.declared.placed.Placed.{Placed}

-- what is said, where it is wanted; behind what is cut nothing more is said
pub record Telling : Type 0 where
  pub is_wanted : Bool
  pub is_cut : Bool
  pub said : List ℕ

-- it is wanted, and nothing is said yet
abbrev pub is_open : Telling → Bool
is_open e = e.is_wanted && (length e.said == 0)

-- a byte that a terminal shows as it is
abbrev pub is_shown : ℕ → Bool
is_shown byte = nat_le 32 byte && nat_le byte 126

-- a byte as it is said: `?` in place of one that isn't shown
abbrev pub said_byte : ℕ → ℕ
said_byte byte = if is_shown byte then byte else 63

-- how many bytes whole parts have together, so that two dots have room behind them
abbrev pub most_whole : ℕ
most_whole = 478

-- a part is said last, and whole: where it has no room two dots stand, and nothing behind them
unfoldable pub with_part : List ℕ → Telling → Telling
with_part part e =
    if e.is_wanted && not e.is_cut
    then (if nat_le (length e.said + length part) most_whole
    then record e { said = e.said ++ map said_byte part }
    else record e { is_cut = true; said = e.said ++ codes ".." })
    else e

-- parts are said one after another
abbrev pub with_parts : List (List ℕ) → Telling → Telling
with_parts [] e = e
with_parts (part ∷ rest) e = with_parts rest (with_part part e)

-- a word as it is said, between marks; of a long one its beginning
abbrev pub marked : List ℕ → List ℕ
marked word =
    codes "`" ++ take 48 word ++ (if nat_le (length word) 48 then [] else codes "..") ++ codes "`"

-- a column as it is said, in front of what stands there
abbrev pub column_parts : ℕ → List (List ℕ)
column_parts column = codes "column " ∷ decimal column ∷ codes ": " ∷ []

-- a word as it is said, behind its column
abbrev pub placed_parts : Placed → List (List ℕ)
placed_parts placed = column_parts placed.column ++ marked placed.word.now ∷ []

-- nothing is said where it isn't open; where it is, what is said is how a reason is spelled that is
-- true, and nothing only where there is leave to be silent
pub record Tells {R : Type 0} (MayBeSilent : Type 0) (IsTrue : R → Type 0)
    (parts : R → List (List ℕ)) (old : Telling) (new : Telling) : Type 0 where
  pub closed : is_open old ≡ false → new ≡ old
  pub opened : is_open old ≡ true → (MayBeSilent × (new ≡ old))
      ⊎ ((reason : R) × IsTrue reason × (new ≡ with_parts (parts reason) old))

-- what is said stays as it was, where nothing more is wanted
abbrev pub StaysClosed : Telling → Telling → Type 0
StaysClosed old new = is_open old ≡ false → new ≡ old
