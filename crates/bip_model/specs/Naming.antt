-- What a name is, and what lists of names are apart.
use Rattle.std.specs.Prelude.{◌≡◌, ℕ, ◌≤◌, Bool, false, not, ◌&&◌, ◌||◌, ◌==◌, nat_lt, nat_le}
use Rattle.std.specs.Prelude.{nat_eq, List, [], ◌∷◌, length, slice_index, slice_index_or, ⊤}
use Rattle.std.specs.Prelude.{IsTrue, codes}
use Rattle.std.specs.Char.{is_ascii_alphabetic, is_ascii_alphanumeric}
use Rattle.std.specs.Cmp.Lexicographic.{pointwise}
use Rattle.std.specs.List.{list_all, list_any}

-- whether two texts have the same bytes
abbrev pub same_text : List ℕ → List ℕ → Bool
same_text = pointwise nat_eq

-- a letter or an underscore
abbrev pub is_name_start : ℕ → Bool
is_name_start b = is_ascii_alphabetic b || b == 95

-- a letter, a digit or an underscore
abbrev pub is_name_byte : ℕ → Bool
is_name_byte b = is_ascii_alphanumeric b || b == 95

-- the words of the languages, which are no names
abbrev pub is_reserved : List ℕ → Bool
is_reserved text =
    same_text text (codes "bip") || same_text text (codes "component")
    || same_text text (codes "var") || same_text text (codes "loc")
    || same_text text (codes "port") || same_text text (codes "trans")
    || same_text text (codes "end") || same_text text (codes "interaction")
    || same_text text (codes "priority") || same_text text (codes "class")
    || same_text text (codes "when") || same_text text (codes "do")
    || same_text text (codes "and") || same_text text (codes "grant")
    || same_text text (codes "see")

-- letters, digits and underscores, of which the first is no digit
abbrev pub is_spelled_as_name : List ℕ → Bool
is_spelled_as_name text = nat_lt 0 (length text) && is_name_start (slice_index text 0)
    && list_all is_name_byte text

-- a name: spelled as one, of at most 32 bytes, and not reserved
abbrev pub IsName : List ℕ → Type 0
IsName text = IsTrue (is_spelled_as_name text) × (length text ≤ 32)
    × IsTrue (not (is_reserved text))

-- whether a text is a name
abbrev pub is_name : List ℕ → Bool
is_name text = is_spelled_as_name text && nat_le (length text) 32 && not (is_reserved text)

-- the name with a number
abbrev pub name_in : List (List ℕ) → ℕ → List ℕ
name_in names n = slice_index_or names n []

-- whether a name is in a list
abbrev pub is_known : List ℕ → List (List ℕ) → Bool
is_known name names = list_any (same_text name) names

-- no name stands twice
abbrev pub AreApart : List (List ℕ) → Type 0
AreApart [] = ⊤
AreApart (name ∷ names) = (is_known name names ≡ false) × AreApart names
