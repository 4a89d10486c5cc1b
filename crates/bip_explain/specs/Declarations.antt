-- What the lines of a text begin with, and so declare.
use Rattle.std.specs.Prelude.{◌≡◌, ℕ, ◌<◌, Bool, false, ◌&&◌, ◌||◌, IsTrue, codes, List, [], ◌∷◌}
use Rattle.std.specs.Prelude.{true, nat_le, if◌then◌else◌, ◌⊎◌, ◌++◌}
use Rattle.bip_model.specs.Texts.{numbered_lines}
use Rattle.bip_model.specs.Naming.{same_text}
use Rattle.bip_model.specs.Texts.{line_at}
use Rattle.bip_explain.specs.Placed.{said_words}

-- words begin with these two
abbrev pub begins_with : List ℕ → List ℕ → List (List ℕ) → Bool
begins_with keyword name [] = false
begins_with keyword name (first ∷ []) = false
begins_with keyword name (first ∷ second ∷ rest) =
    same_text first keyword && same_text second name

-- a word that declares what a component has inside
abbrev pub declares_inner : List ℕ → Bool
declares_inner keyword = same_text keyword (codes "var") || same_text keyword (codes "loc")
    || same_text keyword (codes "port")

-- words declare a name inside a component
abbrev pub declares : List ℕ → List (List ℕ) → Bool
declares name [] = false
declares name (first ∷ []) = false
declares name (first ∷ second ∷ rest) = declares_inner first && same_text second name

-- the line with this number declares a name inside a component
abbrev pub IsInnerLine : List ℕ → ℕ → List ℕ → Type 0
IsInnerLine text line name = IsTrue (declares name (said_words (line_at text line)))

-- the line of a text with this number says words that begin with these two
abbrev pub IsLineWith : List ℕ → ℕ → List ℕ → List ℕ → Type 0
IsLineWith text line keyword name =
    IsTrue (begins_with keyword name (said_words (line_at text line)))

-- a line before one begins with these two words
abbrev pub HasLineWith : List ℕ → ℕ → List ℕ → List ℕ → Type 0
HasLineWith text line keyword name = (n : ℕ) × (n < line) × IsLineWith text n keyword name

-- no line before one begins with these two words
abbrev pub NoLineWith : List ℕ → ℕ → List ℕ → List ℕ → Type 0
NoLineWith text line keyword name =
    (n : ℕ) → n < line → begins_with keyword name (said_words (line_at text n)) ≡ false

-- words begin a component
abbrev pub begins_component : List (List ℕ) → Bool
begins_component [] = false
begins_component (first ∷ []) = false
begins_component (first ∷ second ∷ rest) = same_text first (codes "component")

-- behind one line and in front of another no component is begun
abbrev pub IsSameComponent : List ℕ → ℕ → ℕ → Type 0
IsSameComponent text n line =
    (k : ℕ) → n < k → k < line → begins_component (said_words (line_at text k)) ≡ false

-- behind a line, and in front of another one, a component is begun
abbrev pub IsBegunBetween : List ℕ → ℕ → ℕ → Type 0
IsBegunBetween text n number =
    (k : ℕ) × (n < k) × (k < number) × (begins_component (said_words (line_at text k)) ≡ true)

-- whether a line before one declares a name with a keyword inside a component, of lines that have
-- their numbers; and whether the first of these stands inside it
abbrev pub has_inside :
    List ℕ → List ℕ → List ℕ → ℕ → Bool → List (ℕ × List ℕ) → Bool
has_inside component keyword name line within [] = false
has_inside component keyword name line within ((n, bytes) ∷ rest) =
    if nat_le line n then false
    else (if begins_component (said_words bytes)
    then has_inside component keyword name line
    (begins_with (codes "component") component (said_words bytes)) rest
    else (if within && begins_with keyword name (said_words bytes) then true
    else has_inside component keyword name line within rest))

-- a line before one declares a name with a keyword inside a component
abbrev pub declares_inside : List ℕ → ℕ → List ℕ → List ℕ → List ℕ → Bool
declares_inside text line component keyword name =
    has_inside component keyword name line false (numbered_lines text)

-- What contracts of private functions say.

-- names are as they were, or have this word behind them, where the keyword is the one that is meant
abbrev pub IsMore : List ℕ → List ℕ → List ℕ → List (List ℕ) → List (List ℕ) → Type 0
IsMore meant keyword word old new =
    (new ≡ old) ⊎ (IsTrue (same_text keyword meant) × (new ≡ old ++ word ∷ []))
