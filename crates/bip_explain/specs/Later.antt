-- Lines behind one that declare what it names.
use Rattle.std.specs.Prelude.{ℕ, ◌<◌, IsTrue, List, [], ◌∷◌, Option, None, Some}
use Rattle.bip_model.specs.Texts.{line_at}
use Rattle.bip_explain.specs.Declarations.{begins_with}
use Rattle.bip_explain.specs.Keywords.{IsStatedAt}
use Rattle.bip_explain.specs.Placed.{said_words}
use Rattle.bip_explain.specs.Scopes.{IsStandingAt}
use Rattle.bip_explain.specs.declared.scopes.Standing.{Standing}
use Rattle.bip_explain.specs.declared.scopes.Standing.TheVariants.{First, Outside, Inside}

-- words are a line of the grammar that can stand outside of components
abbrev pub StateOutside : List (List ℕ) → Type 0
StateOutside [] = ⊥
StateOutside (keyword ∷ rest) = IsStatedAt Outside (keyword ∷ rest)

-- they declare a name there: they begin with a keyword and the name
abbrev pub DeclareOutside : List ℕ → List ℕ → List (List ℕ) → Type 0
DeclareOutside keyword name ws = IsTrue (begins_with keyword name ws) × StateOutside ws

-- the line of a text with this number stands outside of components, and declares a name there
abbrev pub IsDeclaredOn : List ℕ → ℕ → List ℕ → List ℕ → Type 0
IsDeclaredOn text n keyword name =
    IsStandingAt text n Outside × DeclareOutside keyword name (said_words (line_at text n))

-- a line that is told to declare a name with a keyword stands behind one, and does; where none is
-- told no line behind it does
abbrev pub IsLaterLine : List ℕ → ℕ → List ℕ → List ℕ → Option ℕ → Type 0
IsLaterLine text number keyword name None =
    (n : ℕ) → number < n → ¬ IsDeclaredOn text n keyword name
IsLaterLine text number keyword name (Some n) =
    (number < n) × IsDeclaredOn text n keyword name

-- What contracts of private functions say.

-- words of a line that stands so declare a name outside of components
abbrev pub DeclareHere : Standing → List ℕ → List ℕ → List (List ℕ) → Type 0
DeclareHere Outside keyword name ws = DeclareOutside keyword name ws
DeclareHere First keyword name ws = ⊥
DeclareHere (Inside component) keyword name ws = ⊥
