-- What a line of a model's text names twice, and how it is told.
use Rattle.std.specs.Prelude.{◌≡◌, ◌⊎◌, ℕ, ◌<◌, Bool, true, false, ◌&&◌, ◌||◌, IsTrue}
use Rattle.std.specs.Prelude.{List, [], ◌∷◌, ◌++◌, codes, ⊤}
use Rattle.std.specs.Fmt.{decimal}
use Rattle.bip_model.specs.Texts.{words}
use Rattle.bip_model.specs.Naming.{same_text}
use Rattle.bip_reader.specs.declared.faults.Why.{Why}
use Rattle.bip_reader.specs.declared.faults.Why.TheVariants as why
use Rattle.bip_explain.specs.Declarations.{IsInnerLine, IsLineWith, IsSameComponent}
use Rattle.bip_explain.specs.Declarations.{IsBegunBetween, NoLineWith}
use Rattle.bip_explain.specs.Declarations.{declares_inner}
use Rattle.bip_explain.specs.Explanations.{column_parts, marked, placed_parts}
use Rattle.bip_explain.specs.Limits.{are_head}
use Rattle.bip_model.specs.Texts.{line_at}
use Rattle.bip_explain.specs.Placed.{IsPlacedOn, IsWordAt, said_words}
use Rattle.bip_explain.specs.Unknown.{IsOf}
use Rattle.bip_explain.specs.declared.placed.Placed.{Placed}
use Rattle.bip_explain.specs.declared.twice.TwiceReason.{TwiceReason}
use Rattle.bip_explain.specs.declared.twice.TwiceReason.TheVariants.{Declared, Said, Leaves, Party}
use Rattle.bip_explain.specs.declared.twice.TwiceReason.TheVariants.{Target}

-- a word that declares something outside of components
abbrev pub declares_outer : List ℕ → Bool
declares_outer keyword = same_text keyword (codes "component")
    || same_text keyword (codes "interaction") || same_text keyword (codes "class")

-- the line with this number, in front of one that begins with a keyword, declares a name which that
-- one can't declare too: inside the same component, or with the same keyword outside of components
abbrev pub IsDeclaration : List ℕ → ℕ → List ℕ → ℕ → List ℕ → Type 0
IsDeclaration text number keyword n name =
    (IsTrue (declares_inner keyword) × IsInnerLine text n name × IsSameComponent text n number)
    ⊎ (IsTrue (declares_outer keyword) × IsLineWith text n keyword name)

-- words say the same priority: they begin with its keyword, and four of them are the same
abbrev pub say_same : List (List ℕ) → List (List ℕ) → Bool
say_same (a ∷ b ∷ c ∷ d ∷ xs) (e ∷ f ∷ g ∷ h ∷ ys) =
    same_text a (codes "priority") && same_text a e && same_text b f && same_text c g
    && same_text d h
say_same xs ys = false

-- transitions leave a location by a port: words begin with their keyword, and three are the same
abbrev pub leave_same : List (List ℕ) → List (List ℕ) → Bool
leave_same (a ∷ b ∷ c ∷ xs) (d ∷ e ∷ f ∷ ys) =
    same_text a (codes "trans") && same_text a d && same_text b e && same_text c f
leave_same xs ys = false

-- the line with this number, of those before one, has the transition of a line; and no component is
-- begun behind it before that one
abbrev pub IsSameTransition : List ℕ → ℕ → List ℕ → ℕ → Type 0
IsSameTransition text number line n =
    (n < number) × IsTrue (leave_same (said_words line) (said_words (line_at text n)))
    × IsSameComponent text n number

-- no line of those before one has the transition of a line, but in a component before
abbrev pub NoSameTransition : List ℕ → ℕ → List ℕ → Type 0
NoSameTransition text number line =
    (n : ℕ) → n < number → leave_same (said_words line) (said_words (line_at text n)) ≡ true
    → IsBegunBetween text n number

-- words that begin with these two declare nothing twice: inside a component no line before declares
-- the name there, and outside none does with the keyword
abbrev pub IsFirstDeclared : List ℕ → ℕ → List ℕ → List ℕ → Type 0
IsFirstDeclared text number keyword name =
    (declares_inner keyword ≡ true → (n : ℕ) → n < number → IsInnerLine text n name
    → IsBegunBetween text n number)
    × (declares_outer keyword ≡ true → NoLineWith text number keyword name)

-- words of a line are none that a line before says: as a priority, or as a declaration
abbrev pub AreUnsaid : List ℕ → ℕ → List (List ℕ) → Type 0
AreUnsaid text number [] = ⊤
AreUnsaid text number (keyword ∷ []) = ⊤
AreUnsaid text number (keyword ∷ name ∷ rest) =
    ((n : ℕ) → n < number
    → say_same (keyword ∷ name ∷ rest) (said_words (line_at text n)) ≡ false)
    × IsFirstDeclared text number keyword name

-- a word in front of a column names a component
abbrev pub IsPartyBefore : List ℕ → ℕ → List ℕ → Type 0
IsPartyBefore line column component =
    (at : ℕ) × (word : List ℕ) × (at < column) × IsWordAt line at word × IsOf component word

-- a word in front of one names the same component
abbrev pub IsPartyAgain : List ℕ → Placed → Type 0
IsPartyAgain line placed =
    (component : List ℕ) × IsOf component placed.word.now
    × IsPartyBefore line placed.column component

-- a word at a column is a target: `:=` stands behind it
abbrev pub IsTargetAt : List ℕ → ℕ → List ℕ → Type 0
IsTargetAt line column word =
    (at : IsWordAt line column word)
    × ((more : List (List ℕ)) × (words at.behind ≡ codes ":=" ∷ more))

-- the same word is a target in front of one
abbrev pub IsTargetBefore : List ℕ → Placed → Type 0
IsTargetBefore line placed =
    (column : ℕ) × (column < placed.column) × IsTargetAt line column placed.word.now

-- a reason is true of a line of a text: the word that is told stands at its column; the line that
-- is told stands before, and declares the name, or begins with the same words; a participant is one
-- of a component that a word before names, and a target is one before
abbrev pub IsTwiceReason : List ℕ → ℕ → List ℕ → TwiceReason → Type 0
IsTwiceReason text number line (Declared placed n) =
    IsPlacedOn line placed × (n < number)
    × ((keyword : List ℕ) × (rest : List (List ℕ))
    × (said_words line ≡ keyword ∷ placed.word.now ∷ rest)
    × IsDeclaration text number keyword n placed.word.now)
IsTwiceReason text number line (Said n) =
    (n < number) × IsTrue (say_same (said_words line) (said_words (line_at text n)))
IsTwiceReason text number line (Leaves n) = IsSameTransition text number line n
IsTwiceReason text number line (Party placed) =
    (at : IsPlacedOn line placed) × IsTrue (are_head at.front) × IsPartyAgain line placed
IsTwiceReason text number line (Target placed) =
    IsTargetAt line placed.column placed.word.now × IsTargetBefore line placed

-- the kind of fault that a reason is one of
abbrev pub why_of_twice : TwiceReason → Why
why_of_twice (Leaves n) = why.TwoTransitions
why_of_twice reason = why.Twice

-- how a reason is told
abbrev pub twice_parts : TwiceReason → List (List ℕ)
twice_parts (Declared placed n) =
    column_parts placed.column
    ++ codes "line " ∷ decimal n ∷ codes " declares " ∷ marked placed.word.now
    ∷ codes " already" ∷ []
twice_parts (Said n) = codes "line " ∷ decimal n ∷ codes " says this already" ∷ []
twice_parts (Leaves n) =
    codes "line " ∷ decimal n
    ∷ codes " has a transition with this port from this location already" ∷ []
twice_parts (Party placed) =
    placed_parts placed ++ codes " names a component that takes part already" ∷ []
twice_parts (Target placed) = placed_parts placed ++ codes " is a target already" ∷ []
