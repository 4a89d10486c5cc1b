-- Where a line of a model's text stands.
use Rattle.std.specs.Prelude.{◌≡◌, ◌⊎◌, ℕ, ◌<◌, Bool, true, false, ◌||◌, IsTrue, List, [], ◌∷◌}
use Rattle.std.specs.Prelude.{codes}
use Rattle.bip_model.specs.Naming.{same_text}
use Rattle.bip_explain.specs.Declarations.{IsLineWith, begins_component, begins_with}
use Rattle.bip_model.specs.Texts.{line_at}
use Rattle.bip_explain.specs.Placed.{said_words}
use Rattle.bip_explain.specs.declared.scopes.Standing.{Standing}
use Rattle.bip_explain.specs.declared.scopes.Standing.TheVariants.{First, Outside, Inside}

-- words end a component: `end`
abbrev pub ends_component : List (List ℕ) → Bool
ends_component (word ∷ []) = same_text word (codes "end")
ends_component ws = false

-- words begin a component, or end one
abbrev pub bounds_component : List (List ℕ) → Bool
bounds_component ws = begins_component ws || ends_component ws

-- a component is begun in front of a line, and neither is it ended there nor another one begun
pub record IsInside (text : List ℕ) (line : ℕ) (component : List ℕ) : Type 0 where
  pub begun : ℕ
  pub before : begun < line
  pub begins : IsLineWith text begun (codes "component") component
  pub stays : (n : ℕ) → begun < n → n < line
      → bounds_component (said_words (line_at text n)) ≡ false

-- each component that is begun in front of a line is ended there, and something is said
pub record IsOutside (text : List ℕ) (line : ℕ) : Type 0 where
  pub saying : ℕ
  pub before : saying < line
  pub says : ¬ (said_words (line_at text saying) ≡ [])
  pub ended : (n : ℕ) → n < line → begins_component (said_words (line_at text n)) ≡ true
      → (k : ℕ) × (n < k) × (k < line)
      × (ends_component (said_words (line_at text k)) ≡ true)

-- where a line stands: nothing is said in front of it, or it is outside of components, or inside
-- one
abbrev pub IsStandingAt : List ℕ → ℕ → Standing → Type 0
IsStandingAt text line First = (n : ℕ) → n < line → said_words (line_at text n) ≡ []
IsStandingAt text line Outside = IsOutside text line
IsStandingAt text line (Inside component) = IsInside text line component.now

-- where it stands behind a line of these words
abbrev pub StandsBehind : Standing → List (List ℕ) → Standing → Type 0
StandsBehind old ws First = (old ≡ First) × (ws ≡ [])
StandsBehind old ws Outside =
    (¬ (ws ≡ []) × (ends_component ws ≡ true))
    ⊎ ((old ≡ First) × (¬ (ws ≡ [])) × (begins_component ws ≡ false))
    ⊎ ((old ≡ Outside) × (begins_component ws ≡ false))
StandsBehind old ws (Inside component) =
    ((old ≡ Inside component) × (bounds_component ws ≡ false))
    ⊎ IsTrue (begins_with (codes "component") component.now ws)

-- the first line that says something is passed
abbrev pub IsPastFirst : Standing → Standing → Type 0
IsPastFirst old First = ⊥
IsPastFirst old Outside = (old ≡ First) ⊎ (old ≡ Outside)
IsPastFirst old (Inside component) = old ≡ Inside component
