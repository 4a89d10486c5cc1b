-- The answer to the drawing of a part of a model, where words name what is selected.
use Rattle.std.specs.Prelude.{◌≡◌, ◌≢◌, ◌++◌, ◌∷◌, ℕ, List, None, Option, Some, codes, length, map}
use Rattle.std.specs.Prelude.{position, ⊤}
use Rattle.std.specs.Borrow.{Bor}
use Rattle.bip_model.specs.Naming.{same_text}
use Rattle.bip_model.specs.declared.numbering.ClassId.{ClassId}
use Rattle.bip_model.specs.declared.numbering.CompId.{CompId}
use Rattle.bip_model.specs.declared.parts.System.{System}
use Rattle.bip_model.specs.declared.partitions.Partition.{Partition}
use Rattle.bip_reader.specs.Texts.{HasFault, Means}
use Rattle.bip_reader.specs.declared.faults.ReadFault.{ReadFault}
use Rattle.bip_reader.specs.declared.faults.Why.TheVariants.{Memory}
use Rattle.bip_draw.specs.Selections.{drawing_of_part}
use Rattle.bip_draw.specs.declared.selections.Selection.{Selection}
use Rattle.bip_answers.specs.Answers.{complaining, saying}
use Rattle.bip_answers.specs.Wording.{model_refusal, unknown_text}
use Rattle.bip_answers.specs.declared.answers.Answer.{Answer}
use Rattle.bip_answers.specs.declared.answers.Status.TheVariants.{Done, Refused}
use Rattle.bip_answers.specs.declared.selected.SelectFault.TheVariants as fault
use Rattle.bip_answers.specs.declared.selected.SelectFault.TheVariants.{Unknown}
use Rattle.bip_answers.specs.declared.selected.SelectFault.{SelectFault}

-- the number of what a word names, in a list of names
abbrev pub number_named : List (List ℕ) → List ℕ → Option ℕ
number_named names word = position (same_text word) names

-- each of these words is a name, and these are their numbers
abbrev pub AreFoundNames : List (List ℕ) → List (Bor (List ℕ)) → List ℕ → Type 0
AreFoundNames names words numbers =
    map (λ (word : Bor (List ℕ)). number_named names word.now) words
    ≡ map (λ number. Some number) numbers

-- this is the first of the words that is no name
pub record IsFirstUnknown (names : List (List ℕ)) (words : List (Bor (List ℕ))) (word : List ℕ)
    : Type 0 where
  pub front : List (Bor (List ℕ))
  pub at : Bor (List ℕ)
  pub rest : List (Bor (List ℕ))
  pub split : words ≡ front ++ at ∷ rest
  pub numbers : List ℕ
  pub known : AreFoundNames names front numbers
  pub unknown : number_named names at.now ≡ None
  pub is : word ≡ at.now

-- the components and classes that words name are selected
pub record AreSelected (m : System) (kept : Partition) (components classes : List (Bor (List ℕ)))
    (x : Selection) : Type 0 where
  pub chosen : AreFoundNames m.component_names components
      (map (λ (c : CompId). c.0) x.components.now)
  pub parted : AreFoundNames kept.names classes (map (λ (k : ClassId). k.0) x.classes.now)

-- the answer to the drawing of a part of a model's text: of the components and classes that words
-- name
pub data IsPartAnswer (components classes : List (Bor (List ℕ))) (model : List ℕ) : Answer → Type 0
  where
    -- the text is a model that has them all: what they select is drawn
    drawn : (m : System) (kept : Partition) (x : Selection) → Means model m kept
        → AreSelected m kept components classes x
        → IsPartAnswer components classes model (saying Done (drawing_of_part m kept x))
    -- this word, the first such, names no component of it
    no_component : (m : System) (kept : Partition) (word : List ℕ) → Means model m kept
        → IsFirstUnknown m.component_names components word
        → IsPartAnswer components classes model
        (complaining Refused (unknown_text (codes "component") word))
    -- or no class, where each of the others names a component
    no_class : (m : System) (kept : Partition) (word : List ℕ) (numbers : List ℕ)
        → Means model m kept → AreFoundNames m.component_names components numbers
        → IsFirstUnknown kept.names classes word
        → IsPartAnswer components classes model
        (complaining Refused (unknown_text (codes "class") word))
    -- the text is no model
    undrawn : (fault : ReadFault) → fault.why ≢ Memory → HasFault model fault
        → IsPartAnswer components classes model (complaining Refused (model_refusal fault))

-- What contracts of private functions say.

-- why words select nothing: the one with a number from 0 is the first that is no name; or want of
-- memory
abbrev pub IsUnknownAt : List (List ℕ) → List (Bor (List ℕ)) → SelectFault → Type 0
IsUnknownAt names words (Unknown n) =
    (word : List ℕ) × (first : IsFirstUnknown names words word) × (length first.front ≡ n)
IsUnknownAt names words fault.Memory = ⊤
