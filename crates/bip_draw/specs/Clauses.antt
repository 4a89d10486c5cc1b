-- Guards and assignments in drawings: the words of the model's canonical text.
use Rattle.std.specs.Prelude.{ℕ, List, [], ◌∷◌, ◌++◌, codes}
use Rattle.std.specs.List.{flat_map}
use Rattle.bip_model.specs.Texts.{spaced}
use Rattle.bip_model.specs.declared.expressions.Assignment.{Assignment}
use Rattle.bip_model.specs.declared.expressions.Comparison.{Comparison}
use Rattle.bip_model.specs.declared.expressions.Variable.{Variable}
use Rattle.bip_reader.specs.Writing.{words_of_assignment, words_of_comparison}

-- things behind one another, each behind a mark, and the first one behind another mark
abbrev pub listed : {X : Type 0} → List ℕ → List ℕ → (X → List ℕ) → List X → List ℕ
listed first mark f [] = []
listed first mark f (x ∷ xs) = (first ++ f x) ++ flat_map (λ y. mark ++ f y) xs

-- on lines of a label: `when COMPARISON`, `and COMPARISON` ..
abbrev pub guard_text : (Variable → List ℕ) → List (Comparison Variable) → List ℕ
guard_text spell guard =
    listed (codes "\\nwhen") (codes "\\nand") (λ c. flat_map spaced (words_of_comparison spell c))
    guard

-- on lines of a label: `do ASSIGNMENT`, `; ASSIGNMENT` ..
abbrev pub assignments_text : (Variable → List ℕ) → List (Assignment Variable) → List ℕ
assignments_text spell assignments =
    listed (codes "\\ndo") (codes "\\n;") (λ a. flat_map spaced (words_of_assignment spell a))
    assignments

-- a guard and assignments
unfoldable pub clauses_text : (Variable → List ℕ) → List (Comparison Variable)
    → List (Assignment Variable) → List ℕ
clauses_text spell guard assignments =
    guard_text spell guard ++ assignments_text spell assignments
