-- The guards and the lists of assignments that lines state.
use Rattle.std.specs.Prelude.{ℕ, List, [], ◌∷◌, Option, None, Some, is_some}
use Rattle.std.specs.Prelude.{option_and_then, codes, if◌then◌else◌}
use Rattle.std.specs.List.{slice_split}
use Rattle.std.specs.Option.{option_map, option_map_or, option_zip}
use Rattle.bip_model.specs.Naming.{same_text}
use Rattle.bip_model.specs.Texts.{value_said}
use Rattle.bip_model.specs.declared.expressions.Assignment.{Assignment}
use Rattle.bip_model.specs.declared.expressions.Comparison.{Comparison}
use Rattle.bip_model.specs.declared.expressions.Expr.{Expr}
use Rattle.bip_model.specs.declared.expressions.Relation.{Relation}
use Rattle.bip_model.specs.declared.expressions.Relation.TheVariants as relation
use Rattle.bip_model.specs.declared.expressions.Sign.{Sign}
use Rattle.bip_model.specs.declared.expressions.Sign.TheVariants.{Plus, Minus}
use Rattle.bip_model.specs.declared.expressions.Term.{Term}
use Rattle.bip_model.specs.declared.expressions.Term.TheVariants.{Value, Of}
use Rattle.bip_model.specs.declared.scopes.VariableName.{VariableName}
use Rattle.bip_model.specs.Words.{and_of, cut_at, do_of, each_of, name_of, participant_of}
use Rattle.bip_model.specs.Words.{semicolon_of, when_of}
use Rattle.bip_model.specs.declared.clauses.Spelling.{Spelling}
use Rattle.bip_model.specs.declared.clauses.Spelling.TheVariants.{Own, Shared}

-- a variable: `v` inside a component, `C.v` in an interaction
abbrev pub variable_form : Spelling → List ℕ → Option VariableName
variable_form Own word = option_map (λ name. record { owner = None; name = name }) (name_of word)
variable_form Shared word =
    option_map (λ pair. record { owner = Some pair.0; name = pair.1 }) (participant_of word)

-- a value or a variable
abbrev pub term_form : Spelling → List ℕ → Option (Term VariableName)
term_form spelling word =
    option_map_or (λ n. Some (Value n)) (value_said word)
    (option_map Of (variable_form spelling word))

-- `+` or `-`
abbrev pub sign_of : List ℕ → Option Sign
sign_of word =
    if same_text word (codes "+") then Some Plus
    else if same_text word (codes "-") then Some Minus
    else None

-- a term behind its sign
abbrev pub signed_term_form : Spelling → List ℕ → List ℕ → Option (Sign × Term VariableName)
signed_term_form spelling sign term = option_zip (sign_of sign) (term_form spelling term)

-- what words are, two by two
abbrev pub pairs_form : {P : Type 0} → (List ℕ → List ℕ → Option P) → List (List ℕ)
    → Option (List P)
pairs_form f [] = Some []
pairs_form f (first ∷ []) = None
pairs_form f (first ∷ second ∷ rest) =
    option_map (λ p. p.0 ∷ p.1) (option_zip (f first second) (pairs_form f rest))

-- `TERM + TERM - TERM ..`
abbrev pub sum_form : Spelling → List (List ℕ) → Option (Expr VariableName)
sum_form spelling [] = None
sum_form spelling (term ∷ rest) =
    option_map (λ s. record { first = s.0; rest = s.1 })
    (option_zip (term_form spelling term) (pairs_form (signed_term_form spelling) rest))

-- `=`, `!=`, `<`, `<=`, `>` or `>=`
abbrev pub relation_of : List ℕ → Option Relation
relation_of word =
    if same_text word (codes "=") then Some relation.Equal
    else if same_text word (codes "!=") then Some relation.NotEqual
    else if same_text word (codes "<") then Some relation.Less
    else if same_text word (codes "<=") then Some relation.LessOrEqual
    else if same_text word (codes ">") then Some relation.Greater
    else if same_text word (codes ">=") then Some relation.GreaterOrEqual
    else None

-- `SUM OP SUM`, cut at its first relation
abbrev pub comparison_form : Spelling → List (List ℕ) → Option (Comparison VariableName)
comparison_form spelling words =
    option_and_then
    (λ cut. option_map (λ s. record { left = s.0; relation = cut.1; right = s.1 })
    (option_zip (sum_form spelling cut.0) (sum_form spelling cut.2)))
    (cut_at relation_of words)

-- `TARGET := SUM`
abbrev pub assignment_form : Spelling → List (List ℕ) → Option (Assignment VariableName)
assignment_form spelling (target ∷ mark ∷ sum) =
    if same_text mark (codes ":=") then option_map (λ a. record { target = a.0; sum = a.1 })
    (option_zip (variable_form spelling target) (sum_form spelling sum))
    else None
assignment_form spelling _ = None

-- the parts of words between marks, one more than there are marks
abbrev pub parts_at : {M : Type 0} → (List ℕ → Option M) → List (List ℕ) → List (List (List ℕ))
parts_at f words = slice_split (λ word. is_some (f word)) words

-- `PART MARK PART ..`; none where the words aren't there
abbrev pub list_form : {P M : Type 0} → (List (List ℕ) → Option P) → (List ℕ → Option M)
    → Option (List (List ℕ)) → Option (List P)
list_form part mark None = Some []
list_form part mark (Some words) = each_of part (parts_at mark words)

-- the words before the first mark, all where there is none, and those behind it, if it is there
abbrev pub words_before : {M : Type 0} → (List ℕ → Option M) → List (List ℕ) → List (List ℕ)
words_before f words = option_map_or (λ cut. cut.0) (cut_at f words) words

abbrev pub words_after : {M : Type 0} → (List ℕ → Option M) → List (List ℕ)
    → Option (List (List ℕ))
words_after f words = option_map (λ cut. cut.2) (cut_at f words)

-- `.. when GUARD do ASSIGNS`, cut at its first `do`, and before that at the first `when`: the words
-- before them, the guard's and the assignments'
abbrev pub head_of : List (List ℕ) → List (List ℕ)
head_of words = words_before when_of (words_before do_of words)

abbrev pub guard_words : List (List ℕ) → Option (List (List ℕ))
guard_words words = words_after when_of (words_before do_of words)

abbrev pub assignment_words : List (List ℕ) → Option (List (List ℕ))
assignment_words words = words_after do_of words

-- a guard, `COMPARISON and COMPARISON ..`, and assignments, `ASSIGNMENT ; ASSIGNMENT ..`
abbrev pub ClauseList : Type 0
ClauseList = List (Comparison VariableName) × List (Assignment VariableName)

abbrev pub clauses_form : Spelling → List (List ℕ) → Option ClauseList
clauses_form spelling words =
    option_zip (list_form (comparison_form spelling) and_of (guard_words words))
    (list_form (assignment_form spelling) semicolon_of (assignment_words words))
