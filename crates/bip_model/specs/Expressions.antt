-- What sums, comparisons and assignments mean over the values of components. The values of an
-- interaction are those of each participant in turn; a component's are its own alone.
use Rattle.std.specs.Prelude.{ℕ, ◌+◌, ◌-◌, ◌%◌, ◌^◌, ◌<◌, Bool, not, ◌==◌, ◌&&◌, false, ◌≡◌, ⊤}
use Rattle.std.specs.Prelude.{nat_lt, nat_le, List, [], ◌∷◌, length, map, fold, slice_index}
use Rattle.std.specs.Prelude.{slice_index_or, slice_set, All, AllPairs}
use Rattle.std.specs.List.{list_all}
use Rattle.bip_model.specs.declared.expressions.Assignment.{Assignment}
use Rattle.bip_model.specs.declared.expressions.Comparison.{Comparison}
use Rattle.bip_model.specs.declared.expressions.Expr.{Expr}
use Rattle.bip_model.specs.declared.expressions.Relation.{Relation}
use Rattle.bip_model.specs.declared.expressions.Relation.TheVariants.{Less, LessOrEqual, Greater}
use Rattle.bip_model.specs.declared.expressions.Relation.TheVariants.{GreaterOrEqual, Equal}
use Rattle.bip_model.specs.declared.expressions.Relation.TheVariants.{NotEqual}
use Rattle.bip_model.specs.declared.expressions.Sign.{Sign}
use Rattle.bip_model.specs.declared.expressions.Sign.TheVariants.{Plus, Minus}
use Rattle.bip_model.specs.declared.expressions.Term.{Term}
use Rattle.bip_model.specs.declared.expressions.Term.TheVariants.{Value, Of}
use Rattle.bip_model.specs.declared.expressions.Variable.{Variable}

-- how many variables each has
abbrev pub counts : List (List ℕ) → List ℕ
counts values = map length values

-- a variable that is there
abbrev pub IsVariableIn : List ℕ → Variable → Type 0
IsVariableIn counts v = (v.owner < length counts) × (v.number.0 < slice_index counts v.owner)

-- a term whose variable is there
abbrev pub IsTermIn : List ℕ → Term Variable → Type 0
IsTermIn counts (Value n) = ⊤
IsTermIn counts (Of v) = IsVariableIn counts v

-- a sum whose variables are there
pub record IsExprIn (counts : List ℕ) (e : Expr Variable) : Type 0 where
  pub first : IsTermIn counts e.first
  pub rest : All (λ (t : Sign × Term Variable). IsTermIn counts t.1) e.rest

-- a comparison whose variables are there
pub record IsComparisonIn (counts : List ℕ) (c : Comparison Variable) : Type 0 where
  pub left : IsExprIn counts c.left
  pub right : IsExprIn counts c.right

-- an assignment whose variables are there
pub record IsAssignmentIn (counts : List ℕ) (a : Assignment Variable) : Type 0 where
  pub target : IsVariableIn counts a.target
  pub sum : IsExprIn counts a.sum

abbrev pub AreComparisonsIn : List ℕ → List (Comparison Variable) → Type 0
AreComparisonsIn counts guard = All (IsComparisonIn counts) guard

abbrev pub AreAssignmentsIn : List ℕ → List (Assignment Variable) → Type 0
AreAssignmentsIn counts assignments = All (IsAssignmentIn counts) assignments

-- the value of a variable; 0 where it isn't there
abbrev pub value_in : List (List ℕ) → Variable → ℕ
value_in values v = slice_index (slice_index_or values v.owner []) v.number.0

-- the value of a term
abbrev pub term_value : List (List ℕ) → Term Variable → ℕ
term_value values (Value n) = n
term_value values (Of v) = value_in values v

-- a number to which another is added, or from which it is taken away, modulo 2^32
abbrev pub joined : Sign → ℕ → ℕ → ℕ
joined Plus n k = (n + k) % 2 ^ 32
joined Minus n k = (n + (2 ^ 32 - k % 2 ^ 32)) % 2 ^ 32

-- a number to which terms are joined, from the left
abbrev pub all_joined : List (List ℕ) → ℕ → List (Sign × Term Variable) → ℕ
all_joined values n terms =
    fold (λ k (t : Sign × Term Variable). joined t.0 k (term_value values t.1)) n terms

-- the value of a sum
abbrev pub value_of : List (List ℕ) → Expr Variable → ℕ
value_of values e = all_joined values (term_value values e.first) e.rest

-- whether a number stands so to another
abbrev pub relates : Relation → ℕ → ℕ → Bool
relates Less n k = nat_lt n k
relates LessOrEqual n k = nat_le n k
relates Greater n k = nat_lt k n
relates GreaterOrEqual n k = nat_le k n
relates Equal n k = n == k
relates NotEqual n k = not (n == k)

-- whether a comparison holds
abbrev pub holds_in : List (List ℕ) → Comparison Variable → Bool
holds_in values c = relates c.relation (value_of values c.left) (value_of values c.right)

-- whether a guard holds: all its comparisons do
abbrev pub holds : List (Comparison Variable) → List (List ℕ) → Bool
holds guard values = list_all (holds_in values) guard

-- the values of a component after one assignment
abbrev pub assigned : List ℕ → Assignment Variable → List ℕ
assigned values a = slice_set values a.target.number.0 (value_of (values ∷ []) a.sum)

-- the values of a component after assignments in written order, each with what those before it left
abbrev pub updated : List (Assignment Variable) → List ℕ → List ℕ
updated assignments values = fold assigned values assignments

-- values with another number in a variable's place
abbrev pub put_in : List (List ℕ) → Variable → ℕ → List (List ℕ)
put_in values v n =
    slice_set values v.owner (slice_set (slice_index_or values v.owner []) v.number.0 n)

-- values after assignments at once: each sum is of the values before
abbrev pub transferred : List (Assignment Variable) → List (List ℕ) → List (List ℕ)
transferred [] values = values
transferred (a ∷ rest) values =
    put_in (transferred rest values) a.target (value_of values a.sum)

-- one variable
abbrev pub is_same : Variable → Variable → Bool
is_same v w = (v.owner == w.owner) && (v.number.0 == w.number.0)

-- no variable is the target of two assignments
abbrev pub AreTargetsApart : List (Assignment Variable) → Type 0
AreTargetsApart assignments =
    AllPairs (λ (a b : Assignment Variable). is_same a.target b.target ≡ false) assignments
