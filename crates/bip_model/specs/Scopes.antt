-- The variables for which the names in a text stand, and what a text says with them.
use Rattle.std.specs.Prelude.{ℕ, ◌≤◌, Bool, true, not, ◌==◌, ◌&&◌, ◌||◌, nat_lt, nat_le, List}
use Rattle.std.specs.Prelude.{[], ◌∷◌, ◌++◌, length, map, Option, None, Result, Ok, Err}
use Rattle.std.specs.Prelude.{is_some, position, slice_get, unwrap_or, if◌then◌else◌}
use Rattle.std.specs.List.{list_all, list_any}
use Rattle.std.specs.Option.{option_and_then, option_map}
use Rattle.bip_model.specs.Expressions.{is_same}
use Rattle.bip_model.specs.Faults.{◌>>=◌}
use Rattle.bip_model.specs.Naming.{same_text}
use Rattle.bip_model.specs.Parts.{IsSystemSoFar, Participant}
use Rattle.bip_model.specs.declared.expressions.Assignment.{Assignment}
use Rattle.bip_model.specs.declared.expressions.Comparison.{Comparison}
use Rattle.bip_model.specs.declared.expressions.Expr.{Expr}
use Rattle.bip_model.specs.declared.expressions.Sign.{Sign}
use Rattle.bip_model.specs.declared.expressions.Term.{Term}
use Rattle.bip_model.specs.declared.expressions.Term.TheVariants.{Value, Of}
use Rattle.bip_model.specs.declared.expressions.Variable.{Variable}
use Rattle.bip_model.specs.declared.faults.BuildFault.{BuildFault}
use Rattle.bip_model.specs.declared.faults.BuildFault.TheVariants.{Unknown, Twice}
use Rattle.bip_model.specs.declared.parts.System.{System}
use Rattle.bip_model.specs.declared.scopes.Scope.{Scope}
use Rattle.bip_model.specs.declared.scopes.Scope.TheVariants.{Own, Shared}
use Rattle.bip_model.specs.declared.scopes.VariableName.{VariableName}

-- the variable with a name among those of an owner
abbrev pub variable_named : List (List ℕ) → ℕ → List ℕ → Option Variable
variable_named names owner name =
    option_map (λ n. record { owner = owner; number = record { 0 = n } })
    (position (same_text name) names)

-- in a component a variable has its name alone
abbrev pub own : List (List ℕ) → VariableName → Option Variable
own names v = if is_some v.owner then None else variable_named names 0 v.name

-- the variable with a name of the participant whose component has a name
abbrev pub variable_among : System → List Participant → List ℕ → List ℕ → Option Variable
variable_among m participants owner name =
    option_and_then
    (λ c. option_and_then
    (λ i. option_and_then (λ component. variable_named component.variables i name)
    (slice_get m.components c)) (position (λ (q : Participant). q.0.0 == c) participants))
    (position (same_text owner) m.component_names)

-- in an interaction a variable has the name of a participant's component, and its own
abbrev pub shared : System → List Participant → VariableName → Option Variable
shared m participants v =
    option_and_then (λ owner. variable_among m participants owner v.name) v.owner

-- the variable for which a name stands
abbrev pub variable_in : Scope → VariableName → Option Variable
variable_in (Own names) v = own names.now v
variable_in (Shared m participants) v = shared m.now participants.now v

-- where names are looked up, so that each variable has a number
abbrev pub IsScope : Scope → Type 0
IsScope (Own names) = length names.now ≤ 8
IsScope (Shared m participants) =
    IsSystemSoFar m.now × (length participants.now ≤ 64)

-- the same of names that are known
abbrev pub variable_of : (VariableName → Option Variable) → VariableName → Variable
variable_of find v = unwrap_or (find v) (record { owner = 0; number = record { 0 = 0 } })

-- whether all names of a term, a sum, a guard or a list of assignments are known
abbrev pub knows_term : (VariableName → Option Variable) → Term VariableName → Bool
knows_term find (Value n) = true
knows_term find (Of v) = is_some (find v)

abbrev pub knows_sum : (VariableName → Option Variable) → Expr VariableName → Bool
knows_sum find e =
    knows_term find e.first
    && list_all (λ (t : Sign × Term VariableName). knows_term find t.1) e.rest

abbrev pub knows_guard : (VariableName → Option Variable) → List (Comparison VariableName) → Bool
knows_guard find guard = list_all (λ c. knows_sum find c.left && knows_sum find c.right) guard

abbrev pub knows_assignments : (VariableName → Option Variable)
    → List (Assignment VariableName) → Bool
knows_assignments find assignments =
    list_all (λ a. is_some (find a.target) && knows_sum find a.sum) assignments

-- an assignment of a transfer behind others: its target is known, and was none before, and the
-- names of its sum are known
abbrev pub assignment_said : (VariableName → Option Variable) → List (Assignment VariableName)
    → Assignment VariableName → Result (Unit {0}) BuildFault
assignment_said find before a =
    if not (is_some (find a.target)) then Err Unknown
    else if list_any (λ (b : Assignment VariableName).
    is_same (variable_of find b.target) (variable_of find a.target)) before then Err Twice
    else if not (knows_sum find a.sum) then Err Unknown
    else Ok tt

-- the assignments of a transfer behind others, by the first word from the left that is at fault
abbrev pub transfer_said : (VariableName → Option Variable) → List (Assignment VariableName)
    → List (Assignment VariableName) → Result (Unit {0}) BuildFault
transfer_said find before [] = Ok tt
transfer_said find before (a ∷ rest) =
    assignment_said find before a >>= λ _. transfer_said find (before ++ a ∷ []) rest

-- what a text says, with variables in place of their names; or the other way round
abbrev pub term_with : {V W : Type 0} → (V → W) → Term V → Term W
term_with f (Value n) = Value n
term_with f (Of v) = Of (f v)

abbrev pub sum_with : {V W : Type 0} → (V → W) → Expr V → Expr W
sum_with f e =
    record {
      first = term_with f e.first;
      rest = map (λ t. (t.0, term_with f t.1)) e.rest;
    }

abbrev pub comparison_with : {V W : Type 0} → (V → W) → Comparison V → Comparison W
comparison_with f c =
    record { left = sum_with f c.left; relation = c.relation; right = sum_with f c.right }

abbrev pub assignment_with : {V W : Type 0} → (V → W) → Assignment V → Assignment W
assignment_with f a = record { target = f a.target; sum = sum_with f a.sum }

abbrev pub guard_with : (VariableName → Option Variable) → List (Comparison VariableName)
    → List (Comparison Variable)
guard_with find guard = map (comparison_with (variable_of find)) guard

abbrev pub assignments_with : (VariableName → Option Variable) → List (Assignment VariableName)
    → List (Assignment Variable)
assignments_with find assignments = map (assignment_with (variable_of find)) assignments

-- more than 16 terms, comparisons or assignments
abbrev pub is_long_sum : Expr VariableName → Bool
is_long_sum e = nat_le 16 (length e.rest)

abbrev pub is_long_guard : List (Comparison VariableName) → Bool
is_long_guard guard =
    nat_lt 16 (length guard)
    || list_any (λ c. is_long_sum c.left || is_long_sum c.right) guard

abbrev pub are_long_assignments : List (Assignment VariableName) → Bool
are_long_assignments assignments =
    nat_lt 16 (length assignments)
    || list_any (λ a. is_long_sum a.sum) assignments
