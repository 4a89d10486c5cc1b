-- Names of variables, looked up where they stand: they are the variables that they name.
use Rattle.std.proofs.Common.{◌≡◌, ℕ, suc, ◌<◌, ◌≤◌, true, false, ◌||◌, eqb, List, [], ◌∷◌, ◌++◌}
use Rattle.std.proofs.Common.{length, get_or, map, Option, None, Some, Ok, refl, ap, ◌∙◌, arith}
use Rattle.std.specs.Prelude.{All, position, slice_get, slice_index}
use Rattle.std.specs.List.{list_all, list_any, position_or_len}
use Rattle.std.specs.List.Sorted.{IsStrictlyIncreasing}
use Rattle.std.proofs.lemmas.Bool.{ne_eqb}
use Rattle.std.proofs.lemmas.Cmp.{nat_eq_equiv}
use Rattle.std.proofs.lemmas.Bool.Decides.{nat_tests}
use Rattle.std.proofs.lemmas.List.{get_or-map, length-map, map_push}
use Rattle.std.proofs.lemmas.Option.{slice_get-get_or}
use Rattle.std.proofs.lemmas.List.Elements.{All-append, All-cons, All-head, All-nil, All-tail}
use Rattle.std.proofs.lemmas.List.Sums.{position_or_len_is}
use Rattle.bip_model.specs.Components.{no_component}
use Rattle.bip_model.specs.Expressions.{AreAssignmentsIn, AreComparisonsIn, AreTargetsApart}
use Rattle.bip_model.specs.Expressions.{IsAssignmentIn, IsComparisonIn, IsExprIn, IsTermIn}
use Rattle.bip_model.specs.Expressions.{IsVariableIn, is_same}
use Rattle.bip_model.specs.Naming.{AreApart, name_in}
use Rattle.bip_model.specs.Parts.{AreAssignmentsOver, IsGuardOver, IsPortIn, IsShortSum}
use Rattle.bip_model.specs.Parts.{Participant, components_in, count_of, counts_of}
use Rattle.bip_model.specs.Scopes.{are_long_assignments, assignment_said, assignment_with}
use Rattle.bip_model.specs.Scopes.{assignments_with, comparison_with, guard_with, is_long_guard}
use Rattle.bip_model.specs.Scopes.{is_long_sum, knows_assignments, knows_guard, knows_sum}
use Rattle.bip_model.specs.Scopes.{knows_term, own, shared, sum_with, term_with, transfer_said}
use Rattle.bip_model.specs.Scopes.{variable_of}
use Rattle.bip_model.specs.declared.expressions.Assignment.{Assignment}
use Rattle.bip_model.specs.declared.expressions.Comparison.{Comparison}
use Rattle.bip_model.specs.declared.expressions.Expr.{Expr}
use Rattle.bip_model.specs.declared.expressions.Sign.{Sign}
use Rattle.bip_model.specs.declared.expressions.Term.{Term}
use Rattle.bip_model.specs.declared.expressions.Term.TheVariants.{Value, Of}
use Rattle.bip_model.specs.declared.expressions.Variable.{Variable}
use Rattle.bip_model.specs.declared.parts.Component.{Component}
use Rattle.bip_model.specs.declared.parts.System.{System}
use Rattle.bip_model.specs.declared.scopes.VariableName.{VariableName}
use Rattle.bip_model.proofs.ListLemmas.{below_later}
use Rattle.bip_model.proofs.WrittenLemmas.{position-name}
use Rattle.bip_reader.specs.Writing.{component_in, own_word}

-- a list of things is long where the list that is made of each is
map-long : {X Y : Type 0} (f : X → Y) (xs : List X) → length (map f xs) ≡ length xs
map-long f xs = length-map xs f

module _ (counts : List ℕ) (find : VariableName → Option Variable) (name : Variable → VariableName)
    (found : (v : Variable) → IsVariableIn counts v → find (name v) ≡ Some v) where
  term_known : (t : Term Variable) → IsTermIn counts t → knows_term find (term_with name t) ≡ true
  term_known (Value n) there = refl
  term_known (Of v) there = rw (found v there) refl

  term_back : (t : Term Variable) → IsTermIn counts t
      → term_with (variable_of find) (term_with name t) ≡ t
  term_back (Value n) there = refl
  term_back (Of v) there = rw (found v there) refl

  terms_known : (ts : List (Sign × Term Variable))
      → All (λ (t : Sign × Term Variable). IsTermIn counts t.1) ts
      → list_all (λ (t : Sign × Term VariableName). knows_term find t.1)
      (map (λ t. (t.0, term_with name t.1)) ts) ≡ true
  terms_known [] there = refl
  terms_known (t ∷ ts) there =
      rw (
        term_known t.1 (All-head (λ (u : Sign × Term Variable). IsTermIn counts u.1) t ts there),
        terms_known ts (All-tail (λ (u : Sign × Term Variable). IsTermIn counts u.1) t ts there),
      )
      refl

  terms_back : (ts : List (Sign × Term Variable))
      → All (λ (t : Sign × Term Variable). IsTermIn counts t.1) ts
      → map (λ (t : Sign × Term VariableName). (t.0, term_with (variable_of find) t.1))
      (map (λ t. (t.0, term_with name t.1)) ts) ≡ ts
  terms_back [] there = refl
  terms_back (t ∷ ts) there =
      rw (
        term_back t.1 (All-head (λ (u : Sign × Term Variable). IsTermIn counts u.1) t ts there),
        terms_back ts (All-tail (λ (u : Sign × Term Variable). IsTermIn counts u.1) t ts there),
      )
      refl

  sum_known : (e : Expr Variable) → IsExprIn counts e → knows_sum find (sum_with name e) ≡ true
  sum_known e there = rw (term_known e.first there.first, terms_known e.rest there.rest) refl

  sum_back : (e : Expr Variable) → IsExprIn counts e
      → sum_with (variable_of find) (sum_with name e) ≡ e
  sum_back e there = rw (term_back e.first there.first, terms_back e.rest there.rest) refl

  sum_short : (e : Expr Variable) → IsShortSum e → is_long_sum (sum_with name e) ≡ false
  sum_short e short = let long : length (sum_with name e).rest ≡ length e.rest =
      map-long {Y = Sign × Term VariableName}
      (λ (t : Sign × Term Variable). (t.0, term_with name t.1)) e.rest in grind (arith, nat_tests)

  pub guard_known : (guard : List (Comparison Variable)) → AreComparisonsIn counts guard
      → knows_guard find (map (comparison_with name) guard) ≡ true
  guard_known [] there = refl
  guard_known (c ∷ rest) there =
      let first = All-head (IsComparisonIn counts) c rest there in
      rw (
        sum_known c.left first.left,
        sum_known c.right first.right,
        guard_known rest (All-tail (IsComparisonIn counts) c rest there),
      ) refl

  pub guard_back : (guard : List (Comparison Variable)) → AreComparisonsIn counts guard
      → guard_with find (map (comparison_with name) guard) ≡ guard
  guard_back [] there = refl
  guard_back (c ∷ rest) there =
      let first = All-head (IsComparisonIn counts) c rest there in
      rw (
        sum_back c.left first.left,
        sum_back c.right first.right,
        guard_back rest (All-tail (IsComparisonIn counts) c rest there),
      ) refl

  guard_sums : (guard : List (Comparison Variable))
      → All (λ c. IsShortSum c.left × IsShortSum c.right) guard
      → list_any (λ c. is_long_sum c.left || is_long_sum c.right) (map (comparison_with name) guard)
      ≡ false
  guard_sums [] short = refl
  guard_sums (c ∷ rest) short =
      let first = All-head (λ (d : Comparison Variable). IsShortSum d.left × IsShortSum d.right) c
      rest short in
      rw (
        sum_short c.left first.0,
        sum_short c.right first.1,
        guard_sums rest (All-tail (λ (d : Comparison Variable). IsShortSum d.left
            × IsShortSum d.right) c rest short),
      ) refl

  pub guard_short : (guard : List (Comparison Variable)) → IsGuardOver counts guard
      → is_long_guard (map (comparison_with name) guard) ≡ false
  guard_short guard over = rw (guard_sums guard over.short)
      (grind (arith, nat_tests, map-long (comparison_with name) guard, over.few))

  pub assignments_known : (list : List (Assignment Variable)) → AreAssignmentsIn counts list
      → knows_assignments find (map (assignment_with name) list) ≡ true
  assignments_known [] there = refl
  assignments_known (a ∷ rest) there =
      let first = All-head (IsAssignmentIn counts) a rest there in
      rw (
        found a.target first.target,
        sum_known a.sum first.sum,
        assignments_known rest (All-tail (IsAssignmentIn counts) a rest there),
      ) refl

  pub assignments_back : (list : List (Assignment Variable)) → AreAssignmentsIn counts list
      → assignments_with find (map (assignment_with name) list) ≡ list
  assignments_back [] there = refl
  assignments_back (a ∷ rest) there =
      let first = All-head (IsAssignmentIn counts) a rest there in
      rw (
        found a.target first.target,
        sum_back a.sum first.sum,
        assignments_back rest (All-tail (IsAssignmentIn counts) a rest there),
      ) refl

  assignments_sums : (list : List (Assignment Variable))
      → All (λ (a : Assignment Variable). IsShortSum a.sum) list
      → list_any (λ (a : Assignment VariableName). is_long_sum a.sum)
      (map (assignment_with name) list) ≡ false
  assignments_sums [] short = refl
  assignments_sums (a ∷ rest) short =
      rw (
        sum_short a.sum (All-head (λ (b : Assignment Variable). IsShortSum b.sum) a rest short),
        assignments_sums rest (All-tail (λ (b : Assignment Variable). IsShortSum b.sum) a rest
            short),
      ) refl

  pub assignments_short : (list : List (Assignment Variable)) → AreAssignmentsOver counts list
      → are_long_assignments (map (assignment_with name) list) ≡ false
  assignments_short list over = rw (assignments_sums list over.short)
      (grind (arith, nat_tests, map-long (assignment_with name) list, over.few))

  -- no assignment before has the target of one
  no_twice : (before : List (Assignment Variable)) (a : Assignment Variable)
      → AreAssignmentsIn counts before → IsVariableIn counts a.target
      → All (λ (b : Assignment Variable). is_same b.target a.target ≡ false) before
      → list_any (λ (b : Assignment VariableName). is_same (variable_of find b.target)
      (variable_of find (name a.target))) (map (assignment_with name) before) ≡ false
  no_twice [] a there target apart = refl
  no_twice (b ∷ before) a there target apart =
      let first = All-head (IsAssignmentIn counts) b before there in
      rw (no_twice before a (All-tail (IsAssignmentIn counts) b before there) target
      (All-tail (λ (c : Assignment Variable). is_same c.target a.target ≡ false) b before
      apart))
      (rw (found b.target first.target, found a.target target)
      (rw (All-head (λ (c : Assignment Variable). is_same c.target a.target ≡ false) b before
      apart) refl))

  -- a transfer whose targets are apart is said without a fault
  pub transfer_read : (before rest : List (Assignment Variable)) → AreAssignmentsIn counts before
      → AreAssignmentsIn counts rest
      → All (λ (a : Assignment Variable). All
      (λ (b : Assignment Variable). is_same b.target a.target ≡ false) before) rest
      → AreTargetsApart rest
      → transfer_said find (map (assignment_with name) before) (map (assignment_with name) rest)
      ≡ Ok tt
  transfer_read before [] there_before there new apart = refl
  transfer_read before (a ∷ rest) there_before there new apart =
      let here = All-head (IsAssignmentIn counts) a rest there in
      let fresh = no_twice before a there_before here.target
      (All-head (λ (c : Assignment Variable). All
      (λ (b : Assignment Variable). is_same b.target c.target ≡ false) before) a rest new) in
      let said : assignment_said find (map (assignment_with name) before) (assignment_with name a)
      ≡ Ok tt = rw fresh (rw (sum_known a.sum here.sum)
      (rw (found a.target here.target) refl)) in
      let one : AreAssignmentsIn counts (a ∷ []) =
      All-cons (IsAssignmentIn counts) a [] here (All-nil (IsAssignmentIn counts)) in
      let later = transfer_read (before ++ a ∷ []) rest
      (All-append (IsAssignmentIn counts) before (a ∷ []) there_before one)
      (All-tail (IsAssignmentIn counts) a rest there)
      (λ k d within. All-append (λ (b : Assignment Variable). is_same b.target
      (get_or rest k d).target ≡ false) before (a ∷ []) (new (suc k) d (omega arith))
      (All-cons (λ (b : Assignment Variable). is_same b.target (get_or rest k d).target ≡ false) a
      [] (apart 0 (suc k) d (omega arith) (omega arith))
      (All-nil (λ (b : Assignment Variable). is_same b.target (get_or rest k d).target
      ≡ false))))
      (λ i j d early within. apart (suc i) (suc j) d (omega arith) (omega arith)) in
      rw said (rw map_push at later)

-- a component's variable has its own name
abbrev pub own_name : Component → Variable → VariableName
own_name k v = record { owner = None; name = own_word k v }

pub own_found : (k : Component) → AreApart k.variables → (v : Variable)
    → IsVariableIn (length k.variables ∷ []) v → own k.variables (own_name k v) ≡ Some v
own_found k apart v there =
    let first : 0 ≡ v.owner = omega (arith, there.0) in
    let within : v.number.0 < length k.variables = rw (← first) at there.1 in
    rw (position-name k.variables v.number.0 apart within)
    (ap (λ o. Some (record { owner = o; number = v.number })) first)

-- the component of the participant that owns a variable
abbrev pub owner_in : List Participant → Variable → ℕ
owner_in qs v = slice_index (components_in qs) v.owner

-- a variable of an interaction has its owner's name, and its own
abbrev pub shared_name : System → List Participant → Variable → VariableName
shared_name m qs v = record {
  owner = Some (name_in m.component_names (owner_in qs v));
  name = own_word (component_in m (owner_in qs v)) v;
}

-- a variable of an interaction is there, and is found by its name
abbrev pub IsFound : System → List Participant → Variable → Type 0
IsFound m qs v = (owner_in qs v < length m.components)
    × (v.number.0 < length (component_in m (owner_in qs v)).variables)
    × (shared m qs (shared_name m qs v) ≡ Some v)

module _ (m : System) (qs : List Participant) (rising : IsStrictlyIncreasing (components_in qs))
    (ports : All (IsPortIn m.components) qs)
    (apart : AreApart m.component_names) (named : length m.components ≤ length m.component_names)
    (each : All (λ (k : Component). AreApart k.variables) m.components) where
  -- the first participant of a component is the one that stands there
  place_there : (i : ℕ) (d : Participant) → i < length qs
      → position (λ (q : Participant). eqb q.0.0 (get_or qs i d).0.0) qs ≡ Some i
  place_there i d within =
      let at : position_or_len (λ (q : Participant). eqb q.0.0 (get_or qs i d).0.0) qs ≡ i =
      position_or_len_is (λ (q : Participant). eqb q.0.0 (get_or qs i d).0.0) qs i d
      (omega arith)
      (λ k below. ne_eqb _ _ (λ e. omega (
        arith,
        e,
        below_later (λ (q : Participant). q.0.0) qs rising k i d below within,
      )))
      (λ here. nat_eq_equiv.refl (get_or qs i d).0.0) in
      grind (arith, nat_tests)

  pub shared_there : (v : Variable) → IsVariableIn (counts_of m.components qs) v → IsFound m qs v
  shared_there v there =
      let zero_of : Participant = (record { 0 = 0 }, record { 0 = 0 }) in
      let q : Participant = get_or qs v.owner zero_of in
      let within : v.owner < length qs = rw (map-long (count_of m.components) qs) at there.0 in
      let owner : owner_in qs v ≡ q.0.0 = get_or-map
      (λ (r : Participant). r.0.0) qs v.owner zero_of 0 within in
      let port = ports v.owner zero_of within in
      let declared : slice_get m.components q.0.0 ≡ Some (component_in m q.0.0) =
      slice_get-get_or m.components q.0.0 no_component port.component in
      let count : slice_index (counts_of m.components qs) v.owner ≡ length
      (component_in m q.0.0).variables = get_or-map
      (count_of m.components) qs v.owner zero_of 0 within ∙ rw declared refl in
      let number : v.number.0 < length (component_in m q.0.0).variables = rw count at there.1 in
      let named_at = position-name m.component_names q.0.0 apart
      (omega (arith, port.component, named)) in
      let own_at = position-name (component_in m q.0.0).variables v.number.0
      (each q.0.0 no_component port.component) number in (
        rw owner port.component,
        rw owner number,
        rw owner (rw (named_at, declared) (rw (place_there v.owner zero_of within)
            (rw own_at refl))),
      )
