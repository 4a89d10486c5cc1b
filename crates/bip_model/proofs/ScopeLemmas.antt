-- What a text says with names that are known is over the variables that are there.
use Rattle.std.proofs.Common.{◌≡◌, ℕ, ◌+◌, ◌<◌, ◌≤◌, Bool, true, false, ◌&&◌, ◌||◌, eqb, ltb, List}
use Rattle.std.proofs.Common.{[], ◌∷◌, ◌++◌, length, get_or, drop, take, Option, None, Some, Ok}
use Rattle.std.proofs.Common.{Err, refl, sym, ◌∙◌, arith, All, Result, is_some, position, slice_get}
use Rattle.std.proofs.Common.{unwrap_or}
use Rattle.std.specs.List.{list_all, list_any}
use Rattle.std.specs.Option.{option_and_then, option_map}
use Rattle.std.proofs.lemmas.Bool.{and_parts, false≢true, leb-false, ltb-false, or_parts}
use Rattle.std.proofs.lemmas.List.{get_or-map, length-map}
use Rattle.std.proofs.lemmas.List.Elements.{All-map, All-weaker}
use Rattle.std.proofs.lemmas.List.Quantifiers.{position-Some}
use Rattle.std.proofs.lemmas.Option.{slice_get-get_or}
use Rattle.std.specs.Cmp.Lexicographic as texts
use Rattle.std.proofs.lemmas.List.Sums.{AllPass-from_list_all}
use Rattle.std.proofs.Common.{cond, eqb-true}
use Rattle.std.proofs.lemmas.Bool.{false_from_ne_true}
use Rattle.std.proofs.lemmas.Grind.{common_steps}
use Rattle.std.proofs.lemmas.List.{at_drop_all, at_drop_more, take_more}
use Rattle.std.proofs.lemmas.List.Elements.{All-cons, All-nil}
use Rattle.std.proofs.lemmas.List.Folds.{list_any-append, list_any_at}
use Rattle.std.proofs.lemmas.List.Kept.{AllPairs-cons}
use Rattle.bip_model.specs.Faults.{◌>>=◌}
use Rattle.bip_model.specs.declared.faults.BuildFault.{BuildFault}
use Rattle.bip_model.specs.declared.parts.Component.{Component}
use Rattle.bip_model.specs.declared.expressions.Assignment.{Assignment}
use Rattle.bip_model.specs.declared.expressions.Comparison.{Comparison}
use Rattle.bip_model.specs.declared.expressions.Expr.{Expr}
use Rattle.bip_model.specs.declared.expressions.Sign.{Sign}
use Rattle.bip_model.specs.declared.expressions.Term.{Term}
use Rattle.bip_model.specs.declared.expressions.Term.TheVariants.{Value, Of}
use Rattle.bip_model.specs.declared.expressions.Variable.{Variable}
use Rattle.bip_model.specs.declared.parts.System.{System}
use Rattle.bip_model.specs.declared.scopes.VariableName.{VariableName}
use Rattle.bip_model.specs.Expressions.{AreAssignmentsIn, AreComparisonsIn, AreTargetsApart}
use Rattle.bip_model.specs.Expressions.{IsAssignmentIn, IsComparisonIn, IsExprIn, IsTermIn}
use Rattle.bip_model.specs.Expressions.{IsVariableIn, is_same}
use Rattle.bip_model.specs.Laws.{FindsOfParticipants, IsOfParticipant}
use Rattle.bip_model.specs.Naming.{same_text}
use Rattle.bip_model.specs.Parts.{AreAssignmentsOver, IsGuardOver, IsShortSum, Participant}
use Rattle.bip_model.specs.Parts.{count_of, counts_of}
use Rattle.bip_model.specs.Scopes.{are_long_assignments, assignment_said, transfer_said}
use Rattle.bip_model.specs.Scopes.{variable_among, assignment_with, assignments_with}
use Rattle.bip_model.specs.Scopes.{comparison_with, guard_with, is_long_guard, is_long_sum}
use Rattle.bip_model.specs.Scopes.{knows_assignments, knows_guard, knows_sum, knows_term, own}
use Rattle.bip_model.specs.Scopes.{shared, sum_with, term_with, variable_named, variable_of}

-- where each variable that is found is there
module _ (find : VariableName → Option Variable) (counts : List ℕ)
    (sound : (v : VariableName) (w : Variable) → find v ≡ Some w → IsVariableIn counts w) where
  known_in : (v : VariableName) → is_some (find v) ≡ true → IsVariableIn counts (variable_of find v)
  known_in v known = by_found (find v) refl known
    where
      by_found : (o : Option Variable) → find v ≡ o → is_some o ≡ true
          → IsVariableIn counts (unwrap_or o (record { owner = 0; number = record { 0 = 0 } }))
      by_found None is has = absurd (false≢true has)
      by_found (Some w) is has = sound v w is

  term_in : (t : Term VariableName) → knows_term find t ≡ true
      → IsTermIn counts (term_with (variable_of find) t)
  term_in (Value n) known = tt
  term_in (Of v) known = known_in v known

  sum_in : (e : Expr VariableName) → knows_sum find e ≡ true
      → IsExprIn counts (sum_with (variable_of find) e)
  sum_in e known =
      let parts = and_parts (knows_term find e.first)
      (list_all (λ (t : Sign × Term VariableName). knows_term find t.1) e.rest) known in
      record {
        first = term_in e.first parts.0;
        rest = All-map (λ (t : Sign × Term Variable). IsTermIn counts t.1)
            (λ (t : Sign × Term VariableName). (t.0, term_with (variable_of find) t.1)) e.rest
            (All-weaker _ _ (λ t. term_in t.1) e.rest
            (AllPass-from_list_all (λ (t : Sign × Term VariableName). knows_term find t.1)
            e.rest parts.1));
      }

  guard_in : (guard : List (Comparison VariableName)) → knows_guard find guard ≡ true
      → AreComparisonsIn counts (guard_with find guard)
  guard_in guard known =
      All-map (IsComparisonIn counts) (comparison_with (variable_of find)) guard
      (All-weaker _ (λ c. IsComparisonIn counts (comparison_with (variable_of find) c))
      (λ c both. let parts = and_parts (knows_sum find c.left) (knows_sum find c.right) both in
      record { left = sum_in c.left parts.0; right = sum_in c.right parts.1 }) guard
      (AllPass-from_list_all (λ (c : Comparison VariableName). knows_sum find c.left
      && knows_sum find c.right) guard known))

  assignments_in : (assignments : List (Assignment VariableName))
      → knows_assignments find assignments ≡ true
      → AreAssignmentsIn counts (assignments_with find assignments)
  assignments_in assignments known =
      All-map (IsAssignmentIn counts) (assignment_with (variable_of find)) assignments
      (All-weaker _ (λ a. IsAssignmentIn counts (assignment_with (variable_of find) a))
      (λ a both. let parts = and_parts (is_some (find a.target)) (knows_sum find a.sum) both in
      record { target = known_in a.target parts.0; sum = sum_in a.sum parts.1 }) assignments
      (AllPass-from_list_all (λ (a : Assignment VariableName). is_some (find a.target)
      && knows_sum find a.sum) assignments known))

-- where no element passes a test
none_pass : {X : Type 0} (p : X → Bool) (xs : List X) → list_any p xs ≡ false
    → All (λ x. p x ≡ false) xs
none_pass p xs none = λ k d within. false_from_ne_true (p (get_or xs k d))
    (λ passes. false≢true (sym none ∙ list_any_at p xs k d within passes))

short_sum : (f : VariableName → Variable) (e : Expr VariableName) → is_long_sum e ≡ false
    → IsShortSum (sum_with f e)
short_sum f e short = simp length-map (leb-false 16 (length e.rest) short)

-- a guard with known names that isn't too long is one over the variables
pub guard_over : (find : VariableName → Option Variable) (counts : List ℕ)
    → ((v : VariableName) (w : Variable) → find v ≡ Some w → IsVariableIn counts w)
    → (guard : List (Comparison VariableName))
    → knows_guard find guard ≡ true → is_long_guard guard ≡ false
    → IsGuardOver counts (guard_with find guard)
guard_over find counts sound guard known short =
    let parts = or_parts (ltb 16 (length guard))
    (list_any (λ (c : Comparison VariableName). is_long_sum c.left || is_long_sum c.right)
    guard) short in
    record {
      few = simp length-map (ltb-false 16 (length guard) parts.0);
      there = guard_in find counts sound guard known;
      short = All-map (λ (c : Comparison Variable). IsShortSum c.left × IsShortSum c.right)
          (comparison_with (variable_of find)) guard
          (All-weaker _ (λ c. IsShortSum (sum_with (variable_of find) c.left)
          × IsShortSum (sum_with (variable_of find) c.right))
          (λ c none. let both = or_parts (is_long_sum c.left) (is_long_sum c.right) none in (
            short_sum (variable_of find) c.left both.0,
            short_sum (variable_of find) c.right both.1,
          )) guard
          (none_pass (λ (c : Comparison VariableName). is_long_sum c.left || is_long_sum c.right)
          guard parts.1));
    }

-- so are assignments
pub assignments_over : (find : VariableName → Option Variable) (counts : List ℕ)
    → ((v : VariableName) (w : Variable) → find v ≡ Some w → IsVariableIn counts w)
    → (assignments : List (Assignment VariableName))
    → knows_assignments find assignments ≡ true → are_long_assignments assignments ≡ false
    → AreAssignmentsOver counts (assignments_with find assignments)
assignments_over find counts sound assignments known short =
    let parts = or_parts (ltb 16 (length assignments))
    (list_any (λ (a : Assignment VariableName). is_long_sum a.sum) assignments) short in
    record {
      few = simp length-map (ltb-false 16 (length assignments) parts.0);
      there = assignments_in find counts sound assignments known;
      short = All-map (λ (a : Assignment Variable). IsShortSum a.sum)
          (assignment_with (variable_of find)) assignments
          (All-weaker _ _ (λ a none. short_sum (variable_of find) a.sum none) assignments
          (none_pass (λ (a : Assignment VariableName). is_long_sum a.sum) assignments parts.1));
    }

-- what is over variables is over more of them
module _ (counts others : List ℕ) (more : (v : Variable) → IsVariableIn counts v
    → IsVariableIn others v) where
  term_more : (t : Term Variable) → IsTermIn counts t → IsTermIn others t
  term_more (Value n) there = tt
  term_more (Of v) there = more v there

  sum_more : (e : Expr Variable) → IsExprIn counts e → IsExprIn others e
  sum_more e there = record {
    first = term_more e.first there.first;
    rest = All-weaker _ _ (λ (t : Sign × Term Variable). term_more t.1) e.rest there.rest;
  }

  pub guard_more : (guard : List (Comparison Variable)) → IsGuardOver counts guard
      → IsGuardOver others guard
  guard_more guard over = record {
    few = over.few;
    there = All-weaker (IsComparisonIn counts) (IsComparisonIn others)
        (λ c there. record {
          left = sum_more c.left there.left;
          right = sum_more c.right there.right;
        }) guard over.there;
    short = over.short;
  }

  pub assignments_more : (assignments : List (Assignment Variable))
      → AreAssignmentsOver counts assignments → AreAssignmentsOver others assignments
  assignments_more assignments over = record {
    few = over.few;
    there = All-weaker (IsAssignmentIn counts) (IsAssignmentIn others)
        (λ a there. record { target = more a.target there.target; sum = sum_more a.sum there.sum })
        assignments over.there;
    short = over.short;
  }

-- a variable that is found among names is one of their owner
named_in : (names : List (List ℕ)) (owner : ℕ) (name : List ℕ) (w : Variable)
    → variable_named names owner name ≡ Some w → (w.owner ≡ owner) × (w.number.0 < length names)
named_in names owner name w is = by_place (position (same_text name) names) refl is
  where
    by_place : (o : Option ℕ) → position (same_text name) names ≡ o
        → option_map (λ n. record { owner = owner; number = record { 0 = n } }) o ≡ Some w
        → (w.owner ≡ owner) × (w.number.0 < length names)
    by_place None at found = cc
    by_place (Some n) at found =
        let within = (position-Some (same_text name) names n [] at).0 in
        let same : w ≡ record { owner = owner; number = record { 0 = n } } = cc in
        rw same (refl, within)

pub own_in : (names : List (List ℕ)) (v : VariableName) (w : Variable) → own names v ≡ Some w
    → IsVariableIn (length names ∷ []) w
own_in names v w is = by_owner (is_some v.owner) is
  where
    by_owner : (b : Bool) → cond b None (variable_named names 0 v.name) ≡ Some w
        → IsVariableIn (length names ∷ []) w
    by_owner true found = cc
    by_owner false found = let at = named_in names 0 v.name w found in rw at.0 (omega arith, at.1)

pub shared_in : (m : System) (qs : List Participant) (v : VariableName) (w : Variable)
    → shared m qs v ≡ Some w → IsVariableIn (counts_of m.components qs) w
shared_in m qs v w is = by_owner v.owner is
  where
    by_component : (c i : ℕ) (k : Option Component) → slice_get m.components c ≡ k
        → position (λ (q : Participant). eqb q.0.0 c) qs ≡ Some i
        → option_and_then (λ (component : Component). variable_named component.variables i v.name) k
        ≡ Some w → IsVariableIn (counts_of m.components qs) w
    by_component c i None at place found = cc
    by_component c i (Some k) at place found =
        let q : Participant = (record { 0 = 0 }, record { 0 = 0 }) in
        let here = position-Some (λ (r : Participant). eqb r.0.0 c) qs i q place in
        let of_owner = named_in k.variables i v.name w found in
        let count : count_of m.components (get_or qs i q) ≡ length k.variables =
        rw (eqb-true (get_or qs i q).0.0 c here.1, at) refl in
        rw of_owner.0 (
          simp length-map here.0,
          rw (get_or-map (count_of m.components) qs i q 0 here.0, count) of_owner.1,
        )

    by_place : (c : ℕ) (place : Option ℕ) → position (λ (q : Participant). eqb q.0.0 c) qs ≡ place
        → option_and_then (λ (i : ℕ). option_and_then
        (λ (component : Component). variable_named component.variables i v.name)
        (slice_get m.components c)) place ≡ Some w → IsVariableIn (counts_of m.components qs) w
    by_place c None at found = cc
    by_place c (Some i) at found = by_component c i (slice_get m.components c) refl at found

    by_name : (owner : List ℕ) (c : Option ℕ)
        → option_and_then (λ (k : ℕ). option_and_then
        (λ (i : ℕ). option_and_then (λ (component : Component). variable_named
        component.variables i v.name) (slice_get m.components k))
        (position (λ (q : Participant). eqb q.0.0 k) qs)) c ≡ Some w
        → IsVariableIn (counts_of m.components qs) w
    by_name owner None found = cc
    by_name owner (Some c) found = by_place c
        (position (λ (q : Participant). eqb q.0.0 c) qs) refl found

    by_owner : (owner : Option (List ℕ)) → option_and_then
        (λ (o : List ℕ). variable_among m qs o v.name) owner ≡ Some w
        → IsVariableIn (counts_of m.components qs) w
    by_owner None found = cc
    by_owner (Some owner) found = by_name owner (position (same_text owner) m.component_names) found

-- a name's place is where it stands
named_at : (names : List (List ℕ)) (name : List ℕ) (n : ℕ)
    → position (same_text name) names ≡ Some n → slice_get names n ≡ Some name
named_at names name n at =
    let here = position-Some (same_text name) names n [] at in
    rw (slice_get-get_or names n [] here.0, ← texts.same_text name (get_or names n []) (sym here.1))
    refl

pub finds_of_participants : FindsOfParticipants
finds_of_participants m qs name v is = by_owner name.owner refl is
  where
    by_variable : (owner : List ℕ) (c i n : ℕ) (k : Component) → name.owner ≡ Some owner
        → position (same_text owner) m.component_names ≡ Some c → slice_get m.components c ≡ Some k
        → position (λ (q : Participant). eqb q.0.0 c) qs ≡ Some i
        → position (same_text name.name) k.variables ≡ Some n
        → v ≡ record { owner = i; number = record { 0 = n } } → IsOfParticipant m qs name v
    by_variable owner c i n k owns named at place own same =
        let q : Participant = get_or qs i (record { 0 = 0 }, record { 0 = 0 }) in
        let here = position-Some (λ (r : Participant). eqb r.0.0 c) qs i
        (record { 0 = 0 }, record { 0 = 0 }) place in
        let its : q.0.0 ≡ c = eqb-true q.0.0 c here.1 in
        rw same (record {
          participant = q;
          component = k;
          place = slice_get-get_or qs i (record { 0 = 0 }, record { 0 = 0 }) here.0;
          declared = rw its at;
          owner = rw (its, owns, named_at m.component_names owner c named) refl;
          own = named_at k.variables name.name n own;
        })

    by_component : (owner : List ℕ) (c i : ℕ) (k : Component) → name.owner ≡ Some owner
        → position (same_text owner) m.component_names ≡ Some c → slice_get m.components c ≡ Some k
        → position (λ (q : Participant). eqb q.0.0 c) qs ≡ Some i
        → (n : Option ℕ) → position (same_text name.name) k.variables ≡ n
        → option_map (λ n. record { owner = i; number = record { 0 = n } }) n ≡ Some v
        → IsOfParticipant m qs name v
    by_component owner c i k owns named at place None own found = cc
    by_component owner c i k owns named at place (Some n) own found =
        by_variable owner c i n k owns named at place own cc

    by_place : (owner : List ℕ) (c i : ℕ) (k : Option Component) → name.owner ≡ Some owner
        → position (same_text owner) m.component_names ≡ Some c → slice_get m.components c ≡ k
        → position (λ (q : Participant). eqb q.0.0 c) qs ≡ Some i
        → option_and_then (λ (component : Component). variable_named component.variables i
        name.name) k ≡ Some v → IsOfParticipant m qs name v
    by_place owner c i None owns named at place found = cc
    by_place owner c i (Some k) owns named at place found =
        by_component owner c i k owns named at place
        (position (same_text name.name) k.variables) refl found

    by_name : (owner : List ℕ) (c : ℕ) (i : Option ℕ) → name.owner ≡ Some owner
        → position (same_text owner) m.component_names ≡ Some c
        → position (λ (q : Participant). eqb q.0.0 c) qs ≡ i
        → option_and_then (λ (i : ℕ). option_and_then
        (λ (component : Component). variable_named component.variables i name.name)
        (slice_get m.components c)) i ≡ Some v → IsOfParticipant m qs name v
    by_name owner c None owns named place found = cc
    by_name owner c (Some i) owns named place found =
        by_place owner c i (slice_get m.components c) owns named refl place found

    by_number : (owner : List ℕ) (c : Option ℕ) → name.owner ≡ Some owner
        → position (same_text owner) m.component_names ≡ c
        → option_and_then (λ (k : ℕ). option_and_then
        (λ (i : ℕ). option_and_then (λ (component : Component). variable_named
        component.variables i name.name) (slice_get m.components k))
        (position (λ (q : Participant). eqb q.0.0 k) qs)) c ≡ Some v
        → IsOfParticipant m qs name v
    by_number owner None owns named found = cc
    by_number owner (Some c) owns named found =
        by_name owner c (position (λ (q : Participant). eqb q.0.0 c) qs) owns named refl found

    by_owner : (owner : Option (List ℕ)) → name.owner ≡ owner
        → option_and_then (λ (o : List ℕ). variable_among m qs o name.name) owner ≡ Some v
        → IsOfParticipant m qs name v
    by_owner None owns found = cc
    by_owner (Some owner) owns found = by_number owner
        (position (same_text owner) m.component_names) owns refl found

-- the targets of two assignments
abbrev target_of : (VariableName → Option Variable) → Assignment VariableName → Variable
target_of find a = variable_of find a.target

-- whether an assignment's target is that of one before
abbrev is_twice : (VariableName → Option Variable) → List (Assignment VariableName)
    → Assignment VariableName → Bool
is_twice find before a = list_any (λ (b : Assignment VariableName). is_same (target_of find b)
    (target_of find a)) before

-- what is said of a transfer without a fault
record IsSaid (find : VariableName → Option Variable)
    (before rest : List (Assignment VariableName)) : Type 0 where
  known : knows_assignments find rest ≡ true
  new : All (λ a. is_twice find before a ≡ false) rest
  apart : AreTargetsApart (assignments_with find rest)

assignment_ok : (find : VariableName → Option Variable) (before : List (Assignment VariableName))
    (a : Assignment VariableName) → assignment_said find before a ≡ Ok tt
    → (is_some (find a.target) ≡ true) × (is_twice find before a ≡ false)
    × (knows_sum find a.sum ≡ true)
assignment_ok find before a is = grind (arith, common_steps)

transfer_ok : (find : VariableName → Option Variable) (before rest : List (Assignment VariableName))
    → transfer_said find before rest ≡ Ok tt → IsSaid find before rest
transfer_ok find before [] is = record {
  known = refl;
  new = All-nil _;
  apart = λ i j d early within. absurd (omega arith);
}
transfer_ok find before (a ∷ rest) is = by_first (assignment_said find before a) refl
    (transfer_ok find (before ++ a ∷ []) rest) is
  where
    parted : (b : Assignment VariableName) → is_twice find (before ++ a ∷ []) b ≡ false
        → (is_twice find before b ≡ false) × (is_same (target_of find a) (target_of find b) ≡ false)
    parted b none =
        let p : Assignment VariableName → Bool =
        λ x. is_same (target_of find x) (target_of find b) in
        let both = or_parts (list_any p before) (list_any p (a ∷ []))
        (sym (list_any-append p before (a ∷ [])) ∙ none) in
        (both.0, (or_parts (p a) false both.1).0)

    by_first : (r : Result (Unit {0}) BuildFault) → assignment_said find before a ≡ r
        → (transfer_said find (before ++ a ∷ []) rest ≡ Ok tt → IsSaid find (before ++ a ∷ []) rest)
        → (r >>= λ _. transfer_said find (before ++ a ∷ []) rest) ≡ Ok tt
        → IsSaid find before (a ∷ rest)
    by_first (Err e) first later said = cc
    by_first (Ok u) first later said =
        let here = assignment_ok find before a first in
        let more = later said in
        record {
          known = rw (here.0, here.2, more.known) refl;
          new = All-cons (λ b. is_twice find before b ≡ false) a rest here.1
              (All-weaker (λ b. is_twice find (before ++ a ∷ []) b ≡ false) _
              (λ b none. (parted b none).0) rest more.new);
          apart = AllPairs-cons (λ (b c : Assignment Variable). is_same b.target c.target ≡ false)
              (assignment_with (variable_of find) a) (assignments_with find rest)
              (All-map (λ (b : Assignment Variable). is_same (target_of find a) b.target ≡ false)
              (assignment_with (variable_of find)) rest
              (All-weaker (λ b. is_twice find (before ++ a ∷ []) b ≡ false) _
              (λ b none. (parted b none).1) rest more.new)) more.apart;
        }

-- a transfer without a fault is one over the variables, with targets apart
pub transfer_over : (find : VariableName → Option Variable) (counts : List ℕ)
    → ((v : VariableName) (w : Variable) → find v ≡ Some w → IsVariableIn counts w)
    → (assignments : List (Assignment VariableName))
    → transfer_said find [] assignments ≡ Ok tt → are_long_assignments assignments ≡ false
    → AreAssignmentsOver counts (assignments_with find assignments)
    × AreTargetsApart (assignments_with find assignments)
transfer_over find counts sound assignments said short =
    let is = transfer_ok find [] assignments said in
    (assignments_over find counts sound assignments is.known short, is.apart)

-- one more assignment of a transfer, and no more of them
pub transfer_more : (find : VariableName → Option Variable)
    (assignments : List (Assignment VariableName)) (i : ℕ) (d : Assignment VariableName)
    → i < length assignments
    → transfer_said find (take i assignments) (drop i assignments)
    ≡ (assignment_said find (take i assignments)
    (get_or assignments i d) >>= λ _. transfer_said find (take (i + 1) assignments)
    (drop (i + 1) assignments))
transfer_more find assignments i d within =
    at_drop_more (transfer_said find (take i assignments)) assignments i d within
    ∙ rw (take_more assignments i d within) refl

pub transfer_end : (find : VariableName → Option Variable)
    (assignments : List (Assignment VariableName)) (i : ℕ) → length assignments ≤ i
    → transfer_said find (take i assignments) (drop i assignments) ≡ Ok tt
transfer_end find assignments i past = at_drop_all
    (transfer_said find (take i assignments)) assignments i past
