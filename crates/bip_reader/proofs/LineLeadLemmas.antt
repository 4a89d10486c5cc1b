-- What each line of a canonical text leads to.
use Rattle.std.proofs.Common.{◌≡◌, ℕ, ◌^◌, ◌<◌, false, List, [], ◌∷◌, ◌++◌, length, map, Option}
use Rattle.std.proofs.Common.{None, Some, refl, arith}
use Rattle.std.specs.Prelude.{All, codes, nat_le}
use Rattle.std.specs.Fmt.{decimal}
use Rattle.std.specs.List.{list_any}
use Rattle.std.proofs.lemmas.Bool.Decides.{nat_tests}
use Rattle.std.proofs.lemmas.List.Elements.{All-cons, All-nil}
use Rattle.bip_model.specs.Components.{is_taken, leaves, no_component}
use Rattle.bip_model.specs.Drafts.{no_system}
use Rattle.bip_model.specs.Expressions.{IsVariableIn}
use Rattle.bip_model.specs.Naming.{AreApart, IsName, is_known, name_in}
use Rattle.bip_model.specs.Parts.{IsTransitionOf}
use Rattle.bip_model.specs.Scopes.{assignment_with, comparison_with, own}
use Rattle.bip_model.specs.declared.expressions.Assignment.{Assignment}
use Rattle.bip_model.specs.declared.expressions.Comparison.{Comparison}
use Rattle.bip_model.specs.declared.expressions.Variable.{Variable}
use Rattle.bip_model.specs.declared.parts.Component.{Component}
use Rattle.bip_model.specs.declared.parts.System.{System}
use Rattle.bip_model.specs.declared.parts.Transition.{Transition}
use Rattle.bip_model.specs.declared.scopes.VariableName.{VariableName}
use Rattle.bip_model.proofs.WrittenLemmas.{IsWord, decimal-word, name-word, position-name}
use Rattle.bip_model.proofs.WrittenLemmas.{value_said-decimal}
use Rattle.bip_reader.specs.Reading.{ClassList, empty_reading}
use Rattle.bip_reader.specs.Statements.{end_form, header_form, keyword_of, one_name, three_names}
use Rattle.bip_reader.specs.Statements.{trans_form, var_form}
use Rattle.bip_reader.specs.Writing.{IsSpelledTransition, line_of_name, line_of_transition}
use Rattle.bip_reader.specs.Writing.{line_with, own_word, words_of_assignments, words_of_ends}
use Rattle.bip_reader.specs.Writing.{words_of_guard}
use Rattle.bip_model.specs.declared.clauses.Spelling.TheVariants.{Own}
use Rattle.bip_reader.specs.declared.reading.Reading.{Reading}
use Rattle.bip_reader.specs.declared.statements.Keyword.TheVariants as keyword
use Rattle.bip_reader.specs.declared.statements.Statement.TheVariants as statement
use Rattle.bip_reader.proofs.LeadLemmas.{Leads, leads_stated}
use Rattle.bip_reader.proofs.LookUpLemmas.{assignments_back, assignments_known, assignments_short}
use Rattle.bip_reader.proofs.LookUpLemmas.{guard_back, guard_known, guard_short, own_found}
use Rattle.bip_reader.proofs.LookUpLemmas.{own_name}
use Rattle.bip_reader.proofs.ReadBackLemmas.{IsInner, clause_words, clauses_read, inner}
use Rattle.bip_reader.proofs.SpelledLemmas.{IsVariableWord, name_no_mark, name_read, own_spelled}

-- what has been read where `bip 1` has stood
abbrev pub reading_at : System → Option Component → ClassList → Reading
reading_at m begun classes = record {
  builder = Some (record { system = m; begun = begun });
  classes = classes;
}

-- `bip 1`
pub header_leads : Leads (line_with (codes "bip") (codes "1" ∷ [])) empty_reading
    (reading_at no_system None [])
unfolding keyword_of header_form
header_leads = leads_stated keyword.Bip (codes "bip")
    (codes "1" ∷ []) statement.Header empty_reading (reading_at no_system None [])
    (refl, refl) refl refl
    (All-cons IsWord (codes "1") [] (refl, refl) (All-nil IsWord)) refl refl refl

one_word : (name : List ℕ) → IsName name → All IsWord (name ∷ [])
one_word name is = All-cons IsWord name [] (name-word name is) (All-nil IsWord)

-- `component NAME`
pub begin_leads : (s : System) (name : List ℕ) → IsName name
    → is_known name s.component_names ≡ false → length s.component_names < 64
    → Leads (line_of_name (codes "component") name) (reading_at s None [])
    (reading_at (record s { component_names = s.component_names ++ name ∷ [] })
    (Some no_component) [])
unfolding keyword_of one_name
begin_leads s name is new few =
    leads_stated keyword.Component (codes "component") (name ∷ []) (statement.Component name) _ _
    (refl, refl) refl refl (one_word name is) refl (rw (name_read name is) refl)
    (rw new (grind (arith, nat_tests)))

module _ (s : System) (c : Component) where
  -- `var NAME VALUE`
  pub var_leads : (name : List ℕ) (n : ℕ) → IsName name → n < 2 ^ 32 → is_taken name c ≡ false
      → length c.variables < 8
      → Leads (line_with (codes "var") (name ∷ decimal n ∷ [])) (reading_at s (Some c) [])
      (reading_at s (Some (record c {
        variables = c.variables ++ name ∷ [];
        start = c.start ++ n ∷ [];
      })) [])
  unfolding keyword_of var_form
  var_leads name n is small new few =
      leads_stated keyword.Var (codes "var") (name ∷ decimal n ∷ []) (statement.Var name n) _ _
      (refl, refl) refl refl
      (All-cons IsWord name (decimal n ∷ []) (name-word name is)
      (All-cons IsWord (decimal n) [] (decimal-word n (omega arith)) (All-nil IsWord)))
      refl (rw (name_read name is, value_said-decimal n small) refl)
      (rw new (grind (arith, nat_tests)))

  -- `loc NAME`
  pub loc_leads : (name : List ℕ) → IsName name → is_taken name c ≡ false → length c.locations < 64
      → Leads (line_of_name (codes "loc") name) (reading_at s (Some c) [])
      (reading_at s (Some (record c { locations = c.locations ++ name ∷ [] })) [])
  unfolding keyword_of one_name
  loc_leads name is new few =
      leads_stated keyword.Loc (codes "loc") (name ∷ []) (statement.Loc name) _ _
      (refl, refl) refl refl (one_word name is) refl (rw (name_read name is) refl)
      (rw new (grind (arith, nat_tests)))

  -- `port NAME`
  pub port_leads : (name : List ℕ) → IsName name → is_taken name c ≡ false → length c.ports < 16
      → Leads (line_of_name (codes "port") name) (reading_at s (Some c) [])
      (reading_at s (Some (record c { ports = c.ports ++ name ∷ [] })) [])
  unfolding keyword_of one_name
  port_leads name is new few =
      leads_stated keyword.Port (codes "port") (name ∷ []) (statement.Port name) _ _
      (refl, refl) refl refl (one_word name is) refl (rw (name_read name is) refl)
      (rw new (grind (arith, nat_tests)))

  -- `end`
  pub end_leads : 0 < length c.locations → Leads (line_with (codes "end") [])
      (reading_at s (Some c) []) (reading_at (record s { components = s.components ++ c ∷ [] }) None
      [])
  unfolding keyword_of end_form
  end_leads some =
      leads_stated keyword.End (codes "end") [] statement.End _ _ (refl, refl) refl refl
      (All-nil IsWord) refl refl (grind (arith, nat_tests))

pub inner_name : (name : List ℕ) → IsName name → IsInner name
inner_name name is = inner name (name_no_mark name is) (name-word name is)

own_number : (k : Component) (v : Variable) → IsVariableIn (length k.variables ∷ []) v
    → v.number.0 < length k.variables
own_number k v there = let first : 0 ≡ v.owner = omega (arith, there.0) in rw (← first) at there.1

-- a transition of a component whose variables, locations and ports stand
module _ (s : System) (k : Component) (t : Transition) (before : List Transition)
    (is : IsTransitionOf k t) (spelled : IsSpelledTransition t)
    (variables : All IsName k.variables) (locations : All IsName k.locations)
    (ports : All IsName k.ports)
    (variables_apart : AreApart k.variables) (locations_apart : AreApart k.locations)
    (ports_apart : AreApart k.ports)
    (few : length before < 256) (new : list_any (leaves t.source t.port) before ≡ false) where
  port_name : IsName (name_in k.ports t.port.0)
  port_name = ports t.port.0 [] is.port

  source_name : IsName (name_in k.locations t.source.0)
  source_name = locations t.source.0 [] is.source

  target_name : IsName (name_in k.locations t.target.0)
  target_name = locations t.target.0 [] is.target

  spelled_own : (v : Variable) → IsVariableIn (length k.variables ∷ []) v
      → IsVariableWord Own (own_word k v) (own_name k v)
  spelled_own v there = own_spelled (own_word k v) (variables v.number.0 [] (own_number k v there))

  ends_inner : All IsInner (words_of_ends k t)
  ends_inner =
      All-cons IsInner (name_in k.ports t.port.0)
      (name_in k.locations t.source.0 ∷ name_in k.locations t.target.0 ∷ [])
      (inner_name _ port_name)
      (All-cons IsInner (name_in k.locations t.source.0) (name_in k.locations t.target.0 ∷ [])
      (inner_name _ source_name)
      (All-cons IsInner (name_in k.locations t.target.0) [] (inner_name _ target_name)
      (All-nil IsInner)))

  -- the component so far
  abbrev pub before_it : Component
  before_it = record k { transitions = before }

  -- `trans PORT FROM TO [when GUARD] [do ASSIGNS]`
  pub trans_leads : Leads (line_of_transition k t) (reading_at s (Some before_it) [])
      (reading_at s (Some (record k { transitions = before ++ t ∷ [] })) [])
  unfolding keyword_of trans_form three_names
  trans_leads =
      let counts : List ℕ = length k.variables ∷ [] in
      let found = own_found k variables_apart in
      let guard : List (Comparison VariableName) = map (comparison_with (own_name k)) t.guard in
      let update : List (Assignment VariableName) = map (assignment_with (own_name k)) t.update in
      let ws : List (List ℕ) = words_of_ends k t
      ++ (words_of_guard (own_word k) t.guard ++ words_of_assignments (own_word k) t.update) in
      let read = clauses_read Own counts (own_word k) (own_name k) spelled_own
      (words_of_ends k t) t.guard t.update ends_inner is.guard.there spelled.0 is.update.there
      spelled.1 in
      let all = clause_words Own counts (own_word k) (own_name k) spelled_own
      (words_of_ends k t) t.guard t.update ends_inner is.guard.there spelled.0 is.update.there
      spelled.1 in
      let three : three_names (words_of_ends k t)
      ≡ Some (
        name_in k.ports t.port.0,
        (
          name_in k.locations t.source.0,
          name_in k.locations t.target.0,
        ),
      ) =
      rw (name_read _ port_name, name_read _ source_name, name_read _ target_name) refl
      in
      let form : trans_form ws ≡ Some (statement.Trans (name_in k.ports t.port.0)
      (name_in k.locations t.source.0) (name_in k.locations t.target.0) guard update) =
      rw (read.0, read.1) (rw three refl) in
      let port_at = position-name k.ports t.port.0 ports_apart is.port in
      let source_at = position-name k.locations t.source.0 locations_apart is.source in
      let target_at = position-name k.locations t.target.0 locations_apart is.target in
      let known = guard_known counts (own k.variables) (own_name k) found t.guard is.guard.there in
      let updates = assignments_known counts (own k.variables)
      (own_name k) found t.update is.update.there in
      let short = guard_short counts (own k.variables) (own_name k) found t.guard is.guard in
      let shorts = assignments_short counts (own k.variables)
      (own_name k) found t.update is.update in
      let guard_is = guard_back counts (own k.variables)
      (own_name k) found t.guard is.guard.there in
      let update_is = assignments_back counts (own k.variables)
      (own_name k) found t.update is.update.there in
      let room : nat_le 256 (length before) ≡ false = grind (arith, nat_tests) in
      leads_stated keyword.Trans (codes "trans") ws
      (statement.Trans (name_in k.ports t.port.0) (name_in k.locations t.source.0)
      (name_in k.locations t.target.0) guard update) _ _ (refl, refl) refl refl all refl form
      (rw (port_at, source_at, target_at) (rw (known, updates)
      (rw (room, short, shorts, new) (rw (guard_is, update_is) refl))))
