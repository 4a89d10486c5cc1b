-- The fault of a line that states something is the first of what can be wrong with it.
use Rattle.std.proofs.Common.{◌≡◌, ℕ, Bool, true, false, cond, not, ◌&&◌, ◌||◌, List, [], ◌∷◌, ◌++◌}
use Rattle.std.proofs.Common.{length, map, Option, None, Some, Result, Ok, Err, refl, sym, ap, ◌∙◌}
use Rattle.std.proofs.Common.{subst, arith}
use Rattle.std.specs.Prelude.{is_some, nat_le, nat_lt, position, ◌==◌}
use Rattle.std.specs.List.{AllZip, flat_map, list_any}
use Rattle.std.specs.Option.{ok_or, option_map, option_map_or, option_zip}
use Rattle.std.proofs.lemmas.List.Sorted.{length_permutation}
use Rattle.std.proofs.lemmas.Slice.Zip.{AllZip-long}
use Rattle.bip_model.proofs.NumberingLemmas.{by_number-IsPermutation}
use Rattle.bip_model.specs.Components.{is_taken, leaves, loc_line, number_in, port_line, trans_line}
use Rattle.bip_model.specs.Components.{var_line, with_transition}
use Rattle.bip_model.specs.Drafts.{begun_in, by_component, component_line, empty_draft, end_line}
use Rattle.bip_model.specs.Drafts.{interaction_line, interaction_over, participants_named}
use Rattle.bip_model.specs.Drafts.{priority_line, with_priority, with_interaction}
use Rattle.bip_model.specs.Faults.{◌>>=◌}
use Rattle.bip_model.specs.Naming.{is_known, same_text}
use Rattle.bip_model.specs.Parts.{Participant}
use Rattle.bip_model.specs.Priorities.{is_same_pair, pair, put_pair}
use Rattle.bip_model.specs.Scopes.{are_long_assignments, is_long_guard, knows_assignments}
use Rattle.bip_model.specs.Scopes.{knows_guard, own, shared, transfer_said, variable_named}
use Rattle.bip_model.specs.declared.drafts.Draft.{Draft}
use Rattle.bip_model.specs.declared.expressions.Assignment.{Assignment}
use Rattle.bip_model.specs.declared.expressions.Comparison.{Comparison}
use Rattle.bip_model.specs.declared.expressions.Variable.{Variable}
use Rattle.bip_model.specs.declared.faults.BuildFault.{BuildFault}
use Rattle.bip_model.specs.declared.faults.BuildFault.TheVariants as build
use Rattle.bip_model.specs.declared.numbering.InterId.{InterId}
use Rattle.bip_model.specs.declared.parts.Component.{Component}
use Rattle.bip_model.specs.declared.parts.System.{System}
use Rattle.bip_model.specs.declared.scopes.VariableName.{VariableName}
use Rattle.bip_reader.specs.Faults.{why_of_build}
use Rattle.bip_reader.specs.Reading.{class_line, draft_of, interaction_named, interactions_named}
use Rattle.bip_reader.specs.Reading.{reading_with, with_draft}
use Rattle.bip_reader.specs.LineFaults.{fault_if, faults_of_guard, faults_of_interaction}
use Rattle.bip_reader.specs.LineFaults.{faults_of_name, faults_of_participant, faults_of_trans}
use Rattle.bip_reader.specs.LineFaults.{faults_of_transfer, faults_of_update, from_left}
use Rattle.bip_reader.specs.LineFaults.{has_priority, has_transition, is_own_variable}
use Rattle.bip_reader.specs.LineFaults.{is_shared_variable, line_faults}
use Rattle.bip_reader.specs.Laws.{FaultsInOrder}
use Rattle.bip_model.specs.Words.{each_of}
use Rattle.bip_reader.specs.declared.faults.Why.{Why}
use Rattle.bip_reader.specs.declared.faults.Why.TheVariants.{Missing, TooMany, Twice}
use Rattle.bip_reader.specs.declared.faults.Why.TheVariants.{TwoTransitions, Unknown}
use Rattle.bip_reader.specs.declared.reading.Reading.{Reading}
use Rattle.bip_reader.specs.declared.statements.Statement.{Statement}
use Rattle.bip_reader.specs.declared.statements.Statement.TheVariants as statement
use Rattle.bip_reader.proofs.FirstFaultLemmas.{Tells, first_told, guard_told, first_is, if_missing}
use Rattle.bip_reader.proofs.FirstFaultLemmas.{made_there, number_at, number_told, or_later}
use Rattle.bip_reader.proofs.FirstFaultLemmas.{place_known, tells_both, tells_if, tells_kept}
use Rattle.bip_reader.proofs.FirstFaultLemmas.{tells_last, told_both, told_first, update_told}
use Rattle.bip_reader.proofs.LineLawLemmas.{says_its_statement}
use Rattle.bip_reader.proofs.ToldLemmas.{Stands, participants_stand, participants_tell}
use Rattle.bip_reader.proofs.ToldLemmas.{shared_there, targets_alike, transfer_tells}

-- what was said to the draft, said to the reading
drafted : (r : Reading) (first : Option Why) (res : Result Draft BuildFault)
    → Tells why_of_build first res → Tells (λ (why : Why). why) first (with_draft r res)
drafted r (Some why) res is = (why_of_build is.0, rw is.1 refl, is.2)
drafted r None res is = (record r { builder = Some is.0 }, rw is.1 refl)

-- `component NAME`, `end`, and the names inside a component
component_tells : (d : Draft) (name : List ℕ)
    → Tells why_of_build (first_told (fault_if Twice (is_known name d.system.component_names)
    ∷ fault_if TooMany (nat_le 64 (length d.system.component_names)) ∷ [])) (component_line d name)
component_tells d name =
    tells_if why_of_build Twice _ build.Twice (is_known name d.system.component_names) _ refl
    (λ new. tells_last why_of_build TooMany build.TooMany
    (nat_le 64 (length d.system.component_names)) _ refl)

end_tells : (d : Draft) → Tells why_of_build (first_told
    (fault_if Missing (length (begun_in d).locations == 0) ∷ [])) (end_line d)
end_tells d = tells_last why_of_build Missing build.Missing
    (length (begun_in d).locations == 0) _ refl

name_tells : (c d : Component) (name : List ℕ) (most count : ℕ)
    → Tells why_of_build (first_told (faults_of_name c name most count))
    (cond (is_taken name c) (Err build.Twice) (cond (nat_le most count) (Err build.TooMany) (Ok d)))
name_tells c d name most count = tells_if why_of_build Twice _ build.Twice (is_taken name c) _ refl
    (λ new. tells_last why_of_build TooMany build.TooMany (nat_le most count) d refl)

-- `trans PORT FROM TO [when GUARD] [do ASSIGNS]`
own_there : (c : Component) (v : VariableName) → is_own_variable c v ≡ is_some (own c.variables v)
own_there c v = by_owner (is_some v.owner)
  where
    by_owner : (b : Bool) → (not b && is_known v.name c.variables) ≡ is_some
        (cond b None (variable_named c.variables 0 v.name))
    by_owner true = refl
    by_owner false = place_known (same_text v.name) c.variables
        ∙ sym (made_there {B = Variable} (λ n. record { owner = 0; number = record { 0 = n } })
        (position (same_text v.name) c.variables))

module _ (c : Component) (port source target : List ℕ) (guard : List (Comparison VariableName))
    (update : List (Assignment VariableName)) where
  -- it joins those of the component
  abbrev Joined : List (Option Why)
  Joined =
      fault_if TooMany (nat_le 256 (length c.transitions) || is_long_guard guard
      || are_long_assignments update) ∷ fault_if TwoTransitions (has_transition c port source)
      ∷ []

  joined_tells : (p s t : ℕ) → position (same_text port) c.ports ≡ Some p
      → position (same_text source) c.locations ≡ Some s
      → Tells why_of_build (first_told Joined)
      (with_transition (record { 0 = p }) (record { 0 = s }) (record { 0 = t }) guard update c)
  joined_tells p s t port_at source_at =
      rw (port_at, source_at)
      (tells_if why_of_build TooMany _ build.TooMany
      (nat_le 256 (length c.transitions) || is_long_guard guard || are_long_assignments update)
      _ refl (λ room.
      tells_last why_of_build TwoTransitions build.TwoTransitions
      (list_any (leaves (record { 0 = s }) (record { 0 = p })) c.transitions) _ refl))

  trans_tells : Tells why_of_build (first_told (faults_of_trans c port source target guard update))
      (trans_line port source target guard update c)
  trans_tells =
      let find = own c.variables in
      let guards = guard_told find (is_own_variable c) (own_there c) guard in
      let updates = update_told find (is_own_variable c) (own_there c) update in
      rw (
        told_both (faults_of_guard (is_own_variable c) guard) (flat_map
            (faults_of_update (is_own_variable c)) update ++ Joined),
        told_both
            (flat_map (faults_of_update (is_own_variable c)) update) Joined,
        guards,
        updates,
      )
      (tells_both why_of_build (if_missing (is_known port c.ports)) _ (number_in c.ports port) _
      (number_told c.ports port) (λ p at_port.
      tells_both why_of_build (if_missing (is_known source c.locations)) _
      (number_in c.locations source) _ (number_told c.locations source) (λ s at_source.
      tells_both why_of_build (if_missing (is_known target c.locations)) _
      (number_in c.locations target) _ (number_told c.locations target) (λ t _.
      tells_if why_of_build Unknown _ build.Unknown (not (knows_guard find guard)) _ refl (λ known.
      tells_if why_of_build Unknown _ build.Unknown (not (knows_assignments find update)) _ refl
      (λ all.
      joined_tells p s t (number_at c.ports port p at_port)
      (number_at c.locations source s at_source)))))))

-- `interaction NAME C.p C.p .. [when GUARD] [do ASSIGNS]`
module _ (m : System) (name : List ℕ) (words : List (List ℕ × List ℕ))
    (guard : List (Comparison VariableName)) (transfer : List (Assignment VariableName)) where
  abbrev Added : List (Option Why)
  Added = fault_if TooMany (nat_le 128 (length m.interactions) || nat_lt 8 (length words)
      || is_long_guard guard || are_long_assignments transfer) ∷ []

  abbrev Assigned : List (Option Why)
  Assigned = from_left (faults_of_transfer (is_shared_variable m words)) [] transfer

  abbrev Clauses : List (Option Why)
  Clauses = faults_of_guard (is_shared_variable m words) guard ++ (Assigned ++ Added)

  sorted_count : (qs : List Participant) → AllZip (Stands m) words qs
      → length (by_component qs) ≡ length words
  sorted_count qs stand =
      let sorted = length_permutation qs (by_component qs)
      (by_number-IsPermutation (λ (q : Participant). q.0.0) qs) in
      let beside = AllZip-long (Stands m) words qs stand in
      omega (arith, sorted, beside)

  added_tells : (qs : List Participant) → Tells why_of_build
      (first_told (fault_if TooMany (nat_le 128 (length m.interactions) || nat_lt 8 (length qs)
      || is_long_guard guard || are_long_assignments transfer) ∷ []))
      (with_interaction name qs guard transfer m)
  added_tells qs = tells_last why_of_build TooMany build.TooMany
      (nat_le 128 (length m.interactions) || nat_lt 8 (length qs) || is_long_guard guard
      || are_long_assignments transfer) _ refl

  over_tells : (qs : List Participant) → AllZip (Stands m) words qs
      → Tells why_of_build (first_told Clauses)
      (interaction_over name (by_component qs) guard transfer m)
  over_tells qs stand =
      let find = shared m (by_component qs) in
      let same = shared_there m words qs stand in
      rw (
        told_both (faults_of_guard (is_shared_variable m words) guard) (Assigned ++ Added),
        told_both Assigned Added,
        guard_told find (is_shared_variable m words) same guard,
        ← sorted_count qs stand,
      )
      (tells_if why_of_build Unknown _ build.Unknown (not (knows_guard find guard)) _ refl (λ known.
      tells_both why_of_build (first_told Assigned) _ (transfer_said find [] transfer)
      (λ _. with_interaction name (by_component qs) guard transfer m)
      (transfer_tells find (is_shared_variable m words) same
      (targets_alike m (by_component qs)) transfer) (λ x _.
      added_tells (by_component qs))))

interaction_tells : (d : Draft) (name : List ℕ) (words : List (List ℕ × List ℕ))
    (guard : List (Comparison VariableName)) (transfer : List (Assignment VariableName))
    → Tells why_of_build (first_told (faults_of_interaction d.system name words guard transfer))
    (interaction_line d name words guard transfer)
interaction_tells d name words guard transfer =
    let m : System = d.system in
    let named = from_left (faults_of_participant m) [] words in
    let clauses : List (Option Why) = Clauses m name words guard transfer in
    tells_if {A = Draft} why_of_build Twice (first_told (named ++ clauses)) build.Twice
    (is_known name m.interaction_names) _ refl (λ new.
    rw (told_both named clauses)
    (tells_both why_of_build (first_told named) (first_told clauses)
    (participants_named m [] words) _ (participants_tell m words [] [] tt) (λ participants e.
    let are = participants_stand m words [] [] participants tt e in
    tells_kept why_of_build (first_told clauses)
    (interaction_over name participants guard transfer m) _
    (rw are.2 (over_tells m name words guard transfer are.0 are.1)))))

-- `priority LOW < HIGH`
priority_tells : (d : Draft) (low high : List ℕ)
    → Tells why_of_build (first_told (fault_if Unknown
    (not (is_known low d.system.interaction_names)) ∷ fault_if Unknown
    (not (is_known high d.system.interaction_names)) ∷ fault_if Twice
    (has_priority d.system low high) ∷ [])) (priority_line d low high)
priority_tells d low high =
    rw (
      place_known (same_text low) d.system.interaction_names,
      place_known (same_text high) d.system.interaction_names,
    )
    (by_places (position (same_text low) d.system.interaction_names)
    (position (same_text high) d.system.interaction_names))
  where
    by_pair : (a b : ℕ) (t : Bool) → t ≡ list_any (is_same_pair (pair a b)) d.system.priorities
        → Tells why_of_build (or_later (fault_if Twice t) None)
        (cond t (Err build.Twice) (Ok (record d.system {
          priorities = put_pair (pair a b) d.system.priorities;
        })) >>= λ m.
        Ok (record d { system = m }))
    by_pair a b true e = (build.Twice, refl, refl)
    by_pair a b false e = (
      record d {
        system = record d.system {
          priorities = put_pair (pair a b) d.system.priorities;
        };
      },
      refl,
    )

    by_places : (a b : Option ℕ)
        → Tells why_of_build (first_told (if_missing (is_some a) ∷ if_missing (is_some b)
        ∷ fault_if Twice (option_map_or (λ n. list_any
        (is_same_pair (pair n.0 n.1)) d.system.priorities) (option_zip a b) false) ∷ []))
        (ok_or a build.Unknown >>= λ i. ok_or b build.Unknown >>= λ j. with_priority
        (pair i j) d.system >>= λ m. Ok (record d { system = m }))
    by_places None b = (build.Unknown, refl, refl)
    by_places (Some a) None = (build.Unknown, refl, refl)
    by_places (Some a) (Some b) = by_pair a b
        (list_any (is_same_pair (pair a b)) d.system.priorities) refl

-- `class NAME INTER INTER ..`
abbrev missing_in : Reading → List ℕ → Option Why
missing_in r inter = fault_if Unknown (not (is_known inter (draft_of r).system.interaction_names))

names_tell : (r : Reading) (names : List (List ℕ))
    → Tells (λ (why : Why). why) (first_told (map (missing_in r) names))
    (interactions_named r names)
names_tell r [] = ([], refl)
names_tell r (name ∷ names) =
    rw (place_known (same_text name) (draft_of r).system.interaction_names)
    (by_place (position (same_text name) (draft_of r).system.interaction_names) refl
    (each_of (interaction_named (draft_of r)) names) (first_told (map (missing_in r) names))
    (names_tell r names))
  where
    by_rest : (n : ℕ) (rest : Option (List InterId)) (first : Option Why)
        → Tells (λ (why : Why). why) first (ok_or rest Unknown)
        → Tells (λ (why : Why). why) first (ok_or
        (option_map (λ (p : InterId × List InterId). p.0 ∷ p.1)
        (option_zip (Some (record { 0 = n })) rest)) Unknown)
    by_rest n None first is = is
    by_rest n (Some ns) None is = (record { 0 = n } ∷ ns, refl)
    by_rest n (Some ns) (Some why) is = let wrong = is.1 in cc

    by_place : (o : Option ℕ) → position (same_text name) (draft_of r).system.interaction_names ≡ o
        → (rest : Option (List InterId)) (first : Option Why)
        → Tells (λ (why : Why). why) first (ok_or rest Unknown)
        → Tells (λ (why : Why). why) (or_later (if_missing (is_some o)) first)
        (ok_or (option_map (λ (p : InterId × List InterId). p.0 ∷ p.1)
        (option_zip (option_map (λ n. record { 0 = n }) o) rest)) Unknown)
    by_place None e rest first is = (Unknown, refl, refl)
    by_place (Some n) e rest first is = by_rest n rest first is

class_tells : (r : Reading) (name : List ℕ) (names : List (List ℕ))
    → Tells (λ (why : Why). why) (first_told (line_faults r (statement.Class name names)))
    (class_line name names r)
unfolding class_line
class_tells r name names =
    let full : List (Option Why) = fault_if TooMany (nat_le 32 (length r.classes)) ∷ [] in
    tells_if {A = Reading} (λ (why : Why). why) Twice
    (first_told (map (missing_in r) names ++ full)) Twice
    (list_any (λ class. same_text name class.0) r.classes) _ refl (λ new.
    rw (told_both (map (missing_in r) names) full)
    (tells_both (λ (why : Why). why) (first_told (map (missing_in r) names)) (first_told full)
    (interactions_named r names) _ (names_tell r names) (λ numbers _.
    tells_last (λ (why : Why). why) TooMany TooMany (nat_le 32 (length r.classes)) _ refl)))

-- what a statement in its place says is told so
statement_tells : (s : Statement) (r : Reading)
    → Tells (λ (why : Why). why) (first_told (line_faults r s)) (reading_with s r)
statement_tells statement.Header r = (record r { builder = Some empty_draft }, refl)
statement_tells (statement.Component name) r = drafted r _ _ (component_tells (draft_of r) name)
statement_tells (statement.Var name value) r =
    let c = begun_in (draft_of r) in
    drafted r _ _ (tells_kept why_of_build _ (var_line name value c) _
    (name_tells c _ name 8 (length c.variables)))
statement_tells (statement.Loc name) r = let c = begun_in (draft_of r) in
    drafted r _ _ (tells_kept why_of_build _ (loc_line name c) _
    (name_tells c _ name 64 (length c.locations)))
statement_tells (statement.Port name) r = let c = begun_in (draft_of r) in
    drafted r _ _ (tells_kept why_of_build _ (port_line name c) _
    (name_tells c _ name 16 (length c.ports)))
statement_tells (statement.Trans port source target guard update) r =
    let c = begun_in (draft_of r) in
    drafted r _ _ (tells_kept why_of_build _ (trans_line port source target guard update c) _
    (trans_tells c port source target guard update))
statement_tells statement.End r = drafted r _ _ (end_tells (draft_of r))
statement_tells (statement.Interaction name words guard transfer) r =
    drafted r _ _ (interaction_tells (draft_of r) name words guard transfer)
statement_tells (statement.Priority low high) r =
    drafted r _ _ (priority_tells (draft_of r) low high)
statement_tells (statement.Class name names) r = class_tells r name names

-- the fault of a line that states something is the first that it can have
told_first_of : (first : Option Why) (r : Result Reading Why) (why : Why)
    → Tells (λ (w : Why). w) first r → r ≡ Err why → first ≡ Some why
told_first_of None r why is e = let wrong = sym is.1 ∙ e in cc
told_first_of (Some w) r why is e =
    let both : Err is.0 ≡ Err why = sym is.1 ∙ e in
    let same : is.0 ≡ why = cc in
    ap (λ (v : Why). Some v) (sym is.2 ∙ same)

pub faults_in_order : FaultsInOrder
faults_in_order line r s why states = (
  λ e. first_is (line_faults r s) why (told_first_of (first_told (line_faults r s))
      (reading_with s r) why (statement_tells s r) (sym (says_its_statement line r s states) ∙ e)),
  λ is.
      let told : Tells (λ (w : Why). w) (Some why) (reading_with s r) =
      subst (λ (o : Option Why). Tells (λ (w : Why). w) o (reading_with s r))
      (told_first (line_faults r s) why is) (statement_tells s r) in
      says_its_statement line r s states ∙ told.1 ∙ ap (λ (w : Why). Err w) told.2,
)
