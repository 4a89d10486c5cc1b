-- Each line leads from a draft that lines lead to, to another one.
use Rattle.std.proofs.Common.{◌≡◌, ℕ, ◌+◌, ◌<◌, ◌≤◌, false, ◌||◌, eqb, leb, ltb, List, [], ◌∷◌}
use Rattle.std.proofs.Common.{◌++◌, length, get_or, Option, None, Some, Ok, Err, refl, sym, ◌∙◌}
use Rattle.std.proofs.Common.{arith, unwrap_or, IfOk, IsNone, IsSome, OnErr, Result, slice_get}
use Rattle.bip_model.specs.Faults.{◌>>=◌, Answers, new_or_fault}
use Rattle.std.specs.List.{list_any}
use Rattle.std.proofs.lemmas.Bool.Decides.{nat_tests}
use Rattle.std.proofs.lemmas.Result.{IfOk-at_ok}
use Rattle.std.proofs.lemmas.Grind.{common_steps}
use Rattle.std.proofs.lemmas.Option.{gets}
use Rattle.std.proofs.lemmas.Bool.{false_from_ne_true, false≢true, leb-false, ltb-false}
use Rattle.std.proofs.lemmas.List.{length_push, append_assoc}
use Rattle.std.proofs.lemmas.List.Elements.{All-push, All-weaker, All-nil}
use Rattle.std.proofs.lemmas.List.Folds.{list_any-append, list_any_at}
use Rattle.std.proofs.lemmas.List.Quantifiers.{all_pairs_push}
use Rattle.std.proofs.Common.{ap, true, zero, suc, All}
use Rattle.std.proofs.lemmas.List.Elements.{All-head, All-tail}
use Rattle.bip_model.specs.Components.{is_taken, leaves, loc_line, no_component, number_in}
use Rattle.bip_model.specs.Components.{port_line, trans_line, var_line, with_transition}
use Rattle.bip_model.specs.Drafts.{IsDraft, begun_in, component_line, end_line, inside}
use Rattle.bip_model.specs.Drafts.{interaction_line, interaction_of, interaction_over}
use Rattle.bip_model.specs.Drafts.{participants_named, priority_line, with_interaction}
use Rattle.bip_model.specs.Drafts.{with_priority}
use Rattle.bip_model.specs.Priorities.{IsPairOf, is_same_pair, pair, put_pair}
use Rattle.bip_model.specs.declared.parts.Pair.{Pair}
use Rattle.bip_model.proofs.PriorityLemmas.{put_all, put_in_order}
use Rattle.bip_model.specs.Expressions.{IsVariableIn}
use Rattle.bip_model.specs.Scopes.{are_long_assignments, assignments_with, guard_with}
use Rattle.bip_model.specs.Scopes.{is_long_guard, knows_assignments, knows_guard, own, shared}
use Rattle.bip_model.specs.Scopes.{transfer_said}
use Rattle.bip_model.proofs.ScopeLemmas.{assignments_more, assignments_over, guard_more, guard_over}
use Rattle.bip_model.proofs.ScopeLemmas.{own_in, shared_in, transfer_over}
use Rattle.bip_model.specs.Naming.{AreApart, is_known, same_text}
use Rattle.bip_model.specs.Parts.{IsComponent, IsComponentSoFar, IsInteraction, IsPortIn}
use Rattle.bip_model.specs.Parts.{IsTransitionOf, Participant, counts_of, same_start}
use Rattle.bip_model.specs.declared.drafts.Draft.{Draft}
use Rattle.bip_model.specs.declared.expressions.Assignment.{Assignment}
use Rattle.bip_model.specs.declared.expressions.Comparison.{Comparison}
use Rattle.bip_model.specs.declared.expressions.Variable.{Variable}
use Rattle.bip_model.specs.declared.numbering.LocId.{LocId}
use Rattle.bip_model.specs.declared.numbering.PortId.{PortId}
use Rattle.bip_model.specs.declared.scopes.VariableName.{VariableName}
use Rattle.bip_model.specs.declared.faults.BuildFault.{BuildFault}
use Rattle.bip_model.specs.declared.faults.BuildFault.TheVariants.{Unknown, Twice, TooMany, Missing}
use Rattle.bip_model.specs.declared.faults.BuildFault.TheVariants.{TwoTransitions, Memory}
use Rattle.bip_model.specs.declared.parts.Component.{Component}
use Rattle.bip_model.specs.declared.parts.Interaction.{Interaction}
use Rattle.bip_model.specs.declared.parts.System.{System}
use Rattle.bip_model.specs.declared.parts.Transition.{Transition}
use Rattle.bip_model.proofs.ListLemmas.{neither}
use Rattle.bip_model.proofs.NameLemmas.{apart_between, apart_push}
use Rattle.bip_model.proofs.ParticipantLemmas.{allowed, bound, guarded, named_valid}
use Rattle.bip_model.proofs.ParticipantLemmas.{number_in-below}

-- what holds before a call, and after what its line says, holds after it
pub answers_keeps : {X : Type 0} (P : X → Type 0) (said : Result X BuildFault) (old : X)
    (result : Result (Unit {0}) BuildFault) (new : X)
    → Answers Memory said (new_or_fault result new)
    → OnErr result (new ≡ old) → P old → ((d : X) → said ≡ Ok d → P d) → P new
answers_keeps P (Ok d) old (Ok u) new answers kept before after' = rw answers (after' d refl)
answers_keeps P (Ok d) old (Err e) new answers kept before after' = rw kept before
answers_keeps P (Err f) old (Ok u) new answers kept before after' = absurd answers
answers_keeps P (Err f) old (Err e) new answers kept before after' = rw kept before

empty_valid : IsComponentSoFar no_component
empty_valid = record {
  few_variables = omega arith;
  started = refl;
  few_locations = omega arith;
  few_ports = omega arith;
  few_transitions = omega arith;
  apart = tt;
  transitions =
      All-nil (IsTransitionOf no_component);
  one_each = λ i j d before within. absurd (omega arith);
}

-- what is begun is none or some
pub begun_none : (begun : Option Component) → IsNone begun → begun ≡ None
begun_none None outside = refl
begun_none (Some c) outside = cc

begun_some : (begun : Option Component) → IsSome begun → begun ≡ Some (unwrap_or begun no_component)
begun_some None inside' = cc
begun_some (Some c) inside' = refl

pub component_keeps : (d e : Draft) (name : List ℕ) → IsDraft d → IsNone d.begun
    → component_line d name ≡ Ok e → IsDraft e
component_keeps d e name valid outside is = IfOk-at_ok IsDraft is
    (guarded IsDraft (is_known name d.system.component_names) Twice _ (λ new.
    guarded IsDraft (leb 64 (length d.system.component_names)) TooMany _ (λ room.
    let fits = leb-false 64 (length d.system.component_names) room in
    let longer = length_push d.system.component_names name in
    let named : length d.system.component_names ≡ length d.system.components + 0 =
    rw (begun_none d.begun outside) at valid.named in
    let few : length (d.system.component_names ++ name ∷ []) ≤ 64 = omega arith in
    let enough : length d.system.components ≤ length (d.system.component_names ++ name ∷ []) =
    omega arith in
    let named' : length (d.system.component_names ++ name ∷ []) ≡ length d.system.components + 1 =
    omega arith in
    assumption (
      apart_push name d.system.component_names new valid.so_far.components_apart,
      empty_valid,
    ))))

-- a draft whose begun component is another one
pub begun_keeps : (d : Draft) (c new : Component) → IsDraft d → d.begun ≡ Some c
    → (IsComponentSoFar c → IsComponentSoFar new) → IsDraft (record d { begun = Some new })
begun_keeps d c new valid is keeps =
    record {
      so_far = valid.so_far;
      begun_so_far = keeps (rw is at valid.begun_so_far);
      named = rw is at valid.named;
    }

-- what a line inside a component says keeps the draft as it keeps the component
pub inside_keeps : (f : Component → Result Component BuildFault) (d e : Draft) → IsDraft d
    → IsSome d.begun → ((c c' : Component) → IsComponentSoFar c → f c ≡ Ok c' → IsComponentSoFar c')
    → inside f d ≡ Ok e → IsDraft e
inside_keeps f d e valid begun keeps is = IfOk-at_ok IsDraft is
    (bound IsDraft (f (begun_in d)) _ (λ c said.
    begun_keeps d (begun_in d) c valid (begun_some d.begun begun)
    (λ old. keeps (begun_in d) c old said)))

-- a builder's draft after the component that is begun answered
pub inside_ends : (f : Component → Result Component BuildFault)
    → ((c c' : Component) → IsComponentSoFar c → f c ≡ Ok c' → IsComponentSoFar c')
    → (d : Draft) (c new : Component) (result : Result (Unit {0}) BuildFault)
    → IsDraft d → d.begun ≡ Some c → Answers Memory (f c) (new_or_fault result new)
    → OnErr result (new ≡ c) → IsDraft (record d { begun = Some new })
inside_ends f keeps d c new result valid is said kept =
    begun_keeps d c new valid is (λ old. answers_keeps IsComponentSoFar
    (f c) c result new said kept old (λ e. keeps c e old))

-- a component with more names
module _ (c : Component) (valid : IsComponentSoFar c) (variables locations ports : List (List ℕ))
    (start : List ℕ)
    (more_variables : length c.variables ≤ length variables)
    (more_locations : length c.locations ≤ length locations)
    (more_ports : length c.ports ≤ length ports) where
  abbrev more : Component
  more = record c { variables = variables; start = start; locations = locations; ports = ports }

  more_there : (v : Variable) → IsVariableIn (length c.variables ∷ []) v
      → IsVariableIn (length variables ∷ []) v
  more_there v there = one_owner v.owner v.number.0 there
    where
      one_owner : (owner number : ℕ) → (owner < 1)
          × (number < get_or (length c.variables ∷ []) owner 0) → (owner < 1)
          × (number < get_or (length variables ∷ []) owner 0)
      one_owner zero number there = (there.0, omega (arith, there.1))
      one_owner (suc n) number there = absurd (omega (arith, there.0))

  more_names : (t : Transition) → IsTransitionOf c t → IsTransitionOf more t
  more_names t of_it = record {
    port = omega (arith, of_it.port);
    source = omega (arith, of_it.source);
    target = omega (arith, of_it.target);
    guard = guard_more (length c.variables ∷ [])
        (length variables ∷ []) more_there t.guard of_it.guard;
    update = assignments_more (length c.variables ∷ [])
        (length variables ∷ []) more_there t.update of_it.update;
  }

  names_keep : length variables ≤ 8 → length start ≡ length variables → length locations ≤ 64
      → length ports ≤ 16 → AreApart (variables ++ locations ++ ports) → IsComponentSoFar more
  names_keep few_variables started few_locations few_ports apart =
      assumption (All-weaker (IsTransitionOf c)
      (IsTransitionOf more) more_names c.transitions valid.transitions)

-- a name that isn't taken
free : (name : List ℕ) (c : Component) → is_taken name c ≡ false
    → is_known name (c.variables ++ c.locations ++ c.ports) ≡ false
free name c new =
    list_any-append (same_text name) (c.variables ++ c.locations) c.ports
    ∙ rw (list_any-append (same_text name) c.variables c.locations) new

pub var_keeps : (name : List ℕ) (value : ℕ) (c c' : Component) → IsComponentSoFar c
    → var_line name value c ≡ Ok c' → IsComponentSoFar c'
var_keeps name value c c' valid is = IfOk-at_ok IsComponentSoFar is
    (guarded IsComponentSoFar (is_taken name c) Twice _ (λ new.
    guarded IsComponentSoFar (leb 8 (length c.variables)) TooMany _ (λ room.
    let longer = length_push c.variables name in
    names_keep c valid (c.variables ++ name ∷ []) c.locations c.ports (c.start ++ value ∷ [])
    (omega arith) (omega arith) (omega arith)
    (omega (arith, leb-false 8 (length c.variables) room))
    (omega (arith, length_push c.start value, valid.started)) valid.few_locations
    valid.few_ports
    (rw (append_assoc (c.variables ++ name ∷ []) c.locations c.ports)
    (apart_between name c.variables (c.locations ++ c.ports)
    (rw append_assoc at (free name c new)) (rw append_assoc at valid.apart))))))

pub loc_keeps : (name : List ℕ) (c c' : Component) → IsComponentSoFar c → loc_line name c ≡ Ok c'
    → IsComponentSoFar c'
loc_keeps name c c' valid is = IfOk-at_ok IsComponentSoFar is
    (guarded IsComponentSoFar (is_taken name c) Twice _ (λ new.
    guarded IsComponentSoFar (leb 64 (length c.locations)) TooMany _ (λ room.
    let longer = length_push c.locations name in
    names_keep c valid c.variables (c.locations ++ name ∷ []) c.ports c.start (omega arith)
    (omega arith) (omega arith)
    valid.few_variables valid.started (omega (arith, leb-false 64 (length c.locations) room))
    valid.few_ports
    (rw (← append_assoc c.variables c.locations (name ∷ []))
    (apart_between name (c.variables ++ c.locations) c.ports (free name c new) valid.apart)))))

pub port_keeps : (name : List ℕ) (c c' : Component) → IsComponentSoFar c → port_line name c ≡ Ok c'
    → IsComponentSoFar c'
port_keeps name c c' valid is = IfOk-at_ok IsComponentSoFar is
    (guarded IsComponentSoFar (is_taken name c) Twice _ (λ new.
    guarded IsComponentSoFar (leb 16 (length c.ports)) TooMany _ (λ room.
    let longer = length_push c.ports name in
    names_keep c valid c.variables c.locations (c.ports ++ name ∷ []) c.start (omega arith)
    (omega arith) (omega arith)
    valid.few_variables valid.started valid.few_locations
    (omega (arith, leb-false 16 (length c.ports) room))
    (rw append_assoc at (apart_push name (c.variables ++ c.locations ++ c.ports)
    (free name c new) valid.apart)))))

transition_keeps : (port : PortId) (source target : LocId) (guard : List (Comparison VariableName))
    (update : List (Assignment VariableName)) (c : Component) → IsComponentSoFar c
    → port.0 < length c.ports → source.0 < length c.locations → target.0 < length c.locations
    → knows_guard (own c.variables) guard ≡ true
    → knows_assignments (own c.variables) update ≡ true
    → IfOk (with_transition port source target guard update c) IsComponentSoFar
transition_keeps port source target guard update c valid of_port of_source of_target known
    known_update =
    guarded IsComponentSoFar (leb 256 (length c.transitions) || is_long_guard guard
    || are_long_assignments update) TooMany _ (λ fits.
    guarded IsComponentSoFar (list_any (leaves source port) c.transitions) TwoTransitions _ (λ new.
    let long = neither (leb 256 (length c.transitions) || is_long_guard guard)
    (are_long_assignments update) fits in
    let room = neither (leb 256 (length c.transitions)) (is_long_guard guard) long.0 in
    let counts : List ℕ = length c.variables ∷ [] in
    let t : Transition = record {
      port = port;
      source = source;
      target = target;
      guard = guard_with (own c.variables) guard;
      update =
          assignments_with (own c.variables) update;
    } in
    let joins : IsTransitionOf c t = record {
      port = of_port;
      source = of_source;
      target = of_target;
      guard = guard_over (own c.variables) counts (own_in c.variables) guard known room.1;
      update = assignments_over (own c.variables) counts
          (own_in c.variables) update known_update long.1;
    } in
    let longer = length_push c.transitions t in
    let few : length (c.transitions ++ t ∷ []) ≤ 256 =
    omega (arith, leb-false 256 (length c.transitions) room.0) in
    let made : Component = record c { transitions = c.transitions ++ t ∷ [] } in
    let apart : (k : ℕ) (d : Transition) → k < length c.transitions
    → same_start (get_or c.transitions k d) t ≡ false =
    λ k d within. false_from_ne_true (same_start (get_or c.transitions k d) t) (λ same.
    false≢true (sym new ∙ list_any_at (λ u. same_start u t) c.transitions k d within same)) in
    record {
      few_variables = valid.few_variables;
      started = valid.started;
      few_locations = valid.few_locations;
      few_ports = valid.few_ports;
      apart = valid.apart;
      few_transitions = few;
      transitions = All-push (IsTransitionOf made) c.transitions t
          (All-weaker (IsTransitionOf c) (IsTransitionOf made)
          (λ u ok. record {
            port = ok.port;
            source = ok.source;
            target = ok.target;
            guard = ok.guard;
            update = ok.update;
          }) c.transitions valid.transitions)
          (record {
            port = joins.port;
            source = joins.source;
            target = joins.target;
            guard = joins.guard;
            update = joins.update;
          });
      one_each = all_pairs_push (λ u v. same_start u v ≡ false) c.transitions t valid.one_each
          apart;
    }))

pub trans_keeps : (port source target : List ℕ) (guard : List (Comparison VariableName))
    (update : List (Assignment VariableName)) (c c' : Component) → IsComponentSoFar c
    → trans_line port source target guard update c ≡ Ok c' → IsComponentSoFar c'
trans_keeps port source target guard update c c' valid is = IfOk-at_ok IsComponentSoFar is
    (bound IsComponentSoFar (number_in c.ports port) _ (λ p is_p.
    bound IsComponentSoFar (number_in c.locations source) _ (λ s is_s.
    bound IsComponentSoFar (number_in c.locations target) _ (λ t is_t.
    allowed IsComponentSoFar (knows_guard (own c.variables) guard) Unknown _ (λ known.
    allowed IsComponentSoFar (knows_assignments (own c.variables) update) Unknown _ (λ known_update.
    transition_keeps (record { 0 = p }) (record { 0 = s }) (record { 0 = t }) guard update c valid
    (number_in-below c.ports port p is_p) (number_in-below c.locations source s is_s)
    (number_in-below c.locations target t is_t) known known_update))))))

-- what stands at a place stands there with more behind
slice_get-more : {X : Type 0} (xs ys : List X) (k : ℕ) → k < length xs
    → slice_get (xs ++ ys) k ≡ slice_get xs k
slice_get-more xs ys k within = grind (arith, common_steps, gets)

port_stays : (components : List Component) (c : Component) (q : Participant) → IsPortIn components q
    → IsPortIn (components ++ c ∷ []) q
port_stays components c q valid =
    record {
      component = omega (arith, length_push components c);
      port = rw (slice_get-more components (c ∷ []) q.0.0 valid.component) valid.port;
    }

-- the participants of components that are there have as many variables with more components behind
counts_stay : (components : List Component) (c : Component) (qs : List Participant)
    → All (IsPortIn components) qs → counts_of (components ++ c ∷ []) qs ≡ counts_of components qs
counts_stay components c [] valid = refl
counts_stay components c (q ∷ qs) valid =
    let here : IsPortIn components q = All-head (IsPortIn components) q qs valid in
    rw (
      slice_get-more components (c ∷ []) q.0.0 here.component,
      counts_stay components c qs (All-tail (IsPortIn components) q qs valid),
    ) refl

interaction_stays : (components : List Component) (c : Component) (i : Interaction)
    → IsInteraction components i → IsInteraction (components ++ c ∷ []) i
interaction_stays components c i valid =
    let same = counts_stay components c i.participants valid.ports in
    record {
      some = valid.some;
      few = valid.few;
      rising = valid.rising;
      ports = All-weaker (IsPortIn components) _
          (port_stays components c) i.participants valid.ports;
      guard = rw same valid.guard;
      transfer = rw same valid.transfer;
      apart = valid.apart;
    }

pub end_keeps : (d e : Draft) → IsDraft d → IsSome d.begun → end_line d ≡ Ok e → IsDraft e
end_keeps d e valid begun is = IfOk-at_ok IsDraft is
    (guarded IsDraft (eqb (length (begun_in d).locations) 0) Missing _ (λ some.
    let c : Component = begun_in d in
    let components = d.system.components in
    let longer = length_push components c in
    let named : length d.system.component_names ≡ length components + 1 =
    rw (begun_some d.begun begun) at valid.named in
    let whole : IsComponent c = record {
      so_far = rw (begun_some d.begun
          begun) at valid.begun_so_far;
      located = grind (arith, nat_tests);
    } in
    let enough : length (components ++ c ∷ []) ≤ length d.system.component_names = omega arith in
    let named' : length d.system.component_names ≡ length (components ++ c ∷ []) + 0 =
    omega arith in
    assumption (
      All-push IsComponent components c valid.so_far.components whole,
      All-weaker (IsInteraction components) _
          (interaction_stays components c) d.system.interactions valid.so_far.interactions,
    )))

with_interaction_keeps : (d : Draft) (name : List ℕ) (words : List (List ℕ × List ℕ))
    (qs : List Participant) (guard : List (Comparison VariableName))
    (transfer : List (Assignment VariableName)) → IsDraft d → 0 < length words
    → is_known name d.system.interaction_names ≡ false
    → participants_named d.system [] words ≡ Ok qs
    → knows_guard (shared d.system qs) guard ≡ true
    → transfer_said (shared d.system qs) [] transfer ≡ Ok tt
    → IfOk (with_interaction name qs guard transfer d.system)
    (λ s. IsDraft (record d { system = s }))
with_interaction_keeps d name words qs guard transfer valid some new is_qs known said =
    guarded (λ s. IsDraft (record d { system = s }))
    (leb 128 (length d.system.interactions) || ltb 8 (length qs) || is_long_guard guard
    || are_long_assignments transfer) TooMany _ (λ fits.
    let long = neither (leb 128 (length d.system.interactions) || ltb 8 (length qs)
    || is_long_guard guard) (are_long_assignments transfer) fits in
    let more = neither (leb 128 (length d.system.interactions) || ltb 8 (length qs))
    (is_long_guard guard) long.0 in
    let room = neither (leb 128 (length d.system.interactions)) (ltb 8 (length qs)) more.0 in
    let found = named_valid d.system words qs is_qs in
    let i : Interaction = interaction_of d.system qs guard transfer in
    let over = transfer_over (shared d.system qs) (counts_of d.system.components qs)
    (shared_in d.system qs) transfer said long.1 in
    let whole : IsInteraction d.system.components i = record {
      some = omega arith;
      few = ltb-false 8 (length qs) room.1;
      rising = found.1;
      ports = found.2;
      guard = guard_over (shared d.system qs) (counts_of d.system.components qs)
          (shared_in d.system qs) guard known more.1;
      transfer = over.0;
      apart = over.1;
    } in
    let names = length_push d.system.interaction_names name in
    let interactions = length_push d.system.interactions i in
    let few : length (d.system.interactions ++ i ∷ []) ≤ 128 =
    omega (arith, leb-false 128 (length d.system.interactions) room.0) in
    let named : length (d.system.interaction_names ++ name ∷ []) ≡ length
    (d.system.interactions ++ i ∷ []) = omega arith in
    assumption (
      apart_push name d.system.interaction_names new valid.so_far.interactions_apart,
      All-push (IsInteraction d.system.components) d.system.interactions i valid.so_far.interactions
          whole,
      All-weaker (IsPairOf (length d.system.interactions))
          (IsPairOf (length (d.system.interactions ++ i ∷ [])))
          (λ p of. record { low = omega (arith, of.low); high = omega (arith, of.high) })
          d.system.priorities valid.so_far.priorities,
    ))

pub interaction_keeps : (d e : Draft) (name : List ℕ) (words : List (List ℕ × List ℕ))
    (guard : List (Comparison VariableName)) (transfer : List (Assignment VariableName)) → IsDraft d
    → 0 < length words → interaction_line d name words guard transfer ≡ Ok e → IsDraft e
interaction_keeps d e name words guard transfer valid some is = IfOk-at_ok IsDraft is
    (guarded IsDraft (is_known name d.system.interaction_names) Twice _ (λ new.
    bound IsDraft (participants_named d.system [] words) _ (λ qs is_qs.
    bound IsDraft (interaction_over name qs guard transfer d.system) _ (λ m is_m.
    IfOk-at_ok (λ s. IsDraft (record d { system = s })) is_m
    (allowed (λ s. IsDraft (record d { system = s }))
    (knows_guard (shared d.system qs) guard) Unknown _ (λ known.
    bound (λ s. IsDraft (record d { system = s }))
    (transfer_said (shared d.system qs) [] transfer) _ (λ u said.
    with_interaction_keeps d name words qs guard transfer valid some new is_qs known said)))))))

priority_joins : (d : Draft) (p : Pair) → IsDraft d → IsPairOf (length d.system.interactions) p
    → IfOk (with_priority p d.system) (λ s. IsDraft (record d { system = s }))
priority_joins d p valid known =
    guarded (λ s. IsDraft (record d { system = s }))
    (list_any (is_same_pair p) d.system.priorities) Twice _ (λ new.
    let so_far = valid.so_far in
    record {
      so_far = record {
        few_components = so_far.few_components;
        enough_names = so_far.enough_names;
        components_apart = so_far.components_apart;
        components = so_far.components;
        few_interactions = so_far.few_interactions;
        interactions_named = so_far.interactions_named;
        interactions_apart = so_far.interactions_apart;
        interactions = so_far.interactions;
        priorities = put_all (IsPairOf (length d.system.interactions)) p d.system.priorities known
            so_far.priorities;
        in_order = put_in_order p d.system.priorities so_far.in_order new;
      };
      begun_so_far = valid.begun_so_far;
      named = valid.named;
    })

pub priority_keeps : (d e : Draft) (low high : List ℕ) → IsDraft d → priority_line d low high ≡ Ok e
    → IsDraft e
priority_keeps d e low high valid is = IfOk-at_ok IsDraft is
    (bound IsDraft (number_in d.system.interaction_names low) _ (λ a is_a.
    bound IsDraft (number_in d.system.interaction_names high) _ (λ b is_b.
    bound IsDraft (with_priority (pair a b) d.system) _ (λ m is_m.
    IfOk-at_ok (λ s. IsDraft (record d { system = s })) is_m
    (priority_joins d (pair a b) valid (record {
      low = rw (← valid.so_far.interactions_named)
          (number_in-below d.system.interaction_names low a is_a);
      high = rw (← valid.so_far.interactions_named)
          (number_in-below d.system.interaction_names high b is_b);
    }))))))

-- a call that answered what is said
pub answers_said : {X : Type 0} (said : Result X BuildFault) (new : X) → said ≡ Ok new
    → Answers Memory said (Ok new)
answers_said said new is = rw is refl

-- what the names of two interactions say in a priority
pub priority_said : (d : Draft) (low high : List ℕ) (a b : ℕ)
    → number_in d.system.interaction_names low ≡ Ok a
    → number_in d.system.interaction_names high ≡ Ok b
    → list_any (is_same_pair (pair a b)) d.system.priorities ≡ false
    → priority_line d low high ≡ Ok (record d {
      system = record d.system { priorities = put_pair (pair a b) d.system.priorities };
    })
priority_said d low high a b is_a is_b new = rw (is_a, is_b, new) refl

-- what was answered of a system, said of the draft
system_ends : (said : Result System BuildFault) (d : Draft) (result : Result (Unit {0}) BuildFault)
    (new : System) → Answers Memory said (new_or_fault result new)
    → Answers Memory (said >>= λ m. Ok (record d { system = m }))
    (new_or_fault result (record d { system = new }))
system_ends (Ok m) d (Ok u) new is = ap (λ (s : System). record d { system = s }) is
system_ends (Ok m) d (Err e) new is = is
system_ends (Err f) d (Ok u) new is = is
system_ends (Err f) d (Err e) new is = is

-- a draft after an interaction of participants that were named
pub interaction_ends : (d : Draft) (name : List ℕ) (words : List (List ℕ × List ℕ))
    (qs : List Participant) (guard : List (Comparison VariableName))
    (transfer : List (Assignment VariableName)) (result : Result (Unit {0}) BuildFault)
    (new : System)
    → is_known name d.system.interaction_names ≡ false
    → participants_named d.system [] words ≡ Ok qs
    → Answers Memory (interaction_over name qs guard transfer d.system)
    (new_or_fault result new)
    → Answers Memory (interaction_line d name words guard transfer)
    (new_or_fault result (record d { system = new }))
interaction_ends d name words qs guard transfer result new unknown named said =
    rw (unknown, named) (system_ends (interaction_over name qs guard transfer d.system) d result new
    said)

-- such a draft is one that lines lead to
pub interaction_kept : (d : Draft) (name : List ℕ) (words : List (List ℕ × List ℕ))
    (qs : List Participant) (guard : List (Comparison VariableName))
    (transfer : List (Assignment VariableName)) (result : Result (Unit {0}) BuildFault)
    (new : System)
    → IsDraft d → 0 < length words → is_known name d.system.interaction_names ≡ false
    → participants_named d.system [] words ≡ Ok qs
    → Answers Memory (interaction_over name qs guard transfer d.system)
    (new_or_fault result new)
    → OnErr result (new ≡ d.system) → IsDraft (record d { system = new })
interaction_kept d name words qs guard transfer result new valid some unknown named said kept =
    answers_keeps (λ s. IsDraft (record d { system = s }))
    (interaction_over name qs guard transfer d.system) d.system result new said kept valid
    (λ m is. interaction_keeps d (record d { system = m }) name words guard transfer valid some
    (rw (unknown, named, is) refl))

-- an interaction whose transfer is at fault
pub transfer_at_fault : (name : List ℕ) (qs : List Participant)
    (guard : List (Comparison VariableName)) (transfer : List (Assignment VariableName))
    (m : System) (fault : BuildFault)
    → knows_guard (shared m qs) guard ≡ true → transfer_said (shared m qs) [] transfer ≡ Err fault
    → Answers Memory (interaction_over name qs guard transfer m) (Err fault)
transfer_at_fault name qs guard transfer m fault known said = rw (known, said) refl
