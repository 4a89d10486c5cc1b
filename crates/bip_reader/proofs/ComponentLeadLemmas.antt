-- What the lines of a whole component lead to, and those of all components.
use Rattle.std.proofs.Common.{◌≡◌, ℕ, zero, suc, ◌+◌, ◌<◌, ◌≤◌, Bool, false, List, [], ◌∷◌, ◌++◌}
use Rattle.std.proofs.Common.{length, get_or, take, None, Some, refl, ap, ◌∙◌, sym, arith}
use Rattle.std.proofs.Common.{append-nil, length-append, length-take-le}
use Rattle.std.specs.Prelude.{codes}
use Rattle.std.specs.List.{flat_map, list_any}
use Rattle.std.proofs.Math.Seq.{take-length}
use Rattle.std.proofs.lemmas.List.{take_more}
use Rattle.std.proofs.lemmas.List.Folds.{list_any-append}
use Rattle.bip_model.specs.Components.{is_taken, leaves, no_component}
use Rattle.bip_model.specs.Drafts.{no_system}
use Rattle.bip_model.specs.Naming.{AreApart, IsName, is_known, name_in, same_text}
use Rattle.bip_model.specs.Parts.{IsComponent, IsSystem}
use Rattle.bip_model.specs.declared.partitions.Partition.{Partition}
use Rattle.bip_model.specs.declared.parts.Component.{Component}
use Rattle.bip_model.specs.declared.parts.System.{System}
use Rattle.bip_model.specs.declared.parts.Transition.{Transition}
use Rattle.bip_model.proofs.WrittenLemmas.{unknown_before_it}
use Rattle.bip_reader.specs.Writing.{CanBeSpelled, IsSpelledComponent, component_in, line_of_name}
use Rattle.bip_reader.specs.Writing.{line_of_transition, line_of_variable, lines_of_component}
use Rattle.bip_reader.specs.Writing.{lines_of_components, lines_of_variables}
use Rattle.bip_reader.proofs.LeadLemmas.{Leads, leads_all, leads_both, leads_numbers}
use Rattle.bip_reader.proofs.LineLeadLemmas.{begin_leads, end_leads, loc_leads, port_leads}
use Rattle.bip_reader.proofs.LineLeadLemmas.{reading_at, trans_leads, var_leads}

-- one more of a list
pub take-next : {X : Type 0} (xs : List X) (k : ℕ) (d : X) → k < length xs
    → take (suc k) xs ≡ take k xs ++ get_or xs k d ∷ []
take-next xs k d within = let on : suc k ≡ k + 1 = omega arith in rw on (take_more xs k d within)

-- names in two parts
front_at : (xs ys : List (List ℕ)) (k : ℕ) → k < length xs → (name_in (xs ++ ys) k ≡ name_in xs k)
    × (take k (xs ++ ys) ≡ take k xs)
front_at [] ys k within = absurd (omega arith)
front_at (x ∷ xs) ys zero within = (refl, refl)
front_at (x ∷ xs) ys (suc k) within = let rest = front_at xs ys k (omega arith) in
    (rest.0, ap (λ (zs : List (List ℕ)). x ∷ zs) rest.1)

back_at : (xs ys : List (List ℕ)) (k : ℕ) → (name_in (xs ++ ys) (length xs + k) ≡ name_in ys k)
    × (take (length xs + k) (xs ++ ys) ≡ xs ++ take k ys)
back_at [] ys k = let e : 0 + k ≡ k = omega arith in rw e (refl, refl)
back_at (x ∷ xs) ys k =
    let e : suc (length xs) + k ≡ suc (length xs + k) = omega arith in
    let rest = back_at xs ys k in
    rw e (rest.0, ap (λ (zs : List (List ℕ)). x ∷ zs) rest.1)

unknown_parts : (name : List ℕ) (xs ys : List (List ℕ)) → is_known name (xs ++ ys) ≡ false
    → (is_known name xs ≡ false) × (is_known name ys ≡ false)
unknown_parts name xs ys new = let both = list_any-append (same_text name) xs ys in grind arith

apart_front : (xs ys : List (List ℕ)) → AreApart (xs ++ ys) → AreApart xs
apart_front [] ys apart = tt
apart_front (x ∷ xs) ys apart = ((unknown_parts x xs ys apart.0).0, apart_front xs ys apart.1)

apart_back : (xs ys : List (List ℕ)) → AreApart (xs ++ ys) → AreApart ys
apart_back [] ys apart = apart
apart_back (x ∷ xs) ys apart = apart_back xs ys apart.1

-- a name that isn't among those of a component is not taken in it
not_taken : (name : List ℕ) (c : Component) → is_known name (c.variables ++ c.locations ++ c.ports)
    ≡ false → is_taken name c ≡ false
not_taken name c new =
    let outer = unknown_parts name (c.variables ++ c.locations) c.ports new in
    let within = unknown_parts name c.variables c.locations outer.0 in
    rw (within.0, within.1, outer.1) refl

-- none of the first of a list passes a test
pub none_before : {X : Type 0} (p : X → Bool) (xs : List X) (k : ℕ) (d : X) → k ≤ length xs
    → ((i : ℕ) → i < k → p (get_or xs i d) ≡ false) → list_any p (take k xs) ≡ false
none_before p xs zero d within fails = refl
none_before p [] (suc k) d within fails = refl
none_before p (x ∷ xs) (suc k) d within fails =
    rw (fails 0 (omega arith)) (none_before p xs k d (omega arith)
    (λ i below. fails (suc i) (omega arith)))

module _ (k : Component) (is : IsComponent k) where
  pub variables_apart : AreApart k.variables
  variables_apart = apart_front k.variables k.locations
      (apart_front (k.variables ++ k.locations) k.ports is.so_far.apart)

  pub locations_apart : AreApart k.locations
  locations_apart = apart_back k.variables k.locations
      (apart_front (k.variables ++ k.locations) k.ports is.so_far.apart)

  pub ports_apart : AreApart k.ports
  ports_apart = apart_back (k.variables ++ k.locations) k.ports is.so_far.apart

  module _ (s : System) (spelled : IsSpelledComponent k) where
    -- the names of the component, one after another
    abbrev all_names : List (List ℕ)
    all_names = k.variables ++ k.locations ++ k.ports

    new_at : (j : ℕ) → j < length all_names → is_known (name_in all_names j) (take j all_names)
        ≡ false
    new_at j within = unknown_before_it all_names j is.so_far.apart within

    abbrev with_variables : ℕ → Component
    with_variables j = record no_component {
      variables = take j k.variables;
      start = take j k.start;
    }

    abbrev with_locations : ℕ → Component
    with_locations j = record no_component {
      variables = k.variables;
      start = k.start;
      locations = take j k.locations;
    }

    abbrev with_ports : ℕ → Component
    with_ports j = record k { ports = take j k.ports; transitions = [] }

    abbrev with_transitions : ℕ → Component
    with_transitions j = record k { transitions = take j k.transitions }

    long_names : length all_names ≡ length k.variables + length k.locations + length k.ports
    long_names = length-append (k.variables ++ k.locations) k.ports
        ∙ ap (λ n. n + length k.ports) (length-append k.variables k.locations)

    variable_step : (j : ℕ) → j < length k.variables
        → Leads (line_of_variable k j) (reading_at s (Some (with_variables j)) [])
        (reading_at s (Some (with_variables (suc j))) [])
    variable_step j within =
        let started : j < length k.start = omega (arith, is.so_far.started) in
        let outer = front_at (k.variables ++ k.locations) k.ports j
        (omega (arith, length-append k.variables k.locations)) in
        let at = front_at k.variables k.locations j within in
        let new : is_known (name_in k.variables j) (take j k.variables) ≡ false =
        rw (outer.0, outer.1, at.0, at.1) at (new_at j (omega (arith, long_names))) in
        let free : is_taken (name_in k.variables j) (with_variables j) ≡ false = rw new refl in
        let room : length (take j k.variables) < 8 =
        omega (arith, length-take-le j k.variables (omega arith), is.so_far.few_variables) in
        rw (take-next k.variables j [] within, take-next k.start j 0 started)
        (var_leads s (with_variables j) (name_in k.variables j) (get_or k.start j 0)
        (spelled.starts.0 j [] within) (spelled.starts.1 j 0 started) free room)

    location_step : (j : ℕ) → j < length k.locations
        → Leads (line_of_name (codes "loc") (name_in k.locations j))
        (reading_at s (Some (with_locations j)) [])
        (reading_at s (Some (with_locations (suc j))) [])
    location_step j within =
        let place : ℕ = length k.variables + j in
        let outer = front_at (k.variables ++ k.locations) k.ports place
        (omega (arith, length-append k.variables k.locations)) in
        let at = back_at k.variables k.locations j in
        let new : is_known (name_in k.locations j) (k.variables ++ take j k.locations) ≡ false =
        rw (outer.0, outer.1, at.0, at.1) at (new_at place (omega (arith, long_names))) in
        let free : is_taken (name_in k.locations j) (with_locations j) ≡ false =
        not_taken (name_in k.locations j) (with_locations j)
        (rw (append-nil (k.variables ++ take j k.locations)) new) in
        let room : length (take j k.locations) < 64 =
        omega (arith, length-take-le j k.locations (omega arith), is.so_far.few_locations) in
        rw (take-next k.locations j [] within)
        (loc_leads s (with_locations j) (name_in k.locations j)
        (spelled.locations j [] within) free room)

    port_step : (j : ℕ) → j < length k.ports → Leads
        (line_of_name (codes "port") (name_in k.ports j)) (reading_at s (Some (with_ports j)) [])
        (reading_at s (Some (with_ports (suc j))) [])
    port_step j within =
        let place : ℕ = length (k.variables ++ k.locations) + j in
        let at = back_at (k.variables ++ k.locations) k.ports j in
        let new : is_known (name_in k.ports j) ((k.variables ++ k.locations) ++ take j k.ports)
        ≡ false = rw (at.0, at.1) at (new_at place
        (omega (arith, long_names, length-append k.variables k.locations))) in
        let free : is_taken (name_in k.ports j) (with_ports j) ≡ false =
        not_taken (name_in k.ports j) (with_ports j) new in
        let room : length (take j k.ports) < 16 =
        omega (arith, length-take-le j k.ports (omega arith), is.so_far.few_ports) in
        rw (take-next k.ports j [] within) (port_leads s (with_ports j) (name_in k.ports j)
        (spelled.ports j [] within) free room)

    module _ (d : Transition) where
      transition_step : (j : ℕ) → j < length k.transitions
          → Leads (line_of_transition k (get_or k.transitions j d))
          (reading_at s (Some (with_transitions j)) [])
          (reading_at s (Some (with_transitions (suc j))) [])
      transition_step j within =
          let t : Transition = get_or k.transitions j d in
          let new : list_any (leaves t.source t.port) (take j k.transitions) ≡ false =
          none_before (leaves t.source t.port) k.transitions j d (omega arith)
          (λ i below. is.so_far.one_each i j d below within) in
          let room : length (take j k.transitions) < 256 =
          omega (
            arith,
            length-take-le j k.transitions (omega arith),
            is.so_far.few_transitions,
          ) in
          rw (take-next k.transitions j d within)
          (trans_leads s k t (take j k.transitions) (is.so_far.transitions j d within)
          (spelled.transitions j d within) spelled.starts.0 spelled.locations spelled.ports
          variables_apart locations_apart ports_apart room new)

    abbrev no_transition : Transition
    no_transition = record {
      port = record { 0 = 0 };
      source = record { 0 = 0 };
      target = record { 0 = 0 };
      guard = [];
      update = [];
    }

    variables_lead : Leads (lines_of_variables k) (reading_at s (Some no_component) [])
        (reading_at s (Some (with_locations 0)) [])
    variables_lead =
        let names : take (length k.variables) k.variables ≡ k.variables = take-length k.variables in
        let values : take (length k.variables) k.start ≡ k.start =
        ap (λ n. take n k.start) (sym is.so_far.started) ∙ take-length k.start in
        rw (names, values) at (leads_numbers (line_of_variable k)
        (λ j. reading_at s (Some (with_variables j)) []) (length k.variables) variable_step)

    locations_lead : Leads (flat_map (line_of_name (codes "loc")) k.locations)
        (reading_at s (Some (with_locations 0)) []) (reading_at s (Some (with_ports 0)) [])
    locations_lead =
        rw (take-length k.locations) at (leads_all (line_of_name (codes "loc"))
        (λ j. reading_at s (Some (with_locations j)) []) [] k.locations location_step)

    ports_lead : Leads (flat_map (line_of_name (codes "port")) k.ports)
        (reading_at s (Some (with_ports 0)) []) (reading_at s (Some (with_transitions 0)) [])
    ports_lead = rw (take-length k.ports) at (leads_all (line_of_name (codes "port"))
        (λ j. reading_at s (Some (with_ports j)) []) [] k.ports port_step)

    transitions_lead : Leads (flat_map (line_of_transition k) k.transitions)
        (reading_at s (Some (with_transitions 0)) []) (reading_at s (Some k) [])
    transitions_lead =
        rw (take-length k.transitions) at (leads_all (line_of_transition k)
        (λ j. reading_at s (Some (with_transitions j)) []) no_transition k.transitions
        (transition_step no_transition))

  -- all lines of the component, with its name
  pub component_leads : (s : System) (name : List ℕ) → IsSpelledComponent k → IsName name
      → is_known name s.component_names ≡ false → length s.component_names < 64
      → Leads (lines_of_component name k) (reading_at s None [])
      (reading_at (record s {
        component_names = s.component_names ++ name ∷ [];
        components = s.components ++ k ∷ [];
      }) None [])
  component_leads s name spelled named new few =
      let begun : System = record s { component_names = s.component_names ++ name ∷ [] } in
      leads_both (leads_both (leads_both (leads_both
      (leads_both (begin_leads s name named new few) (variables_lead begun spelled))
      (locations_lead begun spelled)) (ports_lead begun spelled))
      (transitions_lead begun spelled))
      (end_leads begun k is.located)

module _ (m : System) (classes : Partition) (is : IsSystem m)
    (spelled : CanBeSpelled m classes) where
  -- a system of the first components
  abbrev with_components : ℕ → System
  with_components j = record no_system {
    component_names = take j m.component_names;
    components = take j m.components;
  }

  component_step : (j : ℕ) → j < length m.components
      → Leads (lines_of_component (name_in m.component_names j) (component_in m j))
      (reading_at (with_components j) None []) (reading_at (with_components (suc j)) None [])
  component_step j within =
      let named : j < length m.component_names = omega (arith, is.components_named) in
      let room : length (take j m.component_names) < 64 =
      omega (
        arith,
        length-take-le j m.component_names (omega arith),
        is.so_far.few_components,
      ) in
      rw (take-next m.component_names j [] named, take-next m.components j no_component within)
      (component_leads (component_in m j) (is.so_far.components j no_component within)
      (with_components j) (name_in m.component_names j)
      (spelled.components.1 j no_component within)
      (spelled.components.0 j [] named) (unknown_before_it m.component_names j
      is.so_far.components_apart named) room)

  -- the lines of all components
  pub components_lead : Leads (lines_of_components m) (reading_at no_system None [])
      (reading_at (record no_system {
        component_names = m.component_names;
        components = m.components;
      }) None [])
  components_lead =
      let names : take (length m.components) m.component_names ≡ m.component_names =
      ap (λ n. take n m.component_names) (sym is.components_named)
      ∙ take-length m.component_names in
      rw (names, take-length m.components) at
      (leads_numbers (λ c. lines_of_component (name_in m.component_names c) (component_in m c))
      (λ j. reading_at (with_components j) None []) (length m.components) component_step)
