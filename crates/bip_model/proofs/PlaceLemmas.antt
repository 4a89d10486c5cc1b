-- Where transitions stand: places as they are made, and as they are read.
use Rattle.std.proofs.Common.{◌≡◌, ℕ, ◌+◌, ◌*◌, ◌/◌, ◌%◌, ◌<◌, ◌≤◌, Bool, true, false, cond, eqb}
use Rattle.std.proofs.Common.{ltb, ◌&&◌, List, [], ◌∷◌, ◌++◌, length, get_or, take, set, Option}
use Rattle.std.proofs.Common.{None, Some, find, slice_get, refl, sym, ap, ◌∙◌, inl, inr, arith}
use Rattle.std.proofs.Common.{add-one, mul_comm}
use Rattle.std.proofs.Math.Seq.{take-suc}
use Rattle.std.proofs.lemmas.Bool.{cases_Bool, cases_eq, cases_lt, false≢true}
use Rattle.std.proofs.lemmas.Bool.Decides.{nat_tests}
use Rattle.std.proofs.lemmas.Grind.{get_or-set_at}
use Rattle.std.proofs.lemmas.List.{get_or-set_other, get_or-take, get_or_append_left, get_or_push}
use Rattle.std.proofs.lemmas.List.{length-set, length-take-le, length_push}
use Rattle.std.proofs.lemmas.Nat.{div-mul-add, mod-mul-add, mul-add-lt}
use Rattle.std.proofs.lemmas.Option.{slice_get-get_or}
use Rattle.std.proofs.Math.Nat.{mul-le-mul_right}
use Rattle.bip_model.specs.Components.{leaves, offers_at, transition_for}
use Rattle.bip_model.specs.Parts.{IsComponent, IsTransitionOf, same_start}
use Rattle.bip_model.specs.Places.{ArePlaces, ArePlacesOfEach, index_of}
use Rattle.bip_model.specs.declared.numbering.LocId.{LocId}
use Rattle.bip_model.specs.declared.numbering.PortId.{PortId}
use Rattle.bip_model.specs.declared.parts.Component.{Component}
use Rattle.bip_model.specs.declared.parts.Transition.{Transition}
use Rattle.bip_model.specs.declared.states.LocalState.{LocalState}
use Rattle.bip_model.proofs.ListLemmas.{All-find, find_first, found_at}

-- the places of the first transitions alone
pub record ArePlacesOfFirst (component : Component) (n : ℕ) (places : List ℕ) : Type 0 where
  pub each : length places ≡ length component.locations * length component.ports
  pub place : (location : LocId) (port : PortId) → location.0 < length component.locations
      → port.0 < length component.ports
      → slice_get component.transitions (get_or places (index_of component location port) 0) ≡ find
      (leaves location port) (take n component.transitions)

-- the index of a location and a port of the component is within the places
index_within : (component : Component) (location : LocId) (port : PortId)
    → location.0 < length component.locations → port.0 < length component.ports
    → index_of component location port < length component.locations * length component.ports
index_within component location port here there =
    rw (mul_comm (length component.locations) (length component.ports))
    (mul-add-lt location.0 (length component.ports) port.0
    (length component.locations) here there)

-- an index is that of one location and one port
same_index : (w a b c d : ℕ) → b < w → d < w → a * w + b ≡ c * w + d → (a ≡ c) × (b ≡ d)
same_index w a b c d first second same = (
  sym (div-mul-add a w b first) ∙ (ap (λ n. n / w) same ∙ div-mul-add c w d second),
  sym (mod-mul-add a w b first) ∙ (ap (λ n. n % w) same ∙ mod-mul-add c w d second),
)

-- what is found with one more element that doesn't pass
find_other : {X : Type 0} (p : X → Bool) (xs : List X) (x : X) → p x ≡ false
    → find p (xs ++ x ∷ []) ≡ find p xs
find_other p [] x other = rw other refl
find_other p (y ∷ ys) x other = elim (cases_Bool (p y)) [
  | inl yes' ↦ rw yes' refl
  | inr no' ↦ rw no' (find_other p ys x other)
]

-- what leaves a location with a port
leaves_both : (location : LocId) (port : PortId) (t : Transition) → leaves location port t ≡ true
    → (t.source.0 ≡ location.0) × (t.port.0 ≡ port.0)
leaves_both location port t goes = (grind (arith, nat_tests), grind (arith, nat_tests))

leaves_from : (location : LocId) (port : PortId) (t : Transition) → t.source.0 ≡ location.0
    → t.port.0 ≡ port.0 → leaves location port t ≡ true
leaves_from location port t from by = grind (arith, nat_tests)

-- of transitions that start differently not more than one leaves a location with a port
leaves_one : (location : LocId) (port : PortId) (t u : Transition) → leaves location port t ≡ true
    → same_start u t ≡ false → leaves location port u ≡ false
leaves_one location port t u goes apart = grind (arith, nat_tests)

-- the next transition stands at its place
pub places_more : (component : Component) (n : ℕ) (t d : Transition) (places : List ℕ)
    → IsComponent component → n < length component.transitions
    → t ≡ get_or component.transitions n d
    → ArePlacesOfFirst component n places → ArePlacesOfFirst component (n + 1)
    (set places (index_of component t.source t.port) n)
places_more component n t d places valid within is before = record {
  each = length-set places _ n ∙ before.each;
  place = λ location port here there. elim (cases_Bool (leaves location port t)) [
    | inl goes ↦ found location port goes
    | inr other ↦ as_before location port here there other
  ];
}
  where
    ts : List Transition
    ts = component.transitions

    own : IsTransitionOf component t
    own = rw is (valid.so_far.transitions n d within)

    found : (location : LocId) (port : PortId) → leaves location port t ≡ true
        → slice_get ts (get_or (set places (index_of component t.source t.port) n)
        (index_of component location port) 0) ≡ find (leaves location port) (take (n + 1) ts)
    found location port goes =
        let both = leaves_both location port t goes in
        let same : index_of component location port ≡ index_of component t.source t.port =
        cc (both.0, both.1) in
        let at : get_or (set places (index_of component t.source t.port) n)
        (index_of component location port) 0 ≡ n =
        get_or-set_at places (index_of component t.source t.port)
        (index_of component location port) n 0 same
        (rw before.each (index_within component t.source t.port own.source own.port)) in
        let first : find (leaves location port) (take (n + 1) ts) ≡ Some t =
        find_first (leaves location port) (take (n + 1) ts) n t d
        (rw (length-take-le (n + 1) ts (omega arith)) (omega arith))
        (rw (get_or-take (n + 1) ts n d (omega arith)) is) goes
        (λ i below. rw (get_or-take (n + 1) ts i d (omega arith))
        (leaves_one location port t (get_or ts i d) goes
        (rw is (valid.so_far.one_each i n d below within)))) in
        rw (at, first, slice_get-get_or ts n d within, is) refl

    as_before : (location : LocId) (port : PortId) → location.0 < length component.locations
        → port.0 < length component.ports → leaves location port t ≡ false
        → slice_get ts (get_or (set places (index_of component t.source t.port) n)
        (index_of component location port) 0) ≡ find (leaves location port) (take (n + 1) ts)
    as_before location port here there other =
        let differs : index_of component location port ≡ index_of component t.source t.port → ⊥ =
        λ same.
        (let both = same_index (length component.ports) location.0 port.0 t.source.0 t.port.0 there
        own.port same in
        false≢true (sym other ∙ leaves_from location port t (sym both.0) (sym both.1))) in
        let more : take (n + 1) ts ≡ take n ts ++ t ∷ [] =
        rw (add-one, is) (take-suc ts n d within) in
        rw (
          get_or-set_other places (index_of component t.source t.port) (index_of component
              location port) n 0 differs,
          more,
          find_other (leaves location port) (take n ts) t other,
        )
        (before.place location port here there)

-- no transition is found where none of a component leaves the location with the port
none_leaves : (component : Component) (location : LocId) (port : PortId) → IsComponent component
    → ((t : Transition) → IsTransitionOf component t → leaves location port t ≡ true → ⊥)
    → None ≡ transition_for component location port
none_leaves component location port valid none =
    by_found (transition_for component location port) refl
  where
    by_found : (o : Option Transition) → transition_for component location port ≡ o → None ≡ o
    by_found None is = refl
    by_found (Some t) is =
        absurd (none t (All-find (IsTransitionOf component)
        (leaves location port) component.transitions t valid.so_far.transitions is)
        (found_at (leaves location port) component.transitions t is).1)

-- none has a port that the component lacks
pub no_port : (component : Component) (location : LocId) (port : PortId) → IsComponent component
    → length component.ports ≤ port.0 → None ≡ transition_for component location port
no_port component location port valid past =
    none_leaves component location port valid
    (λ t own goes. let both = leaves_both location port t goes in let within = own.port in
    omega arith)

-- none that the component lacks is offered
no_offer : (component : Component) (local : LocalState) (port : PortId) → IsComponent component
    → length component.ports ≤ port.0 → offers_at component local port ≡ false
no_offer component local port valid past = rw (sym (no_port component local.location port valid
    past)) (and_false (eqb (length local.values) (length component.variables)))
  where
    and_false : (b : Bool) → (b && false) ≡ false
    and_false true = refl
    and_false false = refl

-- 1 where a test passes
abbrev pub bit : Bool → ℕ
bit b = cond b 1 0

-- so whether ports are offered is known where it is known of the component's
pub offered_all : (component : Component) (local : LocalState) (n : ℕ) (port : PortId)
    → IsComponent component → length component.ports ≤ n
    → bit (ltb port.0 n && offers_at component local port) ≡ bit (offers_at component local port)
offered_all component local n port valid all =
    by_test (offers_at component local port) (λ past. no_offer component local port valid
    (omega arith))
  where
    by_test : (b : Bool) → (n ≤ port.0 → b ≡ false) → bit (ltb port.0 n && b) ≡ bit b
    by_test b none = grind (arith, nat_tests)

-- what stands where the places say is the transition that is found
pub placed : (component : Component) (places : List ℕ) (location : LocId) (port : PortId)
    → ArePlaces component places → port.0 < length component.ports
    → index_of component location port < length places
    → slice_get component.transitions (get_or places (index_of component location port) 0)
    ≡ transition_for component location port
placed component places location port are there within =
    elim (cases_lt location.0 (length component.locations)) [
      | inl here ↦ are.place location port here there
      | inr past ↦
          let rows = mul-le-mul_right (length component.ports) past in
          let each = are.each in absurd (omega (arith, rows))
    ]

-- and none is where they say nothing
pub not_placed : (component : Component) (places : List ℕ) (location : LocId) (port : PortId)
    → IsComponent component → ArePlaces component places → port.0 < length component.ports
    → length places ≤ index_of component location port
    → None ≡ transition_for component location port
not_placed component places location port valid are there past =
    none_leaves component location port valid (λ t own goes.
    let both = leaves_both location port t goes in
    let source = own.source in
    let within = index_within component location port (omega arith) there in
    let each = are.each in
    omega arith)

-- the places of one more component
pub places_push : (components : List Component) (lists : List (List ℕ)) (component : Component)
    (places : List ℕ) → ArePlacesOfEach components lists → ArePlaces component places
    → ArePlacesOfEach (components ++ component ∷ []) (lists ++ places ∷ [])
places_push components lists component places before more = record {
  each = let same = before.each in rw (length_push components component, length_push lists places)
      (omega arith);
  places = λ c d within. elim (cases_eq c (length components)) [
    | inl last ↦ rw (
      get_or_push components component d c (sym last),
      get_or_push lists places [] c (before.each ∙ sym last),
    ) more
    | inr other ↦
        let below : c < length components = omega (arith, length_push components component) in
        let below' : c < length lists = let same = before.each in omega arith in
        rw (
          get_or_append_left components (component ∷ []) d c below,
          get_or_append_left lists (places ∷ []) [] c below',
        ) (before.places c d below)
  ];
}
