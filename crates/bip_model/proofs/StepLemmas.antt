-- The joint step, one participant after another.
use Rattle.std.proofs.Common.{◌≡◌, ◌+◌, ◌↔◌, ℕ, ◌<◌, Bool, true, false, eqb, eqb-true, List, []}
use Rattle.std.proofs.Common.{◌∷◌, length, map, get_or, suc, inl, inr, ◌⊎◌, Option, None, Some}
use Rattle.std.proofs.Common.{refl, sym, ap, ◌∙◌, add-one, zero, arith, position, slice_get}
use Rattle.std.proofs.lemmas.Grind.{common_steps}
use Rattle.std.specs.Prelude.{IsTrue}
use Rattle.std.specs.List.{list_all, list_any}
use Rattle.std.specs.Option.{option_map, option_map_or}
use Rattle.std.proofs.Math.Path.{fun_ext}
use Rattle.std.proofs.lemmas.Bool.{and_parts, cases_Bool, cases_lt, false≢true, or_parts}
use Rattle.std.proofs.lemmas.Bool.Decides.{nat_tests}
use Rattle.std.proofs.lemmas.List.{length-map}
use Rattle.std.proofs.lemmas.List.Sums.{AllPass-from_list_all, list_all-from_AllPass}
use Rattle.std.proofs.lemmas.Option.{slice_get_read, slice_get_within}
use Rattle.bip_model.specs.declared.parts.Component.{Component}
use Rattle.bip_model.specs.declared.parts.Interaction.{Interaction}
use Rattle.bip_model.specs.declared.parts.System.{System}
use Rattle.bip_model.specs.declared.states.LocalState.{LocalState}
use Rattle.bip_model.specs.Components.{offers_at}
use Rattle.bip_model.specs.Expressions.{counts, holds, transferred}
use Rattle.bip_model.specs.Parts.{Participant, components_in, count_of, counts_of}
use Rattle.bip_model.specs.States.{State, with_values}
use Rattle.bip_model.specs.Steps.{IsEnabled, after, led, led_all, port_at, told, told_all, guard_of}
use Rattle.bip_model.specs.Steps.{offered, participants_of, transfer_of, values_at, values_of}
use Rattle.bip_model.proofs.ExpressionLemmas.{counts-transferred}
use Rattle.bip_model.proofs.ListLemmas.{parted, position_cons}
use Rattle.bip_model.proofs.NumberingLemmas.{apart_from_rises, numbered_new, rises_from_increasing}
use Rattle.std.proofs.lemmas.List.{take_more}
use Rattle.std.specs.List.Sorted.{IsStrictlyIncreasing}
use Rattle.std.proofs.Common.{take, drop, cond, ◌++◌}

-- what all participants are told
abbrev pub all_told : System → State → ℕ → List (List ℕ)
all_told m s a = transferred (transfer_of m a) (values_of m s a)

-- where the participant at a place goes, if one has the component
abbrev led_by : System → State → ℕ → List Participant → Option ℕ → Option LocalState
led_by m s c qs place =
    option_map_or (λ i. option_map (led m c (option_map_or (λ (q : Participant). q.1)
    (slice_get qs i) (record { 0 = 0 }))) (s c)) place (s c)

led_by-later : (m : System) (s : State) (c : ℕ) (q : Participant) (qs : List Participant)
    (place : Option ℕ)
    → led_by m s c qs place ≡ led_by m s c (q ∷ qs) (option_map (λ i. i + 1) place)
led_by-later m s c q qs None = refl
led_by-later m s c q qs (Some i) = rw (add-one i) refl

-- what goes, by the place of the participant
led_at : (m : System) (s : State) (c : ℕ) (qs : List Participant)
    → led_all m s qs c ≡ led_by m s c qs (position (λ (q : Participant). eqb q.0.0 c) qs)
led_at m s c [] = refl
led_at m s c (q ∷ qs) = grind (
  arith,
  nat_tests,
  position_cons (λ (r : Participant). eqb r.0.0 c) q qs,
  led_at m s c qs,
  led_by-later m s c q qs
      (position (λ (r : Participant). eqb r.0.0 c) qs),
)

-- what the participant at a place is told, if one has the component
abbrev told_by : State → ℕ → List (List ℕ) → Option ℕ → Option LocalState
told_by s c values place = option_map_or (λ i. option_map (with_values (get_or values i [])) (s c))
    place (s c)

told_by-later : (s : State) (c : ℕ) (own : List ℕ) (values : List (List ℕ)) (place : Option ℕ)
    → told_by s c values place ≡ told_by s c (own ∷ values) (option_map (λ i. i + 1) place)
told_by-later s c own values None = refl
told_by-later s c own values (Some i) = rw (add-one i) refl

-- who is told something last has just that
told_last : (s : State) (qs : List Participant) (values : List (List ℕ)) (c : ℕ) (own : List ℕ)
    → option_map (with_values own) (told_all s qs values c) ≡ option_map (with_values own) (s c)
told_last s [] values c own = refl
told_last s (q ∷ qs) [] c own = refl
told_last s (q ∷ qs) (v ∷ values) c own = grind
    (arith, nat_tests, common_steps, told_last s qs values c own)

-- what is told, by the place of the participant
told_at : (s : State) (c : ℕ) (qs : List Participant) (values : List (List ℕ))
    → length values ≡ length qs
    → told_all s qs values c ≡ told_by s c values (position (λ (q : Participant). eqb q.0.0 c) qs)
told_at s c [] values same = refl
told_at s c (q ∷ qs) [] same = absurd (omega arith)
told_at s c (q ∷ qs) (own ∷ values) same = grind (
  arith,
  nat_tests,
  position_cons (λ (r : Participant). eqb r.0.0 c) q qs,
  told_at s c qs values (omega arith),
  told_last s qs values c own,
  told_by-later s c own values
      (position (λ (r : Participant). eqb r.0.0 c) qs),
)

-- who is told the values that it has stays
pub told_same : (s : State) (qs : List Participant) (c : ℕ)
    → told_all s qs (map (values_at s) qs) c ≡ s c
told_same s [] c = refl
told_same s (q ∷ qs) c = grind (arith, nat_tests, common_steps, told_same s qs c)

-- nobody is told nothing
pub told_none : (s : State) (qs : List Participant) (values : List (List ℕ)) (c : ℕ)
    → length values < 1 → s c ≡ told_all s qs values c
told_none s [] values c none = refl
told_none s (q ∷ qs) [] c none = refl
told_none s (q ∷ qs) (v ∷ values) c none = absurd (omega arith)

-- each participant is told something
pub length_told : (m : System) (s : State) (a : ℕ)
    → length (all_told m s a) ≡ length (participants_of m a)
length_told m s a = simp length-map at (ap length
    (counts-transferred (transfer_of m a) (values_of m s a)))

-- the state after the participants of an interaction are told what the transfer gives them
abbrev pub told_in : System → State → ℕ → State
told_in m s a = told_all s (participants_of m a) (all_told m s a)

-- the joint step by places is the joint step, one participant after another
pub after_led : (m : System) (s : State) (a c : ℕ)
    → led_all m (told_in m s a) (participants_of m a) c ≡ after m s a c
after_led m s a c =
    led_at m (told_in m s a) c (participants_of m a)
    ∙ by_place (position (λ (q : Participant). eqb q.0.0 c) (participants_of m a)) (told_in m s a c)
    (told_at s c (participants_of m a) (all_told m s a) (length_told m s a))
  where
    by_place : (place : Option ℕ) (t : Option LocalState) → t ≡ told_by s c (all_told m s a) place
        → option_map_or (λ i. option_map (led m c (port_at m a i)) t) place t ≡ option_map_or
        (λ i. option_map (λ local. led m c (port_at m a i) (with_values (told m s a i) local))
        (s c)) place (s c)
    by_place None t is = is
    by_place (Some i) t is = rw is (option_map-twice (s c))
      where
        option_map-twice : (o : Option LocalState)
            → option_map (led m c (port_at m a i)) (option_map (with_values (told m s a i)) o)
            ≡ option_map (λ local. led m c (port_at m a i) (with_values (told m s a i) local)) o
        option_map-twice None = refl
        option_map-twice (Some local) = refl

-- who takes no part stays
pub led_all-stays : (m : System) (s : State) (qs : List Participant) (c : ℕ)
    → list_any (λ (q : Participant). eqb q.0.0 c) qs ≡ false → led_all m s qs c ≡ s c
led_all-stays m s [] c none = refl
led_all-stays m s (q ∷ qs) c none =
    let parts = or_parts (eqb q.0.0 c) (list_any (λ (r : Participant). eqb r.0.0 c) qs) none in
    grind (arith, nat_tests, led_all-stays m s qs c parts.1)

-- one more participant, of a component that takes no part before
led_all-more : (m : System) (s : State) (qs : List Participant) (q : Participant) (c : ℕ)
    → list_any (λ (r : Participant). eqb r.0.0 q.0.0) qs ≡ false
    → led_all m s (qs ++ q ∷ []) c ≡ cond (eqb c q.0.0)
    (option_map (led m q.0.0 q.1) (led_all m s qs c)) (led_all m s qs c)
led_all-more m s [] q c new = grind (arith, nat_tests)
led_all-more m s (r ∷ rs) q c new =
    let parts = or_parts (eqb r.0.0 q.0.0) (list_any (λ (p : Participant). eqb p.0.0 q.0.0) rs)
    new in
    grind (arith, nat_tests, led_all-more m s rs q c parts.1)

-- no participant before one is of its component
alone_at : (qs : List Participant) (i : ℕ) (d : Participant)
    → IsStrictlyIncreasing (components_in qs) → i < length qs
    → list_any (λ (r : Participant). eqb r.0.0 (get_or qs i d).0.0) (take i qs) ≡ false
alone_at qs i d rising within =
    let apart = apart_from_rises (components_in qs)
    (rises_from_increasing (components_in qs) rising) in
    numbered_new (λ (r : Participant). r.0.0) (take i qs) (get_or qs i d) (drop (suc i) qs)
    (rw (parted qs i d within) apart)

-- a participant goes where its port leads, after those before it
pub led_all-next : (m : System) (s t new : State) (qs : List Participant) (i : ℕ) (d : Participant)
    → IsStrictlyIncreasing (components_in qs) → i < length qs
    → ((c : ℕ) → t c ≡ led_all m s (take i qs) c)
    → ((c : ℕ) → new c ≡ cond (eqb c (get_or qs i d).0.0)
    (option_map (led m (get_or qs i d).0.0 (get_or qs i d).1) (t c)) (t c))
    → (c : ℕ) → new c ≡ led_all m s (take (i + 1) qs) c
led_all-next m s t new qs i d rising within before put c =
    let q : Participant = get_or qs i d in
    rw (take_more qs i d within) (put c ∙ rw (before c)
    (sym (led_all-more m s (take i qs) q c (alone_at qs i d rising within))))

-- who is told as many values as its component has variables has as many
told_count : (components : List Component) (s : State) (qs : List Participant)
    (values : List (List ℕ)) (q : Participant) → counts values ≡ counts_of components qs
    → length (values_at s q) ≡ count_of components q
    → length (values_at (told_all s qs values) q) ≡ count_of components q
told_count components s [] values q same own = own
told_count components s (r ∷ qs) [] q same own = own
told_count components s (r ∷ qs) (v ∷ values) q same own =
    let head : length v ≡ count_of components r = ap (λ (xs : List ℕ). get_or xs 0 0) same in
    let rest = told_count components s qs values q (ap (λ (xs : List ℕ). drop 1 xs) same) own in
    let alike : q.0.0 ≡ r.0.0 → count_of components r ≡ count_of components q = λ e. rw e refl in
    grind (arith, nat_tests, common_steps, rest, head, alike)

pub told_counts : (components : List Component) (s : State) (ps : List Participant)
    (values : List (List ℕ)) (qs : List Participant) → counts values ≡ counts_of components ps
    → counts (map (values_at s) qs) ≡ counts_of components qs
    → counts (map (values_at (told_all s ps values)) qs) ≡ counts_of components qs
told_counts components s ps values [] same own = refl
told_counts components s ps values (q ∷ qs) same own =
    rw (
      told_count components s ps values q same (ap (λ (xs : List ℕ). get_or xs 0 0) own),
      told_counts components s ps values qs same (ap (λ (xs : List ℕ). drop 1 xs) own),
    ) refl

-- the participant at a place has as many values as its component has variables
counts_get : (components : List Component) (s : State) (qs : List Participant) (i : ℕ)
    (d : Participant) → counts (map (values_at s) qs) ≡ counts_of components qs → i < length qs
    → length (values_at s (get_or qs i d)) ≡ count_of components (get_or qs i d)
counts_get components s [] i d same within = absurd (omega arith)
counts_get components s (q ∷ qs) zero d same within = ap (λ (xs : List ℕ). get_or xs 0 0) same
counts_get components s (q ∷ qs) (suc i) d same within =
    counts_get components s qs i d (ap (λ (xs : List ℕ). drop 1 xs) same) (omega arith)

-- so it has after those before it went
pub count_next : (m : System) (s t : State) (qs : List Participant) (i : ℕ) (d : Participant)
    → IsStrictlyIncreasing (components_in qs) → i < length qs
    → ((c : ℕ) → t c ≡ led_all m s (take i qs) c)
    → counts (map (values_at s) qs) ≡ counts_of m.components qs
    → length (values_at t (get_or qs i d)) ≡ count_of m.components (get_or qs i d)
count_next m s t qs i d rising within before same =
    let q : Participant = get_or qs i d in
    rw (before q.0.0, led_all-stays m s (take i qs) q.0.0 (alone_at qs i d rising within))
    (counts_get m.components s qs i d same within)

-- an interaction that is declared, as it is read
pub interaction_at : (m : System) (a : ℕ) (items : List Interaction) (i : Interaction)
    → items ≡ m.interactions → a < length m.interactions → i ≡ get_or items a i
    → slice_get m.interactions a ≡ Some i
interaction_at m a items i same within is = rw (← same)
    (slice_get_read items (length items) a i refl (rw same within) is)

-- all participants of an interaction went, after what the transfer told them
pub fired : (m : System) (s t new : State) (a : ℕ) (i : Interaction)
    → slice_get m.interactions a ≡ Some i
    → ((c : ℕ) → t c ≡ told_all s i.participants
    (transferred i.transfer (map (values_at s) i.participants)) c)
    → ((c : ℕ) → new c ≡ led_all m t i.participants c) → new ≡ after m s a
fired m s t new a i at told went = fun_ext (λ c.
    let is : t ≡ told_all s i.participants (transferred i.transfer
    (map (values_at s) i.participants)) = fun_ext told in
    let same : led_all m t i.participants c ≡ led_all m (told_in m s a) (participants_of m a) c =
    rw (is, at) refl in
    went c ∙ same ∙ after_led m s a c)

-- a participant whose port is offered has a value for each variable
count_offered : (m : System) (s : State) (q : Participant) → offered m s q ≡ true
    → length (values_at s q) ≡ count_of m.components q
count_offered m s q offers = by_component (slice_get m.components q.0.0) (s q.0.0) offers
  where
    by_component : (k : Option Component) (p : Option LocalState)
        → option_map_or (λ component. option_map_or
        (λ local. offers_at component local q.1) p false) k false ≡ true
        → length (option_map_or (λ (local : LocalState). local.values) p []) ≡ option_map_or
        (λ (component : Component). length component.variables) k 0
    by_component None p h = absurd (false≢true h)
    by_component (Some k) None h = absurd (false≢true h)
    by_component (Some k) (Some p) h = eqb-true (length p.values) (length k.variables)
        (and_parts (eqb (length p.values) (length k.variables)) _ h).0

pub counts_offered : (m : System) (s : State) (qs : List Participant)
    → list_all (offered m s) qs ≡ true → counts (map (values_at s) qs) ≡ counts_of m.components qs
counts_offered m s [] all = refl
counts_offered m s (q ∷ qs) all =
    let parts = and_parts (offered m s q) (list_all (offered m s) qs) all in
    rw (count_offered m s q parts.0, counts_offered m s qs parts.1) refl

-- the participants of an enabled interaction offer their ports
pub offered_of : (m : System) (s : State) (a : ℕ) (i : Interaction)
    → slice_get m.interactions a ≡ Some i → IsEnabled m s a
    → list_all (offered m s) i.participants ≡ true
offered_of m s a i at enabled = list_all-from_AllPass (offered m s) i.participants
    (rw at at enabled.offered_all)

-- an interaction whose participants' ports are offered is enabled exactly where its guard holds
pub enabled_by_guard : (m : System) (s : State) (a : ℕ) (i : Interaction) (b : Bool)
    → slice_get m.interactions a ≡ Some i → list_all (offered m s) i.participants ≡ true
    → b ≡ holds i.guard (map (values_at s) i.participants) → IsTrue b ↔ IsEnabled m s a
enabled_by_guard m s a i b at all is = (
  λ yes'. record {
    declared = slice_get_within m.interactions a i at;
    offered_all = rw at (AllPass-from_list_all (offered m s) i.participants all);
    guard = rw at (sym is ∙ yes');
  },
  λ enabled. is ∙ rw at at enabled.guard,
)

-- one with a participant whose port is not offered is not enabled
pub not_enabled : (m : System) (s : State) (a : ℕ) (i : Interaction) (b : Bool)
    → slice_get m.interactions a ≡ Some i → list_all (offered m s) i.participants ≡ false
    → b ≡ false → IsTrue b ↔ IsEnabled m s a
not_enabled m s a i b at some is = (
  λ yes'. absurd (false≢true (sym is ∙ yes')),
  λ enabled. absurd (false≢true (sym some ∙ offered_of m s a i at enabled)),
)

-- an interaction is enabled, or it isn't
pub enabled_or_not : (m : System) (s : State) (a : ℕ) → IsEnabled m s a ⊎ (¬ IsEnabled m s a)
enabled_or_not m s a = elim (cases_lt a (length m.interactions)) [
  | inl known ↦ elim (cases_Bool (list_all (offered m s) (participants_of m a))) [
    | inl all ↦ elim (cases_Bool (holds (guard_of m a) (values_of m s a))) [
      | inl holds' ↦ inl (record {
        declared = known;
        offered_all = AllPass-from_list_all (offered m s) (participants_of m a) all;
        guard =
            holds';
      })
      | inr fails ↦ inr (λ is. absurd (false≢true (sym fails ∙ is.guard)))
    ]
    | inr some ↦ inr (λ is. absurd (false≢true
        (sym some ∙ list_all-from_AllPass (offered m s) (participants_of m a) is.offered_all)))
  ]
  | inr past ↦ inr (λ is. absurd (omega (arith, is.declared)))
]
