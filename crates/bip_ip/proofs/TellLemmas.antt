-- What is told, and where it leads.
use Rattle.std.proofs.Common.{◌≡◌, ℕ, suc, ◌<◌, ◌≤◌, Bool, true, cond, eqb, eqb-true, List, [], ◌∷◌}
use Rattle.std.proofs.Common.{length, map, get_or, inl, inr, refl, sym, ap, ◌∙◌, subst, Contains}
use Rattle.std.proofs.Common.{zip, arith}
use Rattle.std.specs.Prelude.{◌==◌, count_by}
use Rattle.std.proofs.lemmas.Bool.{cases_Bool, cond-false, cond-true, false_from_ne_true}
use Rattle.std.proofs.lemmas.List.Sums.{sum_by-cons}
use Rattle.bip_model.proofs.ListLemmas.{Contains-head, Contains-tail, below_later}
use Rattle.bip_model.proofs.NumberingLemmas.{increasing_tail}
use Rattle.std.specs.List.Sorted.{IsStrictlyIncreasing}
use Rattle.std.specs.Option.{option_map}
use Rattle.std.proofs.lemmas.List.{get_or-map, length-map}
use Rattle.std.proofs.lemmas.List.Folds.{Any-from_list_any}
use Rattle.std.proofs.lemmas.Option.{slice_get-get_or}
use Rattle.std.proofs.lemmas.Simd.{map-map}
use Rattle.std.proofs.lemmas.Slice.Zip.{firsts-zip, get_or-zip, length-zip}
use Rattle.bip_model.proofs.ExpressionLemmas.{counts-transferred}
use Rattle.bip_model.proofs.LawLemmas.{after-member, rising_of}
use Rattle.bip_model.specs.Expressions.{transferred}
use Rattle.bip_model.specs.Parts.{Participant, components_in}
use Rattle.bip_model.specs.States.{with_values}
use Rattle.bip_model.specs.Steps.{after, led, moves, participants_of, told, transfer_of, values_of}
use Rattle.bip_model.specs.declared.messages.Notify.{Notify}
use Rattle.bip_model.specs.declared.messages.Offer.{Offer}
use Rattle.bip_model.specs.declared.parts.System.{System}
use Rattle.bip_observe.proofs.ShowLemmas.{moves_each, offered_values}
use Rattle.bip_ip.specs.Asking.{notify_of, told_by, values_offered}
use Rattle.bip_ip.specs.Laws.{LeadsToTheStep, TellsByComponent, TellsOfferedNumbers, TellsOnce}
use Rattle.bip_ip.specs.Laws.{TellsParticipants, TellsWhatMoves}

-- the values that the participants are told
abbrev pub values_told : System → (ℕ → Offer) → ℕ → List (List ℕ)
values_told m o a = transferred (transfer_of m a) (values_offered m o a)

-- as many as there are participants
pub length_values_told : (m : System) (o : ℕ → Offer) (a : ℕ)
    → length (values_told m o a) ≡ length (participants_of m a)
length_values_told m o a = simp length-map at
    (ap length (counts-transferred (transfer_of m a) (values_offered m o a)))

abbrev pairs_told : System → (ℕ → Offer) → ℕ → List (Participant × List ℕ)
pairs_told m o a = zip (participants_of m a) (values_told m o a)

length_pairs : (m : System) (o : ℕ → Offer) (a : ℕ)
    → length (pairs_told m o a) ≡ length (participants_of m a)
length_pairs m o a =
    let same = length_values_told m o a in
    rw (length-zip (participants_of m a) (values_told m o a), same) (omega arith)

-- a notification is that of a participant, with the values at its place
pub record IsToldAt (m : System) (o : ℕ → Offer) (a : ℕ) (n : Notify) (i : ℕ) : Type 0 where
  pub within : i < length (participants_of m a)
  pub is : notify_of o (
    get_or (participants_of m a) i (n.comp, n.port),
    get_or (values_told m o a) i [],
  ) ≡ n

pub told_at : (m : System) (o : ℕ → Offer) (a : ℕ) (n : Notify) → (at : Contains (told_by m o a) n)
    → IsToldAt m o a n at.0
told_at m o a n (i, below, is) =
    let inside : i < length (pairs_told m o a) = simp length-map at below in
    let within : i < length (participants_of m a) = rw (length_pairs m o a) at inside in
    let each : i < length (values_told m o a) = rw (length_values_told m o a) within in
    let d : Participant × List ℕ = ((n.comp, n.port), []) in
    record {
      within = within;
      is = sym (ap (notify_of o) (get_or-zip (participants_of m a)
          (values_told m o a) i d within each))
          ∙ (sym (get_or-map (notify_of o) (pairs_told m o a) i d n inside) ∙ is);
    }

pub tells_what_moves : TellsWhatMoves
tells_what_moves m o a n at =
    let told = told_at m o a n at in
    subst (λ (x : Notify). moves m a x.comp.0 ≡ true) told.is
    (moves_each m a at.0 (n.comp, n.port) told.within)

pub tells_offered_numbers : TellsOfferedNumbers
tells_offered_numbers m o a n at = subst (λ (x : Notify). x.number ≡ (o x.comp.0).number)
    (told_at m o a n at).is refl

pub tells_participants : TellsParticipants
tells_participants m o a c on =
    let at = Any-from_list_any (λ (q : Participant). eqb q.0.0 c) (participants_of m a) on in
    let i = at.0 in
    let q = at.1 in
    let each : i < length (values_told m o a) = rw (length_values_told m o a) at.2 in
    let inside : i < length (pairs_told m o a) = rw (length_pairs m o a) at.2 in
    let n = notify_of o (q, get_or (values_told m o a) i []) in (
      i,
      n,
      simp length-map inside,
      get_or-map (notify_of o) (pairs_told m o a) i (q, []) n inside
          ∙ (ap (notify_of o) (get_or-zip (participants_of m a) (values_told m o a) i
          (q, []) at.2 each)
          ∙ ap (λ (r : Participant). notify_of o (r, get_or (values_told m o a) i [])) at.3),
      eqb-true q.0.0 c at.4,
    )

pub tells_by_component : TellsByComponent
tells_by_component m valid o a =
    let firsts = firsts-zip (participants_of m a) (values_told m o a) (length_values_told m o a) in
    let same : map (λ (n : Notify). n.comp.0) (told_by m o a) ≡ components_in
    (participants_of m a) =
    map-map (λ (n : Notify). n.comp.0) (notify_of o) (pairs_told m o a)
    ∙ (sym (map-map (λ (q : Participant). q.0.0) (λ (t : Participant × List ℕ). t.0)
    (pairs_told m o a))
    ∙ ap components_in firsts) in
    subst IsStrictlyIncreasing (sym same) (rising_of m a valid)

-- a notification is for a component
abbrev is_told : ℕ → Notify → Bool
is_told c n = n.comp.0 == c

count_none : (c : ℕ) (ns : List Notify) → ((n : Notify) → Contains ns n → ¬ (n.comp.0 ≡ c))
    → count_by (is_told c) ns ≡ 0
count_none c [] none = refl
count_none c (n ∷ ns) none =
    let each = sum_by-cons (λ (x : Notify). cond (is_told c x) 1 0) n ns in
    let here : cond {A = ℕ} (n.comp.0 == c) 1 0 ≡ 0 =
    cond-false (n.comp.0 == c) 1 0 (false_from_ne_true (n.comp.0 == c)
    (λ is. none n (Contains-head n ns) (eqb-true n.comp.0 c is))) in
    let rest = count_none c ns (λ x at. none x (Contains-tail n x ns at)) in
    omega (arith, each, here, rest)

count_rising : (c : ℕ) (ns : List Notify) → IsStrictlyIncreasing (map (λ (n : Notify). n.comp.0) ns)
    → count_by (is_told c) ns ≤ 1
count_rising c [] rising = omega arith
count_rising c (n ∷ ns) rising =
    let each = sum_by-cons (λ (x : Notify). cond (is_told c x) 1 0) n ns in
    elim (cases_Bool (n.comp.0 == c)) [
      | inl is ↦
          let here : cond {A = ℕ} (n.comp.0 == c) 1 0 ≡ 1 = cond-true (n.comp.0 == c) 1 0 is in
          let rest = count_none c ns (λ x at same. let below = head_below n ns rising x at in
          absurd (omega (arith, below, same, eqb-true n.comp.0 c is))) in
          omega (arith, each, here, rest)
      | inr other ↦
          let here : cond {A = ℕ} (n.comp.0 == c) 1 0 ≡ 0 = cond-false (n.comp.0 == c) 1 0 other in
          let rest = count_rising c ns (increasing_tail n.comp.0
          (map (λ (x : Notify). x.comp.0) ns) rising) in
          omega (arith, each, here, rest)
    ]
  where
    head_below : (n : Notify) (ns : List Notify)
        → IsStrictlyIncreasing (map (λ (x : Notify). x.comp.0) (n ∷ ns)) → (x : Notify)
        → Contains ns x → n.comp.0 < x.comp.0
    head_below n ns rising x (k, within, is) =
        subst (λ (y : Notify). n.comp.0 < y.comp.0) is
        (below_later (λ (y : Notify). y.comp.0) (n ∷ ns) rising 0 (suc k) x (omega arith)
        (omega (arith, within)))

pub tells_once : TellsOnce
tells_once m valid o a c = count_rising c (told_by m o a) (tells_by_component m valid o a)

pub leads_to_the_step : LeadsToTheStep
leads_to_the_step m valid o s a own show n at =
    let its = told_at m o a n at in
    let i = at.0 in
    let q = get_or (participants_of m a) i (n.comp, n.port) in
    let values : values_told m o a ≡ transferred (transfer_of m a) (values_of m s a) =
    ap (transferred (transfer_of m a)) (offered_values m o s a own show) in
    let same : get_or (values_told m o a) i [] ≡ told m s a i =
    ap (λ (vs : List (List ℕ)). get_or vs i []) values in
    let leads = after-member m s a i q valid (slice_get-get_or (participants_of m a) i
    (n.comp, n.port) its.within) in
    subst (λ (x : Notify). after m s a x.comp.0 ≡ option_map
    (λ local. led m x.comp.0 x.port (with_values x.values local)) (s x.comp.0)) its.is
    (rw same leads)
