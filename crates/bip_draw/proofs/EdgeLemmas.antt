-- Edges: each is drawn at the first of its transitions, which stand on it in their order.
use Rattle.std.proofs.Common.{◌≡◌, ◌<◌, ℕ, ◌+◌, cond, eqb, false, true, Bool, List, [], ◌∷◌, ◌++◌}
use Rattle.std.proofs.Common.{◌||◌, ◌&&◌, ◌∙◌, length, get_or, take, refl, ap, append_assoc}
use Rattle.std.proofs.Common.{append-nil, arith}
use Rattle.std.specs.Prelude.{filter, not}
use Rattle.std.specs.List.{AllPairs, flat_map, list_all, list_any}
use Rattle.std.specs.List.Sorted.{IsPermutation}
use Rattle.std.proofs.lemmas.Bool.Decides.{nat_tests}
use Rattle.std.proofs.lemmas.Grind.{flat_map-append}
use Rattle.std.proofs.lemmas.List.{take_more}
use Rattle.std.proofs.lemmas.List.Elements.{filter-append, filter_more, filter_passes}
use Rattle.std.proofs.lemmas.List.Kept.{AllPairs-cons, AllPairs-filter}
use Rattle.std.proofs.lemmas.List.Sorted.{IsPermutation-append_right, IsPermutation-filter_both}
use Rattle.std.proofs.lemmas.List.Sorted.{IsPermutation-refl, IsPermutation-trans}
use Rattle.bip_model.specs.declared.parts.Transition.{Transition}
use Rattle.bip_draw.specs.Clauses.{listed}
use Rattle.bip_draw.specs.Drawing.{are_parallel, firsts_of}
use Rattle.bip_draw.specs.Laws.{EdgesDiffer, TransitionsStandOnce}
use Rattle.bip_draw.proofs.ClauseLemmas.{listed-push}

-- what passes neither of two tests
passes_neither : (a b : Bool) (x : Transition) → filter (λ u. not a) (cond b [] (x ∷ []))
    ≡ cond (a || b) [] (x ∷ [])
passes_neither true true x = refl
passes_neither true false x = refl
passes_neither false true x = refl
passes_neither false false x = refl

tested_alone : (p : Transition → Bool) (b : Bool) (x : Transition)
    → filter (λ u. not (p u)) (cond b [] (x ∷ [])) ≡ filter (λ u. not (p x)) (cond b [] (x ∷ []))
tested_alone p true x = refl
tested_alone p false x = refl

firsts_of-push : (ts : List Transition) (x : Transition) → firsts_of (ts ++ x ∷ [])
    ≡ firsts_of ts ++ cond (list_any (λ t. are_parallel t x) ts) [] (x ∷ [])
firsts_of-push [] x = refl
firsts_of-push (t ∷ ts) x =
    let seen = list_any (λ u. are_parallel u x) ts in
    let other = λ (u : Transition). not (are_parallel t u) in
    rw (firsts_of-push ts x, filter-append other (firsts_of ts) (cond seen [] (x ∷ [])))
    (ap (λ (l : List Transition). t ∷ (filter other (firsts_of ts) ++ l))
    (tested_alone (are_parallel t) seen x ∙ passes_neither (are_parallel t x) seen x))

module _ (f : Transition → List ℕ) (ts : List Transition) (i : ℕ) (d : Transition)
    (within : i < length ts) where
  abbrev is_drawn : Bool
  is_drawn = list_any (λ t. are_parallel t (get_or ts i d)) (take i ts)

  firsts_more : firsts_of (take (i + 1) ts)
      ≡ firsts_of (take i ts) ++ cond is_drawn [] (get_or ts i d ∷ [])
  firsts_more = rw (take_more ts i d within) (firsts_of-push (take i ts) (get_or ts i d))

  -- a transition that is parallel to an earlier one adds no edge
  pub drawn_before : is_drawn ≡ true
      → flat_map f (firsts_of (take (i + 1) ts)) ≡ flat_map f (firsts_of (take i ts))
  drawn_before is = rw (firsts_more, is) (ap (flat_map f) (append-nil (firsts_of (take i ts))))

  -- and any other one adds its edge
  pub drawn_now : is_drawn ≡ false → (front : List ℕ)
      → front ++ flat_map f (firsts_of (take (i + 1) ts))
      ≡ (front ++ flat_map f (firsts_of (take i ts))) ++ f (get_or ts i d)
  drawn_now is front = rw (
    firsts_more,
    is,
    flat_map-append f (firsts_of (take i ts)) (get_or ts i d ∷ []),
    append-nil (f (get_or ts i d)),
    append_assoc front (flat_map f (firsts_of (take i ts))) (f (get_or ts i d)),
  ) refl

module _ (p : Transition → Bool) (ts : List Transition) (i : ℕ) (d : Transition)
    (within : i < length ts) where
  -- the next one isn't on the edge
  pub left_out : p (get_or ts i d) ≡ false → filter p (take (i + 1) ts) ≡ filter p (take i ts)
  left_out is = rw (filter_more p ts i d within, is) (append-nil (filter p (take i ts)))

  -- or it is, below the others
  pub set_below : p (get_or ts i d) ≡ true → (mark : List ℕ) (f : Transition → List ℕ)
      (front : List ℕ) → front ++ listed [] mark f (filter p (take (i + 1) ts))
      ≡ ((front ++ listed [] mark f (filter p (take i ts)))
      ++ cond (eqb (length (filter p (take i ts))) 0) [] mark) ++ f (get_or ts i d)
  set_below is mark f front =
      let so_far = filter p (take i ts) in
      let before = listed [] mark f so_far in
      let word = cond (eqb (length so_far) 0) [] mark in
      rw (
        filter_more p ts i d within,
        is,
        listed-push [] mark f so_far (get_or ts i d),
        append_assoc (front ++ before) word (f (get_or ts i d)),
        append_assoc front before (word ++ f (get_or ts i d)),
      ) refl

-- whether one of those on an edge passes a test
pub list_any-filter : (p q : Transition → Bool) (ts : List Transition)
    → list_any q (filter p ts) ≡ list_any (λ t. p t && q t) ts
list_any-filter p q [] = refl
list_any-filter p q (t ∷ ts) =
    let both = λ (u : Transition). p u && q u in
    elim (p t) as (λ a. list_any q (cond a (t ∷ filter p ts) (filter p ts))
    ≡ ((a && q t) || list_any both ts)) [
      | true ↦ ap (λ (b : Bool). q t || b) (list_any-filter p q ts)
      | false ↦ list_any-filter p q ts
    ]

module _ (p q : Transition → Bool) where
  none_step : (w : Transition) (ws : List Transition)
      → ((v : Transition) → q v ≡ true → p v ≡ false) → filter p (filter q ws) ≡ []
      → (b : Bool) → q w ≡ b → filter p (cond b (w ∷ filter q ws) (filter q ws)) ≡ []
  none_step w ws apart rest true is = rw (apart w is) rest
  none_step w ws apart rest false is = rest

  -- of what passes one test, nothing passes another one
  none_left : ((v : Transition) → q v ≡ true → p v ≡ false) → (ws : List Transition)
      → filter p (filter q ws) ≡ []
  none_left apart [] = refl
  none_left apart (w ∷ ws) = none_step w ws apart (none_left apart ws) (q w) refl

  all_step : (w : Transition) (ws : List Transition)
      → ((v : Transition) → q v ≡ false → p v ≡ false)
      → filter p (filter q ws) ≡ filter p ws → (b : Bool) → q w ≡ b
      → filter p (cond b (w ∷ filter q ws) (filter q ws))
      ≡ cond (p w) (w ∷ filter p ws) (filter p ws)
  all_step w ws within rest true is = ap (λ (l : List Transition). cond (p w) (w ∷ l) l) rest
  all_step w ws within rest false is = rw (within w is) rest

  -- or all that passes it
  all_left : ((v : Transition) → q v ≡ false → p v ≡ false) → (ws : List Transition)
      → filter p (filter q ws) ≡ filter p ws
  all_left within [] = refl
  all_left within (w ∷ ws) = all_step w ws within (all_left within ws) (q w) refl

-- to be parallel is an equivalence
same_as_itself : (t : Transition) → are_parallel t t ≡ true
same_as_itself t = grind (arith, nat_tests)

parallel_too : (t u w : Transition) → are_parallel t u ≡ true → not (are_parallel t w) ≡ true
    → are_parallel u w ≡ false
parallel_too t u w first second = grind (arith, nat_tests)

not_parallel_too : (t u w : Transition) → are_parallel t u ≡ false → not (are_parallel t w) ≡ false
    → are_parallel u w ≡ false
not_parallel_too t u w first second = grind (arith, nat_tests)

-- those that aren't parallel to one
abbrev other_ends : Transition → List Transition → List Transition
other_ends t us = filter (λ u. not (are_parallel t u)) us

-- for each of the second ones those of the first ones that are parallel to it
abbrev drawn_of : List Transition → List Transition → List Transition
drawn_of ws us = flat_map (λ u. filter (are_parallel u) ws) us

others_step : (t u : Transition) (ws us : List Transition)
    → drawn_of (other_ends t ws) us ≡ drawn_of ws (other_ends t us)
    → (b : Bool) → are_parallel t u ≡ b
    → filter (are_parallel u) (other_ends t ws) ++ drawn_of (other_ends t ws) us
    ≡ drawn_of ws (cond (not b) (u ∷ other_ends t us) (other_ends t us))
others_step t u ws us rest true is = rw (none_left (are_parallel u) (λ w. not (are_parallel t w))
    (λ w. parallel_too t u w is) ws) rest
others_step t u ws us rest false is = rw (
  all_left (are_parallel u) (λ w. not (are_parallel t w)) (λ w. not_parallel_too t u w is) ws,
  rest,
) refl

-- those that aren't parallel to t stand on the edges of the firsts that aren't
drawn_others : (t : Transition) (ws us : List Transition)
    → drawn_of (other_ends t ws) us ≡ drawn_of ws (other_ends t us)
drawn_others t ws [] = refl
drawn_others t ws (u ∷ us) =
    others_step t u ws us (drawn_others t ws us) (are_parallel t u) refl

-- whether each of these is parallel to one of those
abbrev is_seen : List Transition → Transition → Bool
is_seen ts w = list_any (λ t. are_parallel t w) ts

abbrev are_seen : List Transition → List Transition → Bool
are_seen ts ws = list_all (is_seen ts) ws

both-true : (a b : Bool) → (a && b) ≡ true → (a ≡ true) × (b ≡ true)
both-true a b both = (grind (arith, both), grind (arith, both))

either-true : (a b : Bool) → b ≡ true → (a || b) ≡ true
either-true a b is = grind (arith, is)

seen_of_others : (t w : Transition) (ts ws : List Transition) → is_seen (t ∷ ts) w ≡ true
    → are_seen ts (other_ends t ws) ≡ true → (b : Bool) → are_parallel t w ≡ b
    → are_seen ts (cond (not b) (w ∷ other_ends t ws) (other_ends t ws)) ≡ true
seen_of_others t w ts ws seen rest true is = rest
seen_of_others t w ts ws seen rest false is = rw (rw is at seen, rest) refl

others_seen : (t : Transition) (ts ws : List Transition) → are_seen (t ∷ ts) ws ≡ true
    → are_seen ts (other_ends t ws) ≡ true
others_seen t ts [] seen = refl
others_seen t ts (w ∷ ws) seen =
    let both = both-true (is_seen (t ∷ ts) w) (are_seen (t ∷ ts) ws) seen in
    seen_of_others t w ts ws both.0 (others_seen t ts ws both.1) (are_parallel t w) refl

seen_more : (t : Transition) (ts ws : List Transition) → are_seen ts ws ≡ true
    → are_seen (t ∷ ts) ws ≡ true
seen_more t ts [] seen = refl
seen_more t ts (w ∷ ws) seen =
    let both = both-true (is_seen ts w) (are_seen ts ws) seen in
    rw (either-true (are_parallel t w) (is_seen ts w) both.0, seen_more t ts ws both.1) refl

each_seen : (ts : List Transition) → are_seen ts ts ≡ true
each_seen [] = refl
each_seen (t ∷ ts) = rw (same_as_itself t) (seen_more t ts ts (each_seen ts))

each_drawn : (ts ws : List Transition) → are_seen ts ws ≡ true
    → IsPermutation ws (drawn_of ws (firsts_of ts))
each_drawn [] [] seen = IsPermutation-refl []
each_drawn [] (w ∷ ws) seen = cc
each_drawn (t ∷ ts) ws seen =
    let near = filter (are_parallel t) ws in
    let far = other_ends t ws in
    let rest : IsPermutation far (drawn_of ws (other_ends t (firsts_of ts))) =
    rw (drawn_others t ws (firsts_of ts)) at (each_drawn ts far (others_seen t ts ws seen)) in
    IsPermutation-trans ws (near ++ far) (near ++ drawn_of ws (other_ends t (firsts_of ts)))
    (IsPermutation-filter_both (are_parallel t) (λ u. not (are_parallel t u)) (λ u. refl) ws)
    (IsPermutation-append_right near far (drawn_of ws (other_ends t (firsts_of ts))) rest)

pub transitions_stand_once : TransitionsStandOnce
transitions_stand_once k = each_drawn k.transitions k.transitions (each_seen k.transitions)

is_false : (a : Bool) → not a ≡ true → a ≡ false
is_false true is = cc
is_false false is = refl

firsts_differ : (ts : List Transition) → AllPairs (λ t u. are_parallel t u ≡ false) (firsts_of ts)
firsts_differ [] = λ i j d less within. absurd (omega arith)
firsts_differ (t ∷ ts) =
    let other = λ (u : Transition). not (are_parallel t u) in
    let passed = filter_passes other (firsts_of ts) in
    AllPairs-cons (λ u v. are_parallel u v ≡ false) t (filter other (firsts_of ts))
    (λ i d within. is_false _ (passed i d within))
    (AllPairs-filter (λ u v. are_parallel u v ≡ false) other (firsts_of ts) (firsts_differ ts))

pub edges_differ : EdgesDiffer
edges_differ k = firsts_differ k.transitions
