-- Tallies: of one trace, and of further ones joined to others.
use Rattle.std.proofs.Common.{◌≡◌, ◌∙◌, ◌+◌, ◌<◌, ◌≤◌, ◌++◌, ◌∷◌, ℕ, Bool, List, [], None, Option}
use Rattle.std.proofs.Common.{Some, ap, arith, cond, false, get_or, length, map, nat_lt, refl, sym}
use Rattle.std.proofs.Common.{true}
use Rattle.std.specs.List.{count_by, range_with_len, sum_by}
use mir.Val.{bool_byte}
use Rattle.std.specs.Bool.{then_some}
use Rattle.std.specs.Option.{option_or}
use Rattle.std.specs.Prelude.{All}
use Rattle.std.proofs.lemmas.List.{length-append}
use Rattle.std.proofs.lemmas.List.Elements.{All-from_get_or, All-get_or, All-map}
use Rattle.std.proofs.lemmas.List.FromFn.{fill_by_all, get_or-map-range_with_len}
use Rattle.std.proofs.lemmas.List.FromFn.{length-map-range_with_len}
use Rattle.std.proofs.lemmas.List.Sums.{count_by-le-length, sum_by-append, sum_by-cons}
use Rattle.bip_model.specs.declared.grants.Grant.{Grant}
use Rattle.bip_walk.specs.Tallies.{IsCountWithin, JoinsTallies, Tallied, Traced, count_in}
use Rattle.bip_walk.specs.Tallies.{count_of_one}
use Rattle.bip_walk.specs.Tallies.{first_stuck, is_granted_in, is_of_inter, grants_in, joined_at}
use Rattle.bip_walk.specs.Tallies.{joined_count, joined_counts, tally_of}
use Rattle.bip_walk.specs.declared.tallies.FirstEnd.{FirstEnd}
use Rattle.bip_walk.specs.declared.tallies.GrantCount.{GrantCount}

-- counts that are made of a function of the interaction's number are those of another that agrees
same_counts : (f g : ℕ → GrantCount) (n : ℕ) → ((a : ℕ) → f a ≡ g a)
    → map f (range_with_len 0 n) ≡ map g (range_with_len 0 n)
same_counts f g n same =
    fill_by_all g (map f (range_with_len 0 n)) n (count_of_one 0)
    (length-map-range_with_len f 0 n)
    (λ k within. get_or-map-range_with_len f 0 n k k (count_of_one 0) within
    (omega arith) ∙ same k)

-- a sum over one trace
one_sum : (f : Traced → ℕ) (t : Traced) → sum_by f (t ∷ []) ≡ f t
one_sum f t = omega (arith, sum_by-cons f t [])

-- the counts of one trace, and of none
pub counts_of_trace : (n : ℕ) (t : Traced)
    → map (λ a. count_of_one (count_by (is_of_inter a) t.grants)) (range_with_len 0 n)
    ≡ map (count_in (t ∷ [])) (range_with_len 0 n)
counts_of_trace n t =
    same_counts (λ a. count_of_one (count_by (is_of_inter a) t.grants)) (count_in (t ∷ [])) n
    (λ a. rw (
      one_sum (grants_in a) t,
      one_sum (λ u. cond (is_granted_in a u) 1 0) t,
    ) refl)

pub counts_of_none : (n : ℕ)
    → map (λ a. count_of_one (count_by (is_of_inter a) [])) (range_with_len 0 n)
    ≡ map (count_in []) (range_with_len 0 n)
counts_of_none n =
    same_counts (λ a. count_of_one (count_by (is_of_inter a) [])) (count_in []) n (λ a. refl)

-- the counts of two lists of traces together
count_joined : (ts us : List Traced) (a : ℕ)
    → joined_count (count_in ts a) (count_in us a) ≡ count_in (ts ++ us) a
count_joined ts us a =
    rw (
      sum_by-append (grants_in a) ts us,
      sum_by-append (λ t. cond (is_granted_in a t) 1 0) ts us,
    ) refl

module _ (n : ℕ) (ts us : List Traced) where
  abbrev xs : List GrantCount
  xs = map (count_in ts) (range_with_len 0 n)

  abbrev ys : List GrantCount
  ys = map (count_in us) (range_with_len 0 n)

  each : length xs ≡ n
  each = length-map-range_with_len (count_in ts) 0 n

  at : (k : ℕ) → k < n → joined_at xs ys k ≡ count_in (ts ++ us) k
  at k within =
      rw (
        get_or-map-range_with_len (count_in ts) 0 n k k (count_of_one 0) within (omega arith),
        get_or-map-range_with_len (count_in us) 0 n k k (count_of_one 0) within (omega arith),
      ) (count_joined ts us k)

  pub counts_joined : joined_counts xs ys ≡ map (count_in (ts ++ us)) (range_with_len 0 n)
  counts_joined =
      fill_by_all (count_in (ts ++ us)) (joined_counts xs ys) n (count_of_one 0)
      (length-map-range_with_len (joined_at xs ys) 0 (length xs) ∙ each)
      (λ k within. get_or-map-range_with_len (joined_at xs ys) 0 (length xs) k k (count_of_one 0)
      (rw each within) (omega arith) ∙ at k within)

-- the first of two lists
abbrev end_of_trace : Traced → FirstEnd
end_of_trace t = record { seed = t.seed; grants = length t.grants }

pub first_joined : (ts us : List Traced)
    → option_or (first_stuck ts) (first_stuck us) ≡ first_stuck (ts ++ us)
first_joined [] us = refl
first_joined (t ∷ ts) us = by_end t.is_stuck (first_joined ts us)
  where
    by_end : (stuck : Bool) → option_or (first_stuck ts) (first_stuck us) ≡ first_stuck (ts ++ us)
        → option_or (cond stuck (Some (end_of_trace t)) (first_stuck ts)) (first_stuck us)
        ≡ cond stuck (Some (end_of_trace t)) (first_stuck (ts ++ us))
    by_end true rest = refl
    by_end false rest = rest

-- tallies with the same parts are one
abbrev tallied : ℕ → ℕ → List GrantCount → ℕ → Option FirstEnd → Tallied
tallied traces grants counts stuck first = record {
  traces = traces;
  grants = grants;
  counts = counts;
  stuck = stuck;
  first = first;
}

one_tally : (y z : Tallied) → y.traces ≡ z.traces → y.grants ≡ z.grants → y.counts ≡ z.counts
    → y.stuck ≡ z.stuck → y.first ≡ z.first → y ≡ z
one_tally y z traces grants counts stuck first =
    ap (λ n. tallied n y.grants y.counts y.stuck y.first) traces
    ∙ (ap (λ n. tallied z.traces n y.counts y.stuck y.first) grants
    ∙ (ap (λ (l : List GrantCount). tallied z.traces z.grants l y.stuck y.first) counts
    ∙ (ap (λ n. tallied z.traces z.grants z.counts n y.first) stuck
    ∙ ap (tallied z.traces z.grants z.counts z.stuck) first)))

-- tallies together are the tally of both lists
pub tally_joined : (x y z : Tallied) → z.traces ≡ x.traces + y.traces
    → z.grants ≡ x.grants + y.grants → z.counts ≡ joined_counts x.counts y.counts
    → z.stuck ≡ x.stuck + y.stuck → z.first ≡ option_or x.first y.first → JoinsTallies x y z
tally_joined x y z traces grants counts stuck first n ts us one other =
    let count = λ (t : Traced). length t.grants in
    let sum : z.grants ≡ sum_by count (ts ++ us) = grants
    ∙ rw (one, other) (sym (sum_by-append count ts us)) in
    let is_stuck = λ (t : Traced). cond t.is_stuck 1 0 in
    let all : z.traces ≡ length (ts ++ us) = traces ∙ rw (one, other) (sym (length-append ts us)) in
    let each : z.counts ≡ map (count_in (ts ++ us)) (range_with_len 0 n) = counts
    ∙ rw (one, other) (counts_joined n ts us) in
    let ends : z.stuck ≡ sum_by is_stuck (ts ++ us) = stuck
    ∙ rw (one, other) (sym (sum_by-append is_stuck ts us)) in
    let earliest : z.first ≡ first_stuck (ts ++ us) = first
    ∙ rw (one, other) (first_joined ts us) in
    one_tally z (tally_of n (ts ++ us)) all sum each ends earliest

-- the tally of one trace, and of none
pub tally_of_one : (n : ℕ) (t : Traced) (z : Tallied) → z.traces ≡ 1
    → z.grants ≡ length t.grants
    → z.counts ≡ map (λ a. count_of_one (count_by (is_of_inter a) t.grants)) (range_with_len 0 n)
    → z.stuck ≡ bool_byte t.is_stuck → z.first ≡ then_some t.is_stuck (end_of_trace t)
    → z ≡ tally_of n (t ∷ [])
tally_of_one n t z traces grants counts stuck first =
    let sum = grants ∙ sym (one_sum (λ u. length u.grants) t) in
    let each : z.counts ≡ map (count_in (t ∷ [])) (range_with_len 0 n) = counts
    ∙ counts_of_trace n t in
    let ends : z.stuck ≡ sum_by (λ (u : Traced). cond u.is_stuck 1 0) (t ∷ []) = stuck
    ∙ (by_byte t.is_stuck ∙ sym (one_sum (λ u. cond u.is_stuck 1 0) t)) in
    let earliest : z.first ≡ first_stuck (t ∷ []) = first ∙ by_end t.is_stuck in
    one_tally z (tally_of n (t ∷ [])) traces sum each ends earliest
  where
    by_byte : (b : Bool) → bool_byte b ≡ cond b 1 0
    by_byte true = refl
    by_byte false = refl

    by_end : (b : Bool)
        → then_some b (end_of_trace t) ≡ cond b (Some (end_of_trace t)) None
    by_end true = refl
    by_end false = refl

-- counts that are made of a function are within bounds where each is
within_each : (m n : ℕ) (f : ℕ → GrantCount) → ((a : ℕ) → IsCountWithin m (f a))
    → All (IsCountWithin m) (map f (range_with_len 0 n))
within_each m n f each =
    All-map (IsCountWithin m) f (range_with_len 0 n)
    (λ k d within. each (get_or (range_with_len 0 n) k d))

pub within_none : (n : ℕ) → All (IsCountWithin 0) (map (count_in []) (range_with_len 0 n))
within_none n = within_each 0 n (count_in [])
    (λ a. record { grants = omega arith; few = omega arith })

pub within_one : (n : ℕ) (gs : List Grant) → length gs < 4294967296
    → All (IsCountWithin 1)
    (map (λ a. count_of_one (count_by (is_of_inter a) gs)) (range_with_len 0 n))
within_one n gs few =
    within_each 1 n (λ a. count_of_one (count_by (is_of_inter a) gs))
    (λ a. record {
      grants = omega (arith, few, count_by-le-length (is_of_inter a) gs);
      few = at_most_one (nat_lt 0 (count_by (is_of_inter a) gs));
    })
  where
    at_most_one : (b : Bool) → cond b 1 0 ≤ 1
    at_most_one true = omega arith
    at_most_one false = omega arith

-- and those of two lists together are
pub within_joined : (n m : ℕ) (us vs : List GrantCount) → length us ≡ length vs
    → All (IsCountWithin n) us → All (IsCountWithin m) vs
    → All (IsCountWithin (n + m)) (joined_counts us vs)
within_joined n m us vs same one other =
    All-from_get_or (IsCountWithin (n + m)) (joined_counts us vs) (count_of_one 0)
    (λ k within.
    let inside : k < length us =
    rw (length-map-range_with_len (joined_at us vs) 0 (length us)) at within in
    let also : k < length vs = rw same at inside in
    let here = All-get_or (IsCountWithin n) us k (count_of_one 0) inside one in
    let there = All-get_or (IsCountWithin m) vs k (count_of_one 0) also other in
    rw (get_or-map-range_with_len (joined_at us vs) 0 (length us) k k (count_of_one 0) inside
    (omega arith))
    (record {
      grants = omega (arith, here.grants, there.grants);
      few = omega (arith, here.few, there.few);
    }))
