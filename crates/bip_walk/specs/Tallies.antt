-- Tallies: what many traces come to.
use Rattle.std.specs.Prelude.{◌+◌, ◌++◌, ◌==◌, ◌*◌, ◌≤◌, ◌∷◌, ◌≡◌, ◌↔◌, All, Bool, List, [], None}
use Rattle.std.specs.Prelude.{Option, Some, if◌then◌else◌, length, map, nat_lt, slice_index_or}
use Rattle.std.specs.Prelude.{true, ⊤, ℕ}
use Rattle.std.specs.List.{count_by, range_with_len, sum_by}
use Rattle.bip_model.specs.declared.grants.Grant.{Grant}
use Rattle.bip_model.specs.declared.parts.System.{System}
use Rattle.bip_replay.specs.Runs.{NothingMayRun, state_after}
use Rattle.bip_walk.specs.declared.tallies.FirstEnd.{FirstEnd}
use Rattle.bip_walk.specs.declared.tallies.GrantCount.{GrantCount}

-- what came of a seed: the grants of its trace, and whether nothing may run behind them
pub record Traced : Type 0 where
  pub seed : ℕ
  pub grants : List Grant
  pub is_stuck : Bool

-- whether nothing may run behind the grants of a trace
abbrev pub IsStuckAfter : System → List Grant → Bool → Type 0
IsStuckAfter m gs is_stuck = (is_stuck ≡ true) ↔ NothingMayRun m (state_after m gs)

-- each of a list came of its own seed: the first of this one, and each other one of the next seed
abbrev pub EachSeed : {X : Type 0} → (ℕ → X → Type 0) → ℕ → List X → Type 0
EachSeed came first [] = ⊤
EachSeed came first (x ∷ xs) = came first x × EachSeed came (first + 1) xs

-- a grant is of an interaction
abbrev pub is_of_inter : ℕ → Grant → Bool
is_of_inter a g = g.inter.0 == a

-- how many grants of an interaction a trace has, and whether it has one
abbrev pub grants_in : ℕ → Traced → ℕ
grants_in a t = count_by (is_of_inter a) t.grants

abbrev pub is_granted_in : ℕ → Traced → Bool
is_granted_in a t = nat_lt 0 (grants_in a t)

-- how often an interaction is granted: so many grants of it in all traces, which so many of them
-- have
abbrev pub count_in : List Traced → ℕ → GrantCount
count_in ts a =
    record { grants = sum_by (grants_in a) ts; traces = count_by (is_granted_in a) ts }

-- the first trace behind which nothing may run: its seed, and how many grants it has
abbrev pub first_stuck : List Traced → Option FirstEnd
first_stuck [] = None
first_stuck (t ∷ ts) =
    if t.is_stuck then Some (record { seed = t.seed; grants = length t.grants })
    else first_stuck ts

-- a tally: how many traces there are, how many grants they have, how often each interaction is
-- granted in them, behind how many nothing may run, and which of these is the first
pub record Tallied : Type 0 where
  pub traces : ℕ
  pub grants : ℕ
  pub counts : List GrantCount
  pub stuck : ℕ
  pub first : Option FirstEnd

-- the tally of traces, of so many interactions
abbrev pub tally_of : ℕ → List Traced → Tallied
tally_of n ts =
    record {
      traces = length ts;
      grants = sum_by (λ (t : Traced). length t.grants) ts;
      counts = map (count_in ts) (range_with_len 0 n);
      stuck = count_by (λ (t : Traced). t.is_stuck) ts;
      first = first_stuck ts;
    }

-- a tally joins that of further traces: of whatever traces the two are, it is that of all
abbrev pub JoinsTallies : Tallied → Tallied → Tallied → Type 0
JoinsTallies old more new =
    (n : ℕ) (ts us : List Traced) → old ≡ tally_of n ts → more ≡ tally_of n us
    → new ≡ tally_of n (ts ++ us)

-- What contracts of private functions say.

-- a count of so many traces, each of which has fewer than 2^32 grants
pub record IsCountWithin (traces : ℕ) (count : GrantCount) : Type 0 where
  pub grants : count.grants ≤ traces * 4294967295
  pub few : count.traces ≤ traces

-- a tally of traces each of which has fewer than 2^32 grants
pub record IsTallyWithin (tally : Tallied) : Type 0 where
  pub grants : tally.grants ≤ tally.traces * 4294967295
  pub counts : All (IsCountWithin tally.traces) tally.counts
  pub stuck : tally.stuck ≤ tally.traces

-- the count of a trace with so many grants of an interaction
abbrev pub count_of_one : ℕ → GrantCount
count_of_one grants = record { grants = grants; traces = if nat_lt 0 grants then 1 else 0 }

-- two counts together
abbrev pub joined_count : GrantCount → GrantCount → GrantCount
joined_count x y = record { grants = x.grants + y.grants; traces = x.traces + y.traces }

-- the counts of two lists together, place by place
abbrev pub joined_at : List GrantCount → List GrantCount → ℕ → GrantCount
joined_at xs ys k =
    joined_count (slice_index_or xs k (count_of_one 0)) (slice_index_or ys k (count_of_one 0))

abbrev pub joined_counts : List GrantCount → List GrantCount → List GrantCount
joined_counts xs ys = map (joined_at xs ys) (range_with_len 0 (length xs))
