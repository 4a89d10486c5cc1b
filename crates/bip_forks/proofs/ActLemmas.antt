-- Forks do each step as a bank does.
use Rattle.std.proofs.Common.{◌≡◌, ◌≢◌, ℕ, zero, suc, ◌+◌, ◌<◌, ◌≤◌, Bool, true, false, cond}
use Rattle.std.proofs.Common.{get_or, length, map, set, List, [], ◌∷◌, Option, None, Some, Result}
use Rattle.std.proofs.Common.{Ok, Err, Contains, slice_get, ◌++◌, refl, sym, ap, ◌∙◌, subst, inl}
use Rattle.std.proofs.Common.{inr, arith}
use Rattle.std.specs.Prelude.{IfErr, IfOk, IsSome, OnErr, OnOk}
use Rattle.std.specs.declared.alloc.AllocError.{AllocError}
use Rattle.std.proofs.lemmas.List.{get_or_default, set-get_or}
use Rattle.bip_forks.specs.declared.sending.Sent.{Sent}
use Rattle.bip_partition.specs.Plans.{IsFit, Touches}
use Rattle.bip_model.specs.declared.messages.Request.{Request}
use Rattle.bip_model.specs.declared.grants.Grant.{Grant}
use Rattle.bip_model.proofs.ListLemmas.{Contains-head}
use Rattle.bip_forks.proofs.ViewLemmas.{machine_set, put_same}
use Rattle.bip_forks.proofs.HoldLemmas.{want_touches}
use Rattle.std.specs.List.{range_with_len}
use Rattle.std.specs.List.Sorted.{IsStrictlyIncreasing}
use Rattle.std.specs.Option.{option_map}
use Rattle.std.proofs.lemmas.Bool.{cases_lt, true≢false}
use Rattle.std.proofs.lemmas.Bool.Decides.{eqb_tells}
use Rattle.std.proofs.lemmas.List.{get_or_past, length-map}
use Rattle.std.proofs.lemmas.List.Elements.{All-from_get_or}
use Rattle.std.proofs.lemmas.List.FromFn.{get_or-map-range_with_len, length-map-range_with_len}
use Rattle.std.proofs.lemmas.Option.{get_or_from_slice_get, slice_get_within}
use Rattle.std.proofs.Math.Path.{fun_ext}
use Rattle.bip_model.proofs.HistoryLemmas.{greatest_used}
use Rattle.bip_model.specs.Wants.{moved_in}
use Rattle.bip_partition.proofs.TableLemmas.{reserved_known}
use Rattle.bip_partition.proofs.TouchLemmas.{touched_known}
use Rattle.bip_table.proofs.RowLemmas.{has_row-same}
use Rattle.bip_table.specs.Rows.{has_row, used_at}
use Rattle.bip_table.specs.declared.reservations.Decision.{Decision}
use Rattle.bip_table.specs.declared.rows.Row.{Row}
use Rattle.bip_bank.specs.Banks.{BankContent, CanWantMemory, DoesStep, IsActed, content_of}
use Rattle.bip_bank.specs.Banks.{used_above, with_request}
use Rattle.bip_bank.specs.declared.banks.Acted.{Acted}
use Rattle.bip_bank.specs.declared.banks.Acted.TheVariants.{Answered, Moved, Nothing}
use Rattle.bip_bank.specs.declared.banks.BankStep.{BankStep}
use Rattle.bip_bank.specs.declared.banks.BankStep.TheVariants.{Ask, Deliver, Pass, Serve}
use Rattle.bip_bank.specs.declared.banks.StationId.{StationId}
use Rattle.bip_forks.proofs.HoldLemmas.{grant_moves}
use Rattle.bip_forks.proofs.KeptLemmas.{StepsOn, apart_of, can_arrive, keeps_on, kept_set}
use Rattle.bip_forks.proofs.KeptLemmas.{parted_at, steps_ask, steps_deliver, steps_pass}
use Rattle.bip_forks.proofs.ServedLemmas.{has_all_forks, is_served, lies, lying_of, rewritten_at}
use Rattle.bip_forks.proofs.ServedLemmas.{written_rows}
use Rattle.bip_forks.proofs.SharingLemmas.{asked_oldest, each_of, forks_bank}
use Rattle.bip_forks.proofs.ViewLemmas.{in_place, waiting_at, with_parts}
use Rattle.bip_forks.specs.Kept.{AppliesTo, CanAnswer, CanArrive, CanLack, DoesHere, ForkParts}
use Rattle.bip_forks.specs.Kept.{IsForkOf, IsKeptForks, KeptForks, kept_forks, lying, machine_of}
use Rattle.bip_forks.specs.Kept.{net_of, no_station, sending_of, side_at, station_at, waiting_of}
use Rattle.bip_forks.specs.Laws.{content, sharing_of}
use Rattle.bip_bank.specs.Sharing.{forks}
use Rattle.bip_model.specs.Priorities.{inter}
use Rattle.bip_partition.specs.Plans.{IsReserved}
use Rattle.bip_forks.specs.Machines.{Applies, IsForkStep, AreForks, HasAll, IsListed, LyingFork}
use Rattle.bip_forks.specs.Machines.{Machine, grants_after, used_by_all, waiting_for}
use Rattle.bip_forks.proofs.StepLemmas.{taken_in}
use Rattle.bip_model.specs.Numbering.{put}
use Rattle.bip_forks.specs.Stations.{AllLie, IsServedHere, KeptStation, LiesHere, nothing_shared}
use Rattle.bip_forks.specs.Stations.{pair_of_stations, renumbered, rewritten, side_with}
use Rattle.bip_forks.specs.declared.shares.Fork.{Fork}
use Rattle.bip_forks.specs.declared.shares.Side.{Side}

-- a fork that was written is of its stations still
written_fork : (k : KeptForks) (s t : ℕ) (rows : List Row) (side : Side) (f : Fork)
    → ((g : Fork) → side.fork ≡ Some g → IsForkOf (net_of k) s t g)
    → (rewritten rows side).fork ≡ Some f → IsForkOf (net_of k) s t f
written_fork k s t rows side f of is = by_fork side.fork refl is
  where
    some_fork : {a b : Fork} → Some a ≡ Some b → a ≡ b
    some_fork e = cc

    by_fork : (o : Option Fork) → side.fork ≡ o
        → option_map (λ (g : Fork). record g { rows = map (renumbered rows) g.rows }) o ≡ Some f
        → IsForkOf (net_of k) s t f
    by_fork None was is' = cc
    by_fork (Some g) was is' =
        let old = of g was in
        subst (IsForkOf (net_of k) s t) (some_fork is') (record {
          pair = old.pair;
          rising = subst IsStrictlyIncreasing (sym (written_rows rows g.rows)) old.rising;
          rows = λ c. rw (has_row-same (map (renumbered rows) g.rows) g.rows c
              (written_rows rows g.rows)) (old.rows c);
        })

steps_serve : (k : KeptForks) (s : StationId) (q : Request) (d : Decision) (x : KeptStation)
    → IsKeptForks k → s.0 < length k.parts.stations
    → IsServedHere (station_at k.parts.stations s.0) q d x → IsListed k.parts.grants d
    → StepsOn k (Serve s) (Answered q d) (with_parts k (set k.parts.stations s.0 x) k.parts.flight
    (grants_after k.parts.grants q d))
steps_serve k s q d x is within here listed =
    keeps_on k _ (Serve s) (Answered q d) is (is_served k s.0 q d x k.parts.flight is within
    (apart_of k is) here listed refl)
    (kept_set k s.0 x k.parts.flight (grants_after k.parts.grants q d) is within
    (ap (λ (y : KeptStation). y.inter) here.after)
    (ap (λ (y : KeptStation). y.number) here.after) here.answer.tabled
    (λ t. ap (λ (side : Side). side.shared) (sides t))
    (λ t f lies'. written_fork k s.0 t x.table.rows (side_at k.parts.stations s.0 t) f
    (λ g. is.forks s.0 t g) (ap (λ (side : Side). side.fork) (sym (sides t)) ∙ lies')) is.sent)
  where
    sides : (t : ℕ) → side_with x t ≡ rewritten x.table.rows (side_at k.parts.stations s.0 t)
    sides t = ap (λ (y : KeptStation). side_with y t) here.after
        ∙ rewritten_at x.table.rows (station_at k.parts.stations s.0).sides t

-- where no step applies to what is kept, none does to the machine
some_lies : (side : Side) (g : LyingFork) → lying side ≡ Some g → IsSome side.fork
some_lies side g is = let f = lies side g is in rw f.1 refl

pub all_lie : (k : KeptForks) (s : ℕ) → IsKeptForks k → HasAll (net_of k) (machine_of k).forks s
    → AllLie (station_at k.parts.stations s).sides
all_lie k s is complete = All-from_get_or LiesHere
    (station_at k.parts.stations s).sides nothing_shared (λ t within shared.
    let fork = complete t ((is.machine.net.share s t).0 shared) in
    some_lies (side_at k.parts.stations s t) fork.0 fork.1)

not_away : (side : Side) → lying side ≡ None → side.fork ≡ None
not_away side none = by_fork side.fork refl
  where
    by_fork : (o : Option Fork) → side.fork ≡ o → side.fork ≡ None
    by_fork None was = was
    by_fork (Some f) was = none_some (sym none ∙ lying_of side f was)
      where
        none_some : {A : Type 0} {g : LyingFork} → None ≡ Some g → A
        none_some e = cc

not_applies : (k : KeptForks) (step : BankStep) → IsKeptForks k → (AppliesTo k.parts step → ⊥)
    → Applies (machine_of k) step → ⊥
not_applies k (Deliver n) is not applies = not
    (omega (arith, applies, length-map k.parts.flight sending_of))
not_applies k (Serve s) is not applies = not (
  applies.station,
  (
    all_lie k s.0 is applies.complete,
    (
      applies.request,
      applies.rest,
      sym (waiting_at k.parts.stations s.0 applies.station (apart_of k is)) ∙ applies.oldest,
    ),
  ),
)
not_applies k (Pass s t) is not applies =
    let f = lies (side_at k.parts.stations s.0 t.0) applies.0 applies.2 in
    not (applies.1, ap (λ (g : LyingFork). g.clean) (sym f.2) ∙ applies.3, (f.0, f.1))
not_applies k (Ask s t) is not applies =
    let places = in_place k.parts.stations s.0 t.0 (λ (side : Side). side.asked) refl applies.1 in
    not (
      (
        applies.0.0,
        applies.0.1,
        sym (waiting_at k.parts.stations s.0 places.0
            (apart_of k is)) ∙ applies.0.2,
      ),
      (
        applies.1,
        not_away (side_at k.parts.stations s.0 t.0) applies.2,
      ),
    )

steps_nothing : (k : KeptForks) (p : ForkParts) (step : BankStep) → IsKeptForks k → (p ≡ k.parts)
    × (AppliesTo k.parts step → ⊥) → StepsOn k step Nothing (record k { parts = p })
steps_nothing k p step is (same, not) = subst (λ (r : ForkParts). StepsOn k step Nothing
    (record k { parts = r })) (sym same) (record {
      does = (not_applies k step is not, refl);
      kept = is;
    })

-- any step
abbrev pub with_all : KeptForks → ForkParts → KeptForks
with_all k p = record k { parts = p }

steps_on : (k : KeptForks) (p : ForkParts) (step : BankStep) (did : Acted) → IsKeptForks k
    → DoesHere k.parts step did p → StepsOn k step did (with_all k p)
steps_on k p (Deliver n) Nothing is does = steps_nothing k p (Deliver n) is does
steps_on k p (Serve s) Nothing is does = steps_nothing k p (Serve s) is does
steps_on k p (Pass s t) Nothing is does = steps_nothing k p (Pass s t) is does
steps_on k p (Ask s t) Nothing is does = steps_nothing k p (Ask s t) is does
steps_on k p (Deliver n) Moved is (x, at, after) =
    subst (λ (r : ForkParts). StepsOn k (Deliver n) Moved (with_all k r)) (sym after)
    (steps_deliver k n x is at)
steps_on k p (Serve s) Moved is does = absurd does
steps_on k p (Pass s t) Moved is (fork, may, lies', after) =
    subst (λ (r : ForkParts). StepsOn k (Pass s t) Moved (with_all k r)) (sym after)
    (steps_pass k s t fork is may lies')
steps_on k p (Ask s t) Moved is (token, may, pair, after) =
    subst (λ (r : ForkParts). StepsOn k (Ask s t) Moved (with_all k r)) (sym after)
    (steps_ask k s t token is may pair)
steps_on k p (Deliver n) (Answered q d) is does = absurd does
steps_on k p (Serve s) (Answered q d) is (x, within, here, listed, after) =
    subst (λ (r : ForkParts). StepsOn k (Serve s) (Answered q d) (with_all k r)) (sym after)
    (steps_serve k s q d x is within here listed)
steps_on k p (Pass s t) (Answered q d) is does = absurd does
steps_on k p (Ask s t) (Answered q d) is does = absurd does

abbrev rows_from : (ℕ → ℕ) → ℕ → ℕ → List Row
rows_from f a n = map (λ (c : ℕ). record { used = f c; comp = record { 0 = c } })
    (range_with_len a n)

-- the used numbers and the open requests, as rows and lists say them
rows_read : (f : ℕ → ℕ) (a n c : ℕ) → (has_row (rows_from f a n) c ≡ true
    → used_at (rows_from f a n) c ≡ f c) × (a ≤ c → c < a + n → has_row (rows_from f a n) c ≡ true)
rows_read f a zero c = (λ row. cc, λ above below. absurd (omega arith))
rows_read f a (suc n) c = elim (eqb_tells a c) [
  | inl same ↦ (λ row. rw (same.0, same.1) refl, λ above below. rw same.0 refl)
  | inr other ↦
      let rest = rows_read f (a + 1) n c in (
        λ row. rw other.0 (rest.0 (rw other.0 at row)),
        λ above below. rw other.0 (rest.1 (omega (arith, above, other.1)) (omega (arith, below))),
      )
]

used_beyond : (k : KeptForks) (c : ℕ) → IsKeptForks k → length k.plan.model.components ≤ c
    → used_by_all (net_of k) k.parts.grants c ≡ k.base
used_beyond k c is beyond =
    let greatest = greatest_used (λ d. k.base) k.parts.grants c in
    elim greatest.reached [
      | inl first ↦ first
      | inr by ↦ elim (cases_lt 0 (moved_in by.0.wants c)) [
        | inl some ↦ absurd (omega (
          arith,
          beyond,
          touched_known k.plan.model by.0.inter.0 c is.valid
              (inl (grant_moves k.plan.model by.0.inter.0 by.0.wants c
              (is.machine.allowed by.0 by.1).parties some)),
        ))
        | inr none ↦ omega (arith, none, by.3, greatest.floor_within)
      ]
    ]

used_is : (k : KeptForks) → IsKeptForks k → used_above k.base (kept_forks k).rows ≡ used_by_all
    (net_of k) k.parts.grants
used_is k is = fun_ext (λ c. by_row c (has_row (kept_forks k).rows c) refl)
  where
    by_row : (c : ℕ) (b : Bool) → has_row (kept_forks k).rows c ≡ b
        → cond b (used_at (kept_forks k).rows c) k.base ≡ used_by_all (net_of k) k.parts.grants c
    by_row c true row = (rows_read (used_by_all (net_of k) k.parts.grants) 0
        (length k.plan.model.components) c).0 row
    by_row c false none = elim (cases_lt c (length k.plan.model.components)) [
      | inl known ↦ absurd (true≢false (sym ((rows_read (used_by_all (net_of k) k.parts.grants) 0
          (length k.plan.model.components) c).1 (omega arith) (omega (arith, known))) ∙ none))
      | inr beyond ↦ sym (used_beyond k c is beyond)
    ]

-- a list of open requests of each interaction
none_waits : (stations : List KeptStation) (a : ℕ)
    → ((s : ℕ) → s < length stations → (station_at stations s).inter.0 ≢ a)
    → waiting_of stations a ≡ []
none_waits [] a other = refl
none_waits (x ∷ xs) a other = elim (eqb_tells x.inter.0 a) [
  | inl same ↦ absurd (other zero (omega arith) same.1)
  | inr apart ↦ rw apart.0 (none_waits xs a (λ s within. other (suc s) (omega (arith, within))))
]

waiting_is : (k : KeptForks) → IsKeptForks k → (λ a. get_or (kept_forks k).waiting a [])
    ≡ waiting_of k.parts.stations
waiting_is k is = fun_ext (λ a. elim (cases_lt a (length k.plan.model.interactions)) [
  | inl known ↦ get_or-map-range_with_len (waiting_of k.parts.stations) 0
      (length k.plan.model.interactions) a a [] known (omega arith)
  | inr beyond ↦
      get_or_past (kept_forks k).waiting a []
      (omega (
        arith,
        beyond,
        length-map-range_with_len (waiting_of k.parts.stations) 0 (length
            k.plan.model.interactions),
      ))
      ∙ sym (none_waits k.parts.stations a (λ s within same.
      omega (
        arith,
        beyond,
        same,
        reserved_known k.plan (station_at k.parts.stations
            s).inter.0 is.valid (reserved s within),
      )))
])
  where
    reserved : (s : ℕ) → s < length k.parts.stations
        → IsReserved k.plan (station_at k.parts.stations s).inter.0
    reserved s within = let of = is.machine.net.station s within in
        (of.listed.exact (station_at k.parts.stations s).inter.0).0 (
          s,
          slice_get_within of.stations s (inter (station_at k.parts.stations s).inter.0) of.here,
          get_or_from_slice_get of.stations s (inter (station_at k.parts.stations s).inter.0) _
              of.here,
        )

abbrev content_by : KeptForks → (ℕ → ℕ) → (ℕ → List Request) → BankContent
content_by j u w = record {
  plan = j.plan;
  base = j.base;
  used = u;
  grants = j.parts.grants;
  waiting = w;
  sharing = forks (sharing_of (machine_of j));
}

pub content_is : (k : KeptForks) → IsKeptForks k
    → content_of (kept_forks k) ≡ content (machine_of k)
content_is k is = same_content k (used_is k is) (waiting_is k is)
  where
    same_content : (j : KeptForks) {u v : ℕ → ℕ} {w y : ℕ → List Request} → u ≡ v → w ≡ y
        → content_by j u w ≡ content_by j v y
    same_content j a b = rw (a, b) refl

abbrev machine_but : KeptForks → (ℕ → ℕ → Option LyingFork) → (ℕ → ℕ → Bool) → (ℕ → ℕ → ℕ) → (ℕ → ℕ)
    → (ℕ → List Request) → Machine
machine_but k f t m i w = record (machine_of k) {
  forks = f;
  tokens = t;
  used = m;
  serial = i;
  waiting = w;
}

abbrev parts_by : List KeptStation → List Sent → List Grant → ForkParts
parts_by x y z = record { stations = x; flight = y; grants = z }

same_parts : (p r : ForkParts) → p.stations ≡ r.stations → p.flight ≡ r.flight → p.grants ≡ r.grants
    → p ≡ r
same_parts p r a b c = by_parts a b c
  where
    by_parts : {x x' : List KeptStation} {y y' : List Sent} {z z' : List Grant} → x ≡ x' → y ≡ y'
        → z ≡ z' → parts_by x y z ≡ parts_by x' y' z'
    by_parts d e f = rw (d, e, f) refl

-- a step of what is kept, in the bank's words
pub record ActsOn (k : KeptForks) (step : BankStep) (did : Acted) (later : KeptForks) : Type 0 where
  pub kept : IsKeptForks later
  pub does : DoesStep (content_of (kept_forks k)) step did (content_of (kept_forks later))
  pub acted : IsActed did (content_of (kept_forks k)) (content_of (kept_forks later))

acts_on : (k : KeptForks) (p : ForkParts) (step : BankStep) (did : Acted) → IsKeptForks k
    → DoesHere k.parts step did p → ActsOn k step did (with_all k p)
acts_on k p step did is does =
    let steps = steps_on k p step did is does in
    let bank = forks_bank (machine_of k) (machine_of (with_all k p)) step did is.machine
    steps.does in
    record {
      kept = steps.kept;
      does = subst (λ (b : BankContent). DoesStep b step did
          (content_of (kept_forks (with_all k p)))) (sym (content_is k is))
          (subst (DoesStep (content (machine_of k)) step did)
          (sym (content_is (with_all k p) steps.kept)) bank.0);
      acted = subst (λ (b : BankContent). IsActed did b (content_of (kept_forks (with_all k p))))
          (sym (content_is k is)) (subst (IsActed did (content (machine_of k)))
          (sym (content_is (with_all k p) steps.kept)) bank.1);
    }

-- where memory is wanted
wants_in : (k : KeptForks) (step : BankStep) → IsKeptForks k → CanLack k.parts step
    → CanWantMemory (content (machine_of k)) step
wants_in k (Serve s) is (within, ready) = (
  each_of (machine_of k) s.0 is.machine (has_all_forks k s.0 is ready.0),
  asked_oldest (machine_of k) s.0 is.machine within
      (ready.1.0, ready.1.1, waiting_at k.parts.stations s.0 within (apart_of k is) ∙ ready.1.2),
)
wants_in k (Deliver n) is lacks = absurd lacks
wants_in k (Pass s t) is may =
    let step = steps_pass k s t may.2.0 is may may.2.1 in
    (_, (forks_bank (machine_of k) _ (Pass s t) Moved is.machine step.does).0)
wants_in k (Ask s t) is may =
    let step = steps_ask k s t (record {
      pair = pair_of_stations (station_at k.parts.stations
          s.0).number t;
    }) is may refl in
    (_, (forks_bank (machine_of k) _ (Ask s t) Moved is.machine step.does).0)

pub wants_as : (k : KeptForks) (step : BankStep) → IsKeptForks k → CanLack k.parts step
    → CanWantMemory (content_of (kept_forks k)) step
wants_as k step is lacks = subst (λ (b : BankContent). CanWantMemory b step) (sym (content_is k is))
    (wants_in k step is lacks)

-- each station can decide on its oldest open request
pub can_answer : (k : KeptForks) → IsKeptForks k → CanAnswer k.parts.stations k.parts.grants
can_answer k is = record {
  rows = λ s q rest within oldest c wanted.
      let open' = is.machine.fit (station_at k.parts.stations s).inter.0 q
      (subst (λ (qs : List Request). Contains qs q)
      (sym (waiting_at k.parts.stations s within (apart_of k is) ∙ oldest))
      (Contains-head q rest)) in
      let touches = want_touches k.plan.model q.inter.0 q.wants c open'.0.parties wanted in
      (is.rows s c within).1 (subst (λ (a : ℕ). Touches k.plan.model a c) open'.1 touches);
  serials = is.machine.counted;
}

pub may_arrive : (k : KeptForks) → IsKeptForks k → (n : ℕ) (x : Sent)
    → slice_get k.parts.flight n ≡ Some x → CanArrive k.parts.stations x
may_arrive k is n x at = can_arrive k is x (parted_at k.parts.flight n x at).2

-- what any step leaves, with or without memory
pub acted_kept : (k : KeptForks) (p : ForkParts) (step : BankStep) (r : Result Acted AllocError)
    → IsKeptForks k → IfOk r (λ did. DoesHere k.parts step did p)
    → OnErr r (p.stations ≡ k.parts.stations) → OnErr r (p.flight ≡ k.parts.flight)
    → OnErr r (p.grants ≡ k.parts.grants) → IsKeptForks (with_all k p)
acted_kept k p step (Ok did) is does a b c = (acts_on k p step did is does).kept
acted_kept k p step (Err e) is does a b c = subst (λ (r : ForkParts). IsKeptForks (with_all k r))
    (sym (same_parts p k.parts a b c)) is

pub acted_does : (k : KeptForks) (p : ForkParts) (step : BankStep) (r : Result Acted AllocError)
    → IsKeptForks k → IfOk r (λ did. DoesHere k.parts step did p)
    → IfOk r (λ did. DoesStep (content_of (kept_forks k)) step did
    (content_of (kept_forks (with_all k p))))
acted_does k p step (Ok did) is does = (acts_on k p step did is does).does
acted_does k p step (Err e) is does = tt

pub acted_is : (k : KeptForks) (p : ForkParts) (step : BankStep) (r : Result Acted AllocError)
    → IsKeptForks k → IfOk r (λ did. DoesHere k.parts step did p)
    → IfOk r (λ did. IsActed did (content_of (kept_forks k))
    (content_of (kept_forks (with_all k p))))
acted_is k p step (Ok did) is does = (acts_on k p step did is does).acted
acted_is k p step (Err e) is does = tt

pub acted_machine : (k : KeptForks) (p : ForkParts) (step : BankStep) (r : Result Acted AllocError)
    → IsKeptForks k → IfOk r (λ did. DoesHere k.parts step did p)
    → IfOk r (λ did. IsForkStep (machine_of k) step did (machine_of (with_all k p)))
acted_machine k p step (Ok did) is does = (steps_on k p step did is does).does
acted_machine k p step (Err e) is does = tt

pub acted_wants : (k : KeptForks) (step : BankStep) (r : Result Acted AllocError) → IsKeptForks k
    → IfErr r (λ e. CanLack k.parts step) → IfErr r
    (λ e. CanWantMemory (content_of (kept_forks k)) step)
acted_wants k step (Ok did) is wants = tt
acted_wants k step (Err e) is wants = wants_as k step is wants

pub acted_stays : (k : KeptForks) (p : ForkParts) (r : Result Acted AllocError)
    → OnErr r (p.stations ≡ k.parts.stations) → OnErr r (p.flight ≡ k.parts.flight)
    → OnErr r (p.grants ≡ k.parts.grants) → OnErr r
    (content_of (kept_forks (with_all k p)) ≡ content_of (kept_forks k))
acted_stays k p (Ok did) a b c = tt
acted_stays k p (Err e) a b c = ap (λ (r : ForkParts). content_of (kept_forks (with_all k r)))
    (same_parts p k.parts a b c)

pub acted_same : (k : KeptForks) (p : ForkParts) (r : Result Acted AllocError)
    → OnErr r (p.stations ≡ k.parts.stations) → OnErr r (p.flight ≡ k.parts.flight)
    → OnErr r (p.grants ≡ k.parts.grants) → OnErr r (with_all k p ≡ k)
acted_same k p (Ok did) a b c = tt
acted_same k p (Err e) a b c = ap (with_all k) (same_parts p k.parts a b c)

-- a request that is submitted
pub record TakesOn (k : KeptForks) (q : Request) (later : KeptForks) : Type 0 where
  pub kept : IsKeptForks later
  pub content : content_of (kept_forks later) ≡ with_request q (content_of (kept_forks k))
  pub machine : machine_of later ≡ waiting_for q (machine_of k)

pub takes_on : (k : KeptForks) (s : ℕ) (q : Request) → IsKeptForks k → IsFit k.plan q
    → s < length k.parts.stations → (station_at k.parts.stations s).inter.0 ≡ q.inter.0
    → TakesOn k q (with_parts k (set k.parts.stations s
    (record (station_at k.parts.stations s) {
      waiting = (station_at k.parts.stations s).waiting ++ q ∷ [];
    })) k.parts.flight
    k.parts.grants)
takes_on k s q is fits within same = record {
  kept = kept;
  content = content_is later kept ∙ (ap content machine
      ∙ ap (with_request q) (sym (content_is k is)));
  machine = machine;
}
  where
    later : KeptForks
    later = with_parts k (set k.parts.stations s
        (record (station_at k.parts.stations s) {
          waiting = (station_at k.parts.stations s).waiting ++ q ∷ [];
        })) k.parts.flight
        k.parts.grants

    with_four : (f g : ℕ → ℕ → Option LyingFork) (t u : ℕ → ℕ → Bool) (m n : ℕ → ℕ → ℕ)
        (i j : ℕ → ℕ) (v w : ℕ → List Request) → f ≡ g → t ≡ u → m ≡ n → i ≡ j → v ≡ w
        → machine_but k f t m i v ≡ machine_but k g u n j w
    with_four f g t u m n i j v w a b c d e = rw (a, b, c, d, e) refl

    open' : put (machine_of k).waiting (station_at k.parts.stations s).inter.0
        ((station_at k.parts.stations s).waiting ++ q ∷ []) ≡ put (machine_of k).waiting q.inter.0
        ((machine_of k).waiting q.inter.0 ++ q ∷ [])
    open' =
        ap (λ (qs : List Request). put (machine_of k).waiting
        (station_at k.parts.stations s).inter.0 (qs ++ q ∷ []))
        (sym (waiting_at k.parts.stations s within (apart_of k is)))
        ∙ ap (λ (a : ℕ). put (machine_of k).waiting a ((machine_of k).waiting a ++ q ∷ [])) same

    machine : machine_of later ≡ record (machine_of k) {
      waiting = put (machine_of k).waiting q.inter.0
          ((machine_of k).waiting q.inter.0 ++ q ∷ []);
    }
    machine =
        machine_set k s (record (station_at k.parts.stations s) {
          waiting = (station_at k.parts.stations s).waiting ++ q ∷ [];
        }) k.parts.flight
        k.parts.grants within refl (λ t. refl) (apart_of k is)
        ∙ with_four _ _ _ _ _ _ _ _ _ _ (put_same (machine_of k).forks s)
        (put_same (machine_of k).tokens s) (put_same (machine_of k).used s)
        (put_same (machine_of k).serial s) open'

    kept : IsKeptForks later
    kept = kept_set k s (record (station_at k.parts.stations s) {
      waiting = (station_at k.parts.stations s).waiting ++ q ∷ [];
    }) k.parts.flight k.parts.grants
        is within refl refl refl (λ t. refl) (λ t f lies'. is.forks s t f lies') is.sent
        (subst AreForks (sym machine) (taken_in (machine_of k) q is.machine fits))

-- the station of a request that fits
pub has_place : (k : KeptForks) (q : Request) → IsKeptForks k → IsFit k.plan q
    → ((s : ℕ) → s < length k.parts.stations → (station_at k.parts.stations s).inter.0 ≡ q.inter.0
    → ⊥) → ⊥
has_place k q is fits none = let at = is.machine.net.each q.inter.0 fits.reserved in
    none at.0 at.1 at.2

-- a request that is submitted, with or without memory
abbrev after_submit : KeptForks → ℕ → KeptStation → KeptForks
after_submit k s y = with_parts k (set k.parts.stations s y) k.parts.flight k.parts.grants

set_there : (k : KeptForks) (s : ℕ) (x y : KeptStation) → s < length k.parts.stations
    → x ≡ get_or k.parts.stations s x → y ≡ x → after_submit k s y ≡ k
set_there k s x y within at same = ap (λ (xs : List KeptStation). with_parts k xs k.parts.flight
    k.parts.grants) (ap (set k.parts.stations s) (same ∙ at) ∙ set-get_or k.parts.stations s x)

submitted_ok : (k : KeptForks) (s : ℕ) (q : Request) (x y : KeptStation) → IsKeptForks k
    → IsFit k.plan q → s < length k.parts.stations
    → (station_at k.parts.stations s).inter.0 ≡ q.inter.0 → x ≡ get_or k.parts.stations s x
    → y ≡ record x { waiting = x.waiting ++ q ∷ [] } → TakesOn k q (after_submit k s y)
submitted_ok k s q x y is fits within same at new =
    subst (λ (z : KeptStation). TakesOn k q (after_submit k s z))
    (sym (new ∙ ap (λ (z : KeptStation). record z { waiting = z.waiting ++ q ∷ [] })
    (at ∙ get_or_default k.parts.stations s x no_station within)))
    (takes_on k s q is fits within same)

pub submitted_kept : {A B : Type 0} (k : KeptForks) (s : ℕ) (q : Request) (x y : KeptStation)
    (r : Result A B) → IsKeptForks k → IsFit k.plan q → s < length k.parts.stations
    → (station_at k.parts.stations s).inter.0 ≡ q.inter.0 → x ≡ get_or k.parts.stations s x
    → OnOk r (y ≡ record x { waiting = x.waiting ++ q ∷ [] }) → OnErr r (y ≡ x)
    → IsKeptForks (after_submit k s y)
submitted_kept k s q x y (Ok u) is fits within same at ok err =
    (submitted_ok k s q x y is fits within same at ok).kept
submitted_kept k s q x y (Err e) is fits within same at ok err =
    subst IsKeptForks (sym (set_there k s x y within at err)) is

pub submitted_is : {A B : Type 0} (k : KeptForks) (s : ℕ) (q : Request) (x y : KeptStation)
    (r : Result A B) → IsKeptForks k → IsFit k.plan q → s < length k.parts.stations
    → (station_at k.parts.stations s).inter.0 ≡ q.inter.0 → x ≡ get_or k.parts.stations s x
    → OnOk r (y ≡ record x { waiting = x.waiting ++ q ∷ [] })
    → OnOk r (content_of (kept_forks (after_submit k s y)) ≡ with_request q
    (content_of (kept_forks k)))
submitted_is k s q x y (Ok u) is fits within same at ok =
    (submitted_ok k s q x y is fits within same at ok).content
submitted_is k s q x y (Err e) is fits within same at ok = tt

pub submitted_stays : {A B : Type 0} (k : KeptForks) (s : ℕ) (x y : KeptStation) (r : Result A B)
    → s < length k.parts.stations → x ≡ get_or k.parts.stations s x → OnErr r (y ≡ x)
    → OnErr r (content_of (kept_forks (after_submit k s y)) ≡ content_of (kept_forks k))
submitted_stays k s x y (Ok u) within at err = tt
submitted_stays k s x y (Err e) within at err =
    ap (λ (j : KeptForks). content_of (kept_forks j)) (set_there k s x y within at err)

pub submitted_machine : {A B : Type 0} (k : KeptForks) (s : ℕ) (q : Request) (x y : KeptStation)
    (r : Result A B) → IsKeptForks k → IsFit k.plan q → s < length k.parts.stations
    → (station_at k.parts.stations s).inter.0 ≡ q.inter.0 → x ≡ get_or k.parts.stations s x
    → OnOk r (y ≡ record x { waiting = x.waiting ++ q ∷ [] })
    → OnOk r (machine_of (after_submit k s y) ≡ waiting_for q (machine_of k))
submitted_machine k s q x y (Ok u) is fits within same at ok =
    (submitted_ok k s q x y is fits within same at ok).machine
submitted_machine k s q x y (Err e) is fits within same at ok = tt

pub submitted_same : {A B : Type 0} (k : KeptForks) (s : ℕ) (x y : KeptStation) (r : Result A B)
    → s < length k.parts.stations → x ≡ get_or k.parts.stations s x → OnErr r (y ≡ x)
    → OnErr r (after_submit k s y ≡ k)
submitted_same k s x y (Ok u) within at err = tt
submitted_same k s x y (Err e) within at err = set_there k s x y within at err

-- without grants all used numbers are the base
pub unused : (k : KeptForks) → IsKeptForks k → k.parts.grants ≡ []
    → used_above k.base (kept_forks k).rows ≡ (λ c. k.base)
unused k is none = used_is k is ∙ ap (λ (gs : List Grant). used_by_all (net_of k) gs) none
