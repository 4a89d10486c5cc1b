-- A ring: what serving a station and letting the token go leave of its content.
use Rattle.std.proofs.Common.{◌≡◌, ℕ, ◌<◌, ◌≤◌, ◌+◌, ◌*◌, ◌-◌, ◌/◌, ◌%◌, length, List, slice_get}
use Rattle.std.proofs.Common.{Some, Result}
use Rattle.std.proofs.Common.{None, Option, Ok, Err, refl, ap, ◌∙◌, arith, inl, inr, subst, sym}
use Rattle.std.proofs.Math.Nat.{div-add-mod}
use Rattle.std.proofs.lemmas.Bool.{cases_eq, cases_lt}
use Rattle.std.specs.Prelude.{IfErr, IfNone, IfOk, OnErr}
use Rattle.std.specs.declared.alloc.AllocError.{AllocError}
use Rattle.bip_model.specs.Numbering.{put}
use Rattle.bip_model.specs.declared.messages.Request.{Request}
use Rattle.bip_model.specs.declared.numbering.InterId.{InterId}
use Rattle.bip_partition.specs.Plans.{AreStations, Planned}
use Rattle.bip_table.specs.Reservations.{KeptRows}
use Rattle.bip_bank.specs.Decisions.Decision.TheVariants.{Granted, Refused}
use Rattle.bip_bank.specs.Decisions.Decision.{Decision}
use Rattle.bip_bank.proofs.CentralLemmas.{serves, served_steps}
use Rattle.bip_bank.proofs.CentralLemmas.{with_parts}
use Rattle.bip_bank.proofs.StepLemmas.{ask_at, pass_at, serve_at}
use Rattle.bip_bank.specs.Banks.{BankContent, CanDecide, CanWantMemory, DoesStep, HasNextSerial}
use Rattle.bip_bank.specs.Banks.{HasOldest, IsActed}
use Rattle.bip_bank.specs.Banks.{WantsMemory, asked_nothing, content_of, with_decision}
use Rattle.bip_bank.specs.Banks.{with_request}
use Rattle.bip_bank.specs.Central.{IsFirstDecided, KeptCentral, kept_central}
use Rattle.bip_bank.specs.Idleness.{IsAskedAt, IsIdleBecause}
use Rattle.bip_bank.specs.Sharing.{IsNextStation, Sharing, TakesToken, TokenPlace, alone, in_flight}
use Rattle.bip_bank.specs.Sharing.{ring, token_at, token_to}
use Rattle.bip_bank.specs.Steps.{step_at}
use Rattle.bip_bank.specs.declared.banks.Acted.TheVariants.{Answered, Moved, Nothing}
use Rattle.bip_bank.specs.declared.banks.Acted.{Acted}
use Rattle.bip_bank.specs.declared.banks.BankStep.TheVariants.{Ask, Deliver, Pass, Serve}
use Rattle.bip_bank.specs.declared.banks.BankStep.{BankStep}
use Rattle.bip_bank.specs.declared.banks.StationId.{StationId}
use Rattle.bip_bank.specs.declared.idleness.WhyIdle.TheVariants.{NoneOfIt, NotNext, TokenElsewhere}
use Rattle.bip_bank.specs.declared.idleness.WhyIdle.TheVariants.{TokenInFlight}
use Rattle.bip_bank.specs.declared.idleness.WhyIdle.{WhyIdle}
use Rattle.bip_ring.specs.Rings.{IsNewRing, IsRing, IsWithoutToken, KeepsToken, KeptRing}
use Rattle.bip_ring.specs.Rings.{LeavesToken, kept_ring, token_place}
use Rattle.bip_ring.specs.declared.places.Place.TheVariants.{At, To}
use Rattle.bip_ring.specs.declared.places.Place.{Place}

abbrev pub shared_with : Sharing → BankContent → BankContent
shared_with x b = record b { sharing = x }

with_shared : (x : Sharing) (b : BankContent) (q : Request) (d : Decision) (open' : ℕ → List
    Request) (y : Sharing)
    → shared_with x (record (with_decision q d b) { waiting = open'; sharing = y }) ≡ record
    (with_decision q d (shared_with x b)) { waiting = open'; sharing = x }
with_shared x b q (Granted n) open' y = refl
with_shared x b q (Refused c n) open' y = refl

-- what a bank did, by what its stations share now, where that stays
pub acted_shared : (n : ℕ) (p : TokenPlace) (b later : BankContent) (did : Acted) → IsActed did b
    later → IsActed did (shared_with (ring n p) b) (shared_with (ring n p) later)
acted_shared n p b later Nothing is = ap (shared_with (ring n p)) is
acted_shared n p b later Moved is = ap (shared_with (ring n p)) is
acted_shared n p b later (Answered q d) is = record {
  rest = is.rest;
  oldest = is.oldest;
  decision = is.decision;
  left = is.left;
  sharing = refl;
  after = ap (shared_with (ring n p)) is.after ∙ with_shared (ring n p) b q d (put b.waiting
      q.inter.0 is.rest) later.sharing;
}

-- a ring after its table and open requests changed
abbrev pub with_desk : KeptRing → KeptRows → List (List Request) → KeptRing
with_desk r t waiting = record r { desk = with_parts r.desk t waiting }

-- what serving a station that has the token leaves
pub record Serves (r : KeptRing) (s : StationId) (later : KeptRing) (result : Result Acted
    AllocError) : Type 0 where
  pub valid : IsRing later
  pub does : IfOk result (λ did. DoesStep (content_of (kept_ring r)) (Serve s) did (content_of
      (kept_ring later)))
  pub acted : IfOk result (λ did. IsActed did (content_of (kept_ring r)) (content_of (kept_ring
      later)))
  pub serial : IfOk result (HasNextSerial (content_of (kept_ring r)))
  pub same : OnErr result (later ≡ r)

can_of_ring : (r : KeptRing) (s : ℕ) → CanDecide (content_of (kept_ring r)) s → CanDecide
    (content_of (kept_central r.desk)) s
can_of_ring r s can = record {
  complete = tt;
  oldest = record {
    number = can.oldest.number;
    request = can.oldest.request;
    rest =
        can.oldest.rest;
    station = can.oldest.station;
    first = can.oldest.first;
  };
  left = can.left;
}

ring_does : (r later : KeptRing) (s : StationId) (did : Acted) → token_place r.place ≡ token_at s.0
    → DoesStep (content_of (kept_central r.desk)) (Serve s) did (content_of (kept_central
    later.desk)) → DoesStep (content_of (kept_ring r)) (Serve s) did (content_of (kept_ring later))
ring_does r later s Nothing at is = λ can. is (can_of_ring r s.0 can)
ring_does r later s Moved at is = absurd is
ring_does r later s (Answered q d) at is = (at, is.1)

-- its grants are those of its desk
ring_serial : (r : KeptRing) (did : Acted) → HasNextSerial (content_of (kept_central r.desk)) did →
    HasNextSerial (content_of (kept_ring r)) did
ring_serial r Nothing is = tt
ring_serial r Moved is = tt
ring_serial r (Answered q (Granted n)) is = is
ring_serial r (Answered q (Refused c n)) is = tt

-- what memory a station that has the token wants
pub ring_starves : (r : KeptRing) (s : StationId) (result : Result Acted AllocError) → token_place
    r.place ≡ token_at s.0 → IfErr result (λ e. WantsMemory (content_of (kept_central r.desk))
    (Serve s)) → IfErr result (λ e. WantsMemory (content_of (kept_ring r)) (Serve s))
ring_starves r s (Ok did) at wants = tt
ring_starves r s (Err e) at (can, fresh) = (
  record {
    complete = at;
    oldest = record {
      number = can.oldest.number;
      request = can.oldest.request;
      rest =
          can.oldest.rest;
      station = can.oldest.station;
      first = can.oldest.first;
    };
    left = can.left;
  },
  fresh,
)

pub serves_ring : (r : KeptRing) (s : StationId) (stations : List InterId) (a : InterId) (t :
    KeptRows) (waiting : List (List Request)) (result : Result Acted AllocError) → IsRing r →
    token_place r.place ≡ token_at s.0
    → AreStations r.desk.plan stations → slice_get stations s.0 ≡ Some a → a.0 < length
    r.desk.waiting → IfOk result (IsFirstDecided a.0 r.desk.table r.desk.waiting t waiting) →
    OnErr result (t ≡ r.desk.table) → OnErr result (waiting ≡ r.desk.waiting)
    → Serves r s (with_desk r t waiting) result
serves_ring r s stations a t waiting (Ok did) is at listed here within decided table queues =
    let all = serves r.desk a.0 t waiting did is.desk within decided in
    record {
      valid = record {
        desk = all.valid;
        stations = is.stations;
        listed = is.listed;
        counted =
            is.counted;
      };
      does = ring_does r (with_desk r t waiting) s did at (served_steps r.desk s stations a t
          waiting (Ok did) (content_of (kept_central (with_parts r.desk t waiting))) is.desk listed
          here decided).0;
      acted = acted_shared r.count (token_place r.place) (content_of (kept_central r.desk))
          (content_of (kept_central (with_parts r.desk t waiting))) did all.content;
      serial = ring_serial r did (served_steps r.desk s stations a t waiting (Ok did) (content_of
          (kept_central r.desk)) is.desk listed here decided).1;
      same = tt;
    }
serves_ring r s stations a t waiting (Err e) is at listed here within decided table queues =
    rw (table, queues) (record { valid = is; does = tt; acted = tt; serial = tt; same = refl })

-- a station without the token, and one that there isn't, can't decide
pub without_token : (r : KeptRing) (s : ℕ) → (token_place r.place ≡ token_at s → ⊥) → CanDecide
    (content_of (kept_ring r)) s → ⊥
without_token r s away can = away can.complete

pub no_such_station : (r : KeptRing) (s : ℕ) (stations : List InterId) → (CanDecide (content_of
    (kept_central r.desk)) s → ⊥) → CanDecide (content_of (kept_ring r)) s → ⊥
no_such_station r s stations not can = not (can_of_ring r s can)

-- what letting the token go leaves
pub let_go_does : (r : KeptRing) (step : BankStep) (to : Place) → ((s : StationId) → step ≡ Serve s
    → ⊥) → TakesToken r.count (token_place r.place) step (token_place to) → DoesStep (content_of
    (kept_ring r)) step Moved (content_of (kept_ring (record r { place = to })))
let_go_does r (Serve s) to other takes = absurd (other s refl)
let_go_does r (Deliver k) to other takes = (token_place to, takes, refl)
let_go_does r (Pass s t) to other takes = (token_place to, takes, refl)
let_go_does r (Ask s t) to other takes = (token_place to, takes, refl)

pub stays_does : (r : KeptRing) (step : BankStep) → ((s : StationId) → step ≡ Serve s → ⊥) → ((to :
    TokenPlace) → TakesToken r.count (token_place r.place) step to → ⊥) → DoesStep (content_of
    (kept_ring r)) step Nothing (content_of (kept_ring r))
stays_does r (Serve s) other none = absurd (other s refl)
stays_does r (Deliver k) other none = none
stays_does r (Pass s t) other none = none
stays_does r (Ask s t) other none = none

-- what a submission leaves
pub submits_ring : (r : KeptRing) (q : Request) (later : List (List Request)) → content_of
    (kept_central (with_parts r.desk r.desk.table later)) ≡ with_request q (content_of (kept_central
    r.desk))
    → content_of (kept_ring (with_desk r r.desk.table later)) ≡ with_request q (content_of
    (kept_ring r))
submits_ring r q later is = ap (shared_with (ring r.count (token_place r.place))) is

-- a new ring
pub first_ring : (p : Planned) (base : ℕ) (c : KeptCentral) (stations : List InterId) (place :
    Place) → token_place place ≡ token_at 0 → AreStations p stations → content_of (kept_central c) ≡
    asked_nothing p base alone
    → IsNewRing p base (content_of (kept_ring (record {
      desk = c;
      place = place;
      count = length
          stations;
    })))
first_ring p base c stations place at listed is = record {
  first = record {
    stations = stations;
    listed = listed;
    shared = ap (ring (length stations)) at;
  };
  content = ap (shared_with (ring (length stations) (token_place place))) is;
}

-- why steps do nothing, as a bank does them
pub away_idle : (r : KeptRing) (s : StationId) (why : WhyIdle) → IsWithoutToken (ring r.count
    (token_place r.place)) s.0 why → IsIdleBecause (content_of (kept_ring r)) (Serve s) why
away_idle r s TokenInFlight is = is
away_idle r s TokenElsewhere is = is
away_idle r s why is = absurd is

away_kept : (r : KeptRing) (s t : StationId) (why : WhyIdle) → IsWithoutToken (ring r.count
    (token_place r.place)) s.0 why → IsIdleBecause (content_of (kept_ring r)) (Pass s t) why
away_kept r s t TokenInFlight is = is
away_kept r s t TokenElsewhere is = is
away_kept r s t why is = absurd is

pub kept_idle : (r : KeptRing) (s t : StationId) (why : WhyIdle) → KeepsToken (ring r.count
    (token_place r.place)) s.0 t.0 why → IsIdleBecause (content_of (kept_ring r)) (Pass s t) why
kept_idle r s t why (inl away') = away_kept r s t why away'
kept_idle r s t why (inr (same, not)) =
    subst (IsIdleBecause (content_of (kept_ring r)) (Pass s t)) (sym same) not

-- open requests of a ring are those of its desk
pub ring_asked : (r : KeptRing) (s : ℕ) → IsAskedAt r.desk.plan r.desk.waiting s → HasOldest
    (content_of (kept_ring r)) s
ring_asked r s is = record {
  number = is.number;
  request = is.request;
  rest = is.rest;
  station = is.station;
  first = is.first;
}

pub ring_unasked : (r : KeptRing) (s : ℕ) → (IsAskedAt r.desk.plan r.desk.waiting s → ⊥) →
    HasOldest (content_of (kept_ring r)) s → ⊥
ring_unasked r s not has = not (record {
  number = has.number;
  request = has.request;
  rest = has.rest;
  station = has.station;
  first = has.first;
})

-- where a step takes the token
pub ring_passes : (r : KeptRing) (s t : StationId) (o : Option WhyIdle) → IfNone o (TakesToken
    r.count (token_place r.place) (Pass s t) (token_to t.0)) → IfNone o (CanWantMemory (content_of
    (kept_ring r)) (Pass s t))
ring_passes r s t None takes = (ring r.count (token_to t.0), (token_to t.0, takes, refl))
ring_passes r s t (Some why) takes = tt

arrives_at : (n : ℕ) (place : Place) (k : ℕ) → k < in_flight (ring n (token_place place)) → (to :
    TokenPlace) × TakesToken n (token_place place) (Deliver k) to
arrives_at n (At s) k within = absurd (omega (arith, within))
arrives_at n (To s) k within = (token_at s.0, (omega (arith, within), refl))

pub ring_delivers : (r : KeptRing) (k : ℕ) → k < in_flight (ring r.count (token_place r.place)) →
    CanWantMemory (content_of (kept_ring r)) (Deliver k)
ring_delivers r k within = let to = arrives_at r.count r.place k within in
    (ring r.count to.0, (to.0, to.1, refl))

-- which steps leave the token alone

rests_serving : (n : ℕ) (place : Place) (s : ℕ) → (token_place place ≡ token_at s → ⊥)
    → (why : WhyIdle) × IsWithoutToken (ring n (token_place place)) s why
rests_serving n (At h) s away' = (TokenElsewhere, λ same. away' (ap token_at same))
rests_serving n (To h) s away' = (TokenInFlight, tt)

-- a pair whose first station hasn't the token, or whose second isn't the next one
rests_passing : (n : ℕ) (place : Place) (s t : ℕ)
    → (token_place place ≡ token_at s → IsNextStation n s t → ⊥)
    → (why : WhyIdle) × KeepsToken (ring n (token_place place)) s t why
rests_passing n (To h) s t apart = (TokenInFlight, inl tt)
rests_passing n (At h) s t apart = elim (cases_eq h.0 s) [
  | inl same ↦ (NotNext, inr (refl, λ next. apart (ap token_at same) next))
  | inr other ↦ (TokenElsewhere, inl other)
]

-- of a step by number: it serves another station, and doesn't hand the token on
pub rests_at : (n : ℕ) (place : Place) (i : ℕ)
    → (i < n → token_place place ≡ token_at i → ⊥)
    → ((k : ℕ) → i ≡ n + k → token_place place ≡ token_at (k / n) → IsNextStation n (k / n) (k % n)
    → ⊥)
    → LeavesToken (ring n (token_place place)) (step_at n i)
rests_at n place i serves passes = elim (cases_lt i n) [
  | inl within ↦ subst (LeavesToken (ring n (token_place place))) (sym (serve_at n i within))
      (rests_serving n place i (serves within))
  | inr past ↦ elim (cases_lt (i - n) (n * n)) [
    | inl inside ↦ subst (λ (j : ℕ). LeavesToken (ring n (token_place place)) (step_at n j))
        (omega (arith, past))
        (subst (LeavesToken (ring n (token_place place))) (sym (pass_at n (i - n) inside))
        (rests_passing n place ((i - n) / n) ((i - n) % n)
        (passes (i - n) (omega (arith, past)))))
    | inr beyond ↦ subst (λ (j : ℕ). LeavesToken (ring n (token_place place)) (step_at n j))
        (omega (arith, past, beyond))
        (subst (LeavesToken (ring n (token_place place))) (sym (ask_at n (i - n - n * n))) tt)
  ]
]

-- none has it to hand on, or serves with it, where it is in flight, or at no station
pub rests_flying : (n i : ℕ) (to : StationId)
    → LeavesToken (ring n (token_place (To to))) (step_at n i)
rests_flying n i to = rests_at n (To to) i (λ within here. cc) (λ k is here next. cc)

pub rests_outside : (n i : ℕ) (h : StationId) → n ≤ h.0
    → LeavesToken (ring n (token_place (At h))) (step_at n i)
rests_outside n i h outside = rests_at n (At h) i
    (λ within here. let same : h.0 ≡ i = cc in omega (arith, within, outside, same))
    (λ k is here next. let same : h.0 ≡ k / n = cc in
    omega (arith, outside, same, next.station))

-- those of the stations before its own leave it there
pub rests_before : (n i : ℕ) (h : StationId) → i < h.0 → h.0 < n
    → LeavesToken (ring n (token_place (At h))) (step_at n i)
rests_before n i h before within = rests_at n (At h) i
    (λ inside here. let same : h.0 ≡ i = cc in omega (arith, before, same))
    (λ k is here next. omega (arith, is, before, within))

-- but for two of them, all leave it with its station
next_of : (n s t u : ℕ) → IsNextStation n s t → IsNextStation n s u → t ≡ u
next_of n s t u one other = elim one.next [
  | inl (below, is) ↦ elim other.next [
    | inl (low, so) ↦ is ∙ sym so
    | inr (last, so) ↦ absurd (omega (arith, below, last))
  ]
  | inr (last, is) ↦ elim other.next [
    | inl (low, so) ↦ absurd (omega (arith, low, last))
    | inr (end, so) ↦ is ∙ sym so
  ]
]

pub rests_apart : (n i next : ℕ) (h : StationId) → IsNextStation n h.0 next → (i ≡ h.0 → ⊥)
    → (i ≡ n + h.0 * n + next → ⊥) → LeavesToken (ring n (token_place (At h))) (step_at n i)
rests_apart n i next h after other apart = rests_at n (At h) i
    (λ within here. let same : h.0 ≡ i = cc in other (sym same))
    (λ k is here so. let same : h.0 ≡ k / n = cc in
    let last : k % n ≡ next = next_of n h.0 (k % n) next
    (subst (λ (s : ℕ). IsNextStation n s (k % n)) (sym same) so) after in
    let parts : n * (k / n) + k % n ≡ k = div-add-mod k n in
    let whole : n * h.0 + next ≡ k =
    ap (λ (s : ℕ). n * s + next) same ∙ ap (λ (t : ℕ). n * (k / n) + t) (sym last) ∙ parts in
    apart (omega (arith, is, whole)))

-- and so they are idle
pub rests_idle : (r : KeptRing) (step : BankStep)
    → LeavesToken (ring r.count (token_place r.place)) step
    → (why : WhyIdle) × IsIdleBecause (content_of (kept_ring r)) step why
rests_idle r (Deliver k) leaves = absurd leaves
rests_idle r (Serve s) leaves = (leaves.0, away_idle r s leaves.0 leaves.1)
rests_idle r (Pass s t) leaves = (leaves.0, kept_idle r s t leaves.0 leaves.1)
rests_idle r (Ask s t) leaves = (NoneOfIt, tt)
