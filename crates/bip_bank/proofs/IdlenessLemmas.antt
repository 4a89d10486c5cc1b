-- A step for whose idleness there is a reason does nothing, and one without a reason lacks a serial.
use Rattle.std.proofs.Common.{◌≡◌, ◌↔◌, ℕ, ◌<◌, ◌≤◌, List, [], ◌∷◌, Option, None, Some, refl, sym}
use Rattle.std.proofs.Common.{ap, ◌∙◌, arith, false, get_or, inl, inr, length, slice_get, true}
use Rattle.std.specs.Option.{option_map}
use Rattle.std.specs.Prelude.{IsSome}
use Rattle.std.proofs.lemmas.Bool.Decides.{eqb_tells}
use Rattle.std.proofs.lemmas.List.{length-append}
use Rattle.std.proofs.lemmas.Option.{get_or_from_slice_get, slice_get_within}
use Rattle.bip_model.specs.Parts.{IsSystem}
use Rattle.bip_model.specs.Priorities.{inter}
use Rattle.bip_model.specs.declared.messages.Request.{Request}
use Rattle.bip_model.specs.declared.numbering.InterId.{InterId}
use Rattle.bip_partition.proofs.TableLemmas.{reserved_known}
use Rattle.bip_partition.specs.Plans.{AreStations, Planned}
use Rattle.bip_table.specs.Reservations.{end_of_serials}
use Rattle.bip_bank.proofs.CentralLemmas.{stations_same}
use Rattle.bip_bank.proofs.RepeatLemmas.{moves_or_not}
use Rattle.bip_bank.specs.Banks.{BankContent, CanWantMemory, HasOldest, MovesNothing}
use Rattle.bip_bank.specs.Banks.{content_of}
use Rattle.bip_bank.specs.Central.{KeptCentral, kept_central}
use Rattle.bip_bank.specs.ForkSharing.{ForkSide, away, clean, dirty, side_of}
use Rattle.bip_bank.specs.Idleness.{HasNoSuch, HasOfFork, IsAskedAt, IsIdleBecause, IsNotNext}
use Rattle.bip_bank.specs.Idleness.{IsTokenElsewhere, IsTokenFlying, SharesNoFork}
use Rattle.bip_bank.specs.Laws.{MovesInOneWay, ReasonsAreAll, ReasonsAreTrue}
use Rattle.bip_bank.specs.Sharing.{LacksNothing, MovesNothingShared, Sharing, alone}
use Rattle.bip_bank.specs.Sharing.{forks, in_flight, otherwise, ring, token_at, token_to}
use Rattle.bip_bank.specs.declared.banks.Acted.TheVariants.{Answered, Moved, Nothing}
use Rattle.bip_bank.specs.declared.banks.BankStep.TheVariants.{Ask, Deliver, Pass, Serve}
use Rattle.bip_bank.specs.declared.banks.BankStep.{BankStep}
use Rattle.bip_bank.specs.declared.banks.StationId.{StationId}
use Rattle.bip_bank.specs.declared.idleness.WhyIdle.TheVariants.{ForkClean, ForkElsewhere, ForkHere}
use Rattle.bip_bank.specs.declared.idleness.WhyIdle.TheVariants.{Lacking, NoFork, NoRequestToken}
use Rattle.bip_bank.specs.declared.idleness.WhyIdle.TheVariants.{NoneOfIt, NotAskedFor, NotNext}
use Rattle.bip_bank.specs.declared.idleness.WhyIdle.TheVariants.{NothingOpen, NothingThere}
use Rattle.bip_bank.specs.declared.idleness.WhyIdle.TheVariants.{TokenElsewhere, TokenInFlight}
use Rattle.bip_bank.specs.declared.idleness.WhyIdle.{WhyIdle}

-- an open request among those of each interaction, as a central bank has it
pub asked_oldest : (c : KeptCentral) (s : ℕ) → IsAskedAt c.plan c.waiting s
    → HasOldest (content_of (kept_central c)) s
asked_oldest c s is = record {
  number = is.number;
  request = is.request;
  rest = is.rest;
  station = is.station;
  first = is.first;
}

pub oldest_asked : (c : KeptCentral) (s : ℕ) → HasOldest (content_of (kept_central c)) s
    → IsAskedAt c.plan c.waiting s
oldest_asked c s is = record {
  number = is.number;
  request = is.request;
  rest = is.rest;
  station = is.station;
  first = is.first;
}

-- the interaction of a station has a queue
pub queue_within : (p : Planned) (waiting : List (List Request)) (s : ℕ) (stations : List InterId)
    (a : InterId) → IsSystem p.model → length waiting ≡ length p.model.interactions
    → AreStations p stations → slice_get stations s ≡ Some a → a.0 < length waiting
queue_within p waiting s stations a valid each listed here =
    omega (
      arith,
      each,
      reserved_known p a.0 valid ((listed.exact a.0).0
          (s, slice_get_within stations s a here, get_or_from_slice_get stations s a a here)),
    )

-- a station's interaction has an open request where its queue has a first one
some_mapped : {A B : Type 0} (f : A → B) (o : Option A) (p : Option B) → option_map f o ≡ p
    → IsSome o ↔ IsSome p
some_mapped f None None is = (λ some. some, λ some. some)
some_mapped f None (Some y) is = cc
some_mapped f (Some x) None is = cc
some_mapped f (Some x) (Some y) is = (λ some. refl, λ some. refl)

asked_first : (p : Planned) (waiting : List (List Request)) (s : ℕ) (stations : List InterId)
    (a : InterId) → AreStations p stations → slice_get stations s ≡ Some a → (xs : List Request)
    → get_or waiting a.0 [] ≡ xs → IsSome (slice_get xs 0) ↔ IsAskedAt p waiting s
asked_first p waiting s stations a listed here (q ∷ rest) is = (
  λ some. record {
    number = a.0;
    request = q;
    rest = rest;
    station = record { stations = stations; listed = listed; here = here };
    first = is;
  },
  λ asked. refl,
)
asked_first p waiting s stations a listed here [] is = (λ some. cc, λ asked. absurd (never asked))
  where
    never : IsAskedAt p waiting s → ⊥
    never asked =
        let same : Some (inter asked.number) ≡ Some a = sym asked.station.here
        ∙ (ap (λ (xs : List InterId). slice_get xs s)
        (stations_same p asked.station.stations stations asked.station.listed listed) ∙ here) in
        let e : inter asked.number ≡ a = cc in
        let none : get_or waiting asked.number [] ≡ [] =
        ap (λ (x : InterId). get_or waiting x.0 []) e ∙ is in
        let some : get_or waiting asked.number [] ≡ asked.request ∷ asked.rest = asked.first in
        cc

pub asked_where_first : {A : Type 0} (f : A → Request) (o : Option A) (p : Planned)
    (waiting : List (List Request)) (s : ℕ) (stations : List InterId) (a : InterId)
    → AreStations p stations → slice_get stations s ≡ Some a
    → option_map f o ≡ slice_get (get_or waiting a.0 []) 0 → IsSome o ↔ IsAskedAt p waiting s
asked_where_first f o p waiting s stations a listed here is =
    let first = some_mapped f o (slice_get (get_or waiting a.0 []) 0) is in
    let asked = asked_first p waiting s stations a listed here (get_or waiting a.0 []) refl in
    (λ some. asked.0 (first.0 some), λ at. first.1 (asked.1 at))

pub never_asked : (p : Planned) (waiting : List (List Request)) (s : ℕ) (stations : List InterId)
    → AreStations p stations → slice_get stations s ≡ None → ¬ IsAskedAt p waiting s
never_asked p waiting s stations listed none asked =
    let same : Some (inter asked.number) ≡ None = sym asked.station.here
    ∙ (ap (λ (xs : List InterId). slice_get xs s)
    (stations_same p asked.station.stations stations asked.station.listed listed) ∙ none) in
    cc

-- What a reason says of what stations share.

no_serving : (x : Sharing) (s : StationId) → HasNoSuch x (Serve s) → ⊥
no_serving alone s is = is
no_serving (ring count place) s is = is
no_serving (forks f) s is = is
no_serving (otherwise lacking flying) s is = is

flies_on : (x : Sharing) (s : ℕ) → IsTokenFlying x → LacksNothing x s → ⊥
flies_on alone s is complete = is
flies_on (ring count (token_at h)) s is complete = is
flies_on (ring count (token_to h)) s is complete = cc
flies_on (forks f) s is complete = is
flies_on (otherwise lacking flying) s is complete = is

lies_elsewhere : (x : Sharing) (s : ℕ) → IsTokenElsewhere x s → LacksNothing x s → ⊥
lies_elsewhere alone s is complete = is
lies_elsewhere (ring count (token_at h)) s is complete =
    let same : h ≡ s = cc in
    is same
lies_elsewhere (ring count (token_to h)) s is complete = is
lies_elsewhere (forks f) s is complete = is
lies_elsewhere (otherwise lacking flying) s is complete = is

none_such : (waits : ℕ → Type 0) (x : Sharing) (step : BankStep) → HasNoSuch x step
    → MovesNothingShared waits x step
none_such waits alone step is = tt
none_such waits (ring count (token_at h)) (Ask s t) is = λ to takes. takes
none_such waits (ring count (token_to h)) (Ask s t) is = λ to takes. takes
none_such waits (ring count place) (Serve s) is = absurd is
none_such waits (ring count place) (Deliver k) is = absurd is
none_such waits (ring count place) (Pass s t) is = absurd is
none_such waits (forks f) step is = absurd is
none_such waits (otherwise lacking flying) step is = tt

nothing_there : (waits : ℕ → Type 0) (x : Sharing) (k : ℕ) → in_flight x ≤ k
    → MovesNothingShared waits x (Deliver k)
nothing_there waits alone k past = tt
nothing_there waits (ring count (token_at h)) k past = λ to takes. takes
nothing_there waits (ring count (token_to h)) k past = λ to takes. omega (arith, past, takes.0)
nothing_there waits (forks f) k past = λ to is.
    omega (
      arith,
      past,
      is.before,
      ap length is.whole,
      length-append is.front (is.parcel ∷ is.back),
    )
nothing_there waits (otherwise lacking flying) k past = tt

no_token : (waits : ℕ → Type 0) (x : Sharing) (s t : StationId) → IsTokenFlying x
    → MovesNothingShared waits x (Pass s t)
no_token waits alone s t is = tt
no_token waits (ring count (token_at h)) s t is = absurd is
no_token waits (ring count (token_to h)) s t is = λ to takes. takes
no_token waits (forks f) s t is = absurd is
no_token waits (otherwise lacking flying) s t is = tt

token_elsewhere : (waits : ℕ → Type 0) (x : Sharing) (s t : StationId) → IsTokenElsewhere x s.0
    → MovesNothingShared waits x (Pass s t)
token_elsewhere waits alone s t is = tt
token_elsewhere waits (ring count (token_at h)) s t is = λ to takes. is takes.0
token_elsewhere waits (ring count (token_to h)) s t is = absurd is
token_elsewhere waits (forks f) s t is = absurd is
token_elsewhere waits (otherwise lacking flying) s t is = tt

not_next : (waits : ℕ → Type 0) (x : Sharing) (s t : StationId) → IsNotNext x s.0 t.0
    → MovesNothingShared waits x (Pass s t)
not_next waits alone s t is = tt
not_next waits (ring count (token_at h)) s t is = λ to takes. is takes.1
not_next waits (ring count (token_to h)) s t is = λ to takes. takes
not_next waits (forks f) s t is = absurd is
not_next waits (otherwise lacking flying) s t is = tt

-- what one side has of a fork is one thing
none_shared : (o : Option ForkSide) (side : ForkSide) → o ≡ None → o ≡ Some side → ⊥
none_shared o side none some = cc

same_side : (o : Option ForkSide) (x y : ForkSide) → o ≡ Some x → o ≡ Some y → x ≡ y
same_side o x y one other = cc

no_fork_sent : (waits : ℕ → Type 0) (x : Sharing) (s t : StationId) → SharesNoFork x s.0 t.0
    → MovesNothingShared waits x (Pass s t)
no_fork_sent waits alone s t is = tt
no_fork_sent waits (ring count place) s t is = absurd is
no_fork_sent waits (forks f) s t is = λ to sends. none_shared (side_of f.sides s.0 t.0) _ is
    sends.here
no_fork_sent waits (otherwise lacking flying) s t is = tt

no_fork_asked : (waits : ℕ → Type 0) (x : Sharing) (s t : StationId) → SharesNoFork x s.0 t.0
    → MovesNothingShared waits x (Ask s t)
no_fork_asked waits alone s t is = tt
no_fork_asked waits (ring count place) s t is = absurd is
no_fork_asked waits (forks f) s t is = λ to asks. none_shared (side_of f.sides s.0 t.0) _ is
    asks.1.here
no_fork_asked waits (otherwise lacking flying) s t is = tt

not_sent : (so : ForkSide → Type 0) (waits : ℕ → Type 0) (x : Sharing) (s t : StationId)
    → ((side : ForkSide) → side ≡ record { fork = dirty; token = true } → so side → ⊥)
    → HasOfFork so x s.0 t.0 → MovesNothingShared waits x (Pass s t)
not_sent so waits alone s t never is = tt
not_sent so waits (ring count place) s t never is = absurd is
not_sent so waits (forks f) s t never (side, at, is) = λ to sends.
    never side (same_side (side_of f.sides s.0 t.0) side _ at sends.here) is
not_sent so waits (otherwise lacking flying) s t never is = tt

not_asked : (so : ForkSide → Type 0) (waits : ℕ → Type 0) (x : Sharing) (s t : StationId)
    → ((side : ForkSide) → side ≡ record { fork = away; token = true } → so side → ⊥)
    → HasOfFork so x s.0 t.0 → MovesNothingShared waits x (Ask s t)
not_asked so waits alone s t never is = tt
not_asked so waits (ring count place) s t never is = absurd is
not_asked so waits (forks f) s t never (side, at, is) = λ to asks.
    never side (same_side (side_of f.sides s.0 t.0) side _ at asks.1.here) is
not_asked so waits (otherwise lacking flying) s t never is = tt

none_open : (waits : ℕ → Type 0) (x : Sharing) (s t : StationId) → (waits s.0 → ⊥)
    → MovesNothingShared waits x (Ask s t)
none_open waits alone s t not = tt
none_open waits (ring count (token_at h)) s t not = λ to takes. takes
none_open waits (ring count (token_to h)) s t not = λ to takes. takes
none_open waits (forks f) s t not = λ to asks. not asks.0
none_open waits (otherwise lacking flying) s t not = tt

-- a fork is in one state
other_fork : (side : ForkSide) → side ≡ record { fork = dirty; token = true } → side.fork ≡ away → ⊥
other_fork side is at =
    let dirty' : side.fork ≡ dirty = ap (λ (x : ForkSide). x.fork) is in
    cc

clean_fork : (side : ForkSide) → side ≡ record { fork = dirty; token = true } → side.fork ≡ clean
    → ⊥
clean_fork side is at =
    let dirty' : side.fork ≡ dirty = ap (λ (x : ForkSide). x.fork) is in
    cc

token_gone : (side : ForkSide) → side ≡ record { fork = dirty; token = true } → side.token ≡ false
    → ⊥
token_gone side is at =
    let here : side.token ≡ true = ap (λ (x : ForkSide). x.token) is in
    cc

token_sent : (side : ForkSide) → side ≡ record { fork = away; token = true } → side.token ≡ false
    → ⊥
token_sent side is at =
    let here : side.token ≡ true = ap (λ (x : ForkSide). x.token) is in
    cc

-- where there is a reason, a station can't decide, and no other step moves anything
cannot_serve : (b : BankContent) (s : StationId) (why : WhyIdle) → LacksNothing b.sharing s.0
    → HasOldest b s.0 → IsIdleBecause b (Serve s) why → ⊥
cannot_serve b s NoneOfIt complete oldest is = no_serving b.sharing s is
cannot_serve b s NothingOpen complete oldest is = is oldest
cannot_serve b s Lacking complete oldest is = is complete
cannot_serve b s TokenInFlight complete oldest is = flies_on b.sharing s.0 is complete
cannot_serve b s TokenElsewhere complete oldest is = lies_elsewhere b.sharing s.0 is complete
cannot_serve b s why complete oldest is = is

delivers_nothing : (b : BankContent) (k : ℕ) (why : WhyIdle) → IsIdleBecause b (Deliver k) why
    → MovesNothing b (Deliver k)
delivers_nothing b k NoneOfIt is = none_such (HasOldest b) b.sharing (Deliver k) is
delivers_nothing b k NothingThere is = nothing_there (HasOldest b) b.sharing k is
delivers_nothing b k why is = absurd is

passes_nothing : (b : BankContent) (s t : StationId) (why : WhyIdle)
    → IsIdleBecause b (Pass s t) why → MovesNothing b (Pass s t)
passes_nothing b s t NoneOfIt is = none_such (HasOldest b) b.sharing (Pass s t) is
passes_nothing b s t TokenInFlight is = no_token (HasOldest b) b.sharing s t is
passes_nothing b s t TokenElsewhere is = token_elsewhere (HasOldest b) b.sharing s t is
passes_nothing b s t NotNext is = not_next (HasOldest b) b.sharing s t is
passes_nothing b s t NoFork is = no_fork_sent (HasOldest b) b.sharing s t is
passes_nothing b s t ForkElsewhere is =
    not_sent (λ x. x.fork ≡ away) (HasOldest b) b.sharing s t other_fork is
passes_nothing b s t ForkClean is =
    not_sent (λ x. x.fork ≡ clean) (HasOldest b) b.sharing s t clean_fork is
passes_nothing b s t NotAskedFor is =
    not_sent (λ x. x.token ≡ false) (HasOldest b) b.sharing s t token_gone is
passes_nothing b s t why is = absurd is

asks_nothing : (b : BankContent) (s t : StationId) (why : WhyIdle) → IsIdleBecause b (Ask s t) why
    → MovesNothing b (Ask s t)
asks_nothing b s t NoneOfIt is = none_such (HasOldest b) b.sharing (Ask s t) is
asks_nothing b s t NothingOpen is = none_open (HasOldest b) b.sharing s t is
asks_nothing b s t NoFork is = no_fork_asked (HasOldest b) b.sharing s t is
asks_nothing b s t ForkHere is =
    not_asked (λ x. x.fork ≡ away → ⊥) (HasOldest b) b.sharing s t
    (λ side same here. here (ap (λ (x : ForkSide). x.fork) same)) is
asks_nothing b s t NoRequestToken is =
    not_asked (λ x. x.token ≡ false) (HasOldest b) b.sharing s t token_sent is
asks_nothing b s t why is = absurd is

pub no_reason : (b : BankContent) (step : BankStep) (why : WhyIdle) → MovesInOneWay b.sharing
    → IsIdleBecause b step why → CanWantMemory b step → ⊥
no_reason b (Serve s) why way is (complete, oldest) = cannot_serve b s why complete oldest is
no_reason b (Deliver k) why way is (next, moves) =
    moves_or_not (HasOldest b) b.sharing next (Deliver k) way moves (delivers_nothing b k why is)
no_reason b (Pass s t) why way is (next, moves) =
    moves_or_not (HasOldest b) b.sharing next (Pass s t) way moves (passes_nothing b s t why is)
no_reason b (Ask s t) why way is (next, moves) =
    moves_or_not (HasOldest b) b.sharing next (Ask s t) way moves (asks_nothing b s t why is)

pub reasons_are_true : ReasonsAreTrue
reasons_are_true b later step why Nothing way is does acted = refl
reasons_are_true b later (Serve s) why Moved way is does acted = absurd does
reasons_are_true b later (Serve s) why (Answered q d) way is does acted =
    absurd (no_reason b (Serve s) why way is (
      does.0,
      record {
        number = q.inter.0;
        request = q;
        rest = acted.rest;
        station = does.1;
        first = acted.oldest;
      },
    ))
reasons_are_true b later (Deliver k) why Moved way is does acted =
    absurd (no_reason b (Deliver k) why way is (later.sharing, does))
reasons_are_true b later (Pass s t) why Moved way is does acted =
    absurd (no_reason b (Pass s t) why way is (later.sharing, does))
reasons_are_true b later (Ask s t) why Moved way is does acted =
    absurd (no_reason b (Ask s t) why way is (later.sharing, does))
reasons_are_true b later (Deliver k) why (Answered q d) way is does acted = absurd does
reasons_are_true b later (Pass s t) why (Answered q d) way is does acted = absurd does
reasons_are_true b later (Ask s t) why (Answered q d) way is does acted = absurd does

-- a station that lacks nothing and has an open request decides, unless no serial is left
pub reasons_are_all : ReasonsAreAll
reasons_are_all b later (Serve s) way (complete, oldest) not =
    elim (eqb_tells (length b.grants) end_of_serials) [
      | inl same ↦ same.1
      | inr other ↦ absurd (not (record {
        complete = complete;
        oldest = oldest;
        left = λ ended. other.1 ended.1;
      }))
    ]
reasons_are_all b later (Deliver k) way (next, moves) none =
    absurd (moves_or_not (HasOldest b) b.sharing next (Deliver k) way moves none)
reasons_are_all b later (Pass s t) way (next, moves) none =
    absurd (moves_or_not (HasOldest b) b.sharing next (Pass s t) way moves none)
reasons_are_all b later (Ask s t) way (next, moves) none =
    absurd (moves_or_not (HasOldest b) b.sharing next (Ask s t) way moves none)
