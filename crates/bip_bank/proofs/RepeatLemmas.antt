-- A step of a bank has one answer, but for a grant's serial, and leaves one content.
use Rattle.std.proofs.Common.{◌≡◌, ℕ, ◌<◌, List, [], ◌∷◌, ◌++◌, Option, Some, get_or, length, map}
use Rattle.std.proofs.Common.{refl, sym, ap, ap₂, ◌∙◌, subst, inl, inr, arith}
use Rattle.std.specs.List.Sorted.{IsStrictlyIncreasing}
use Rattle.std.specs.Prelude.{slice_get}
use Rattle.std.proofs.lemmas.Bool.{cases_order}
use Rattle.std.proofs.lemmas.Option.{get_or_from_slice_get, slice_get_within}
use Rattle.bip_model.proofs.ListLemmas.{below_later}
use Rattle.bip_model.proofs.FoundLemmas.{lowest_same}
use Rattle.bip_model.specs.Numbering.{put}
use Rattle.bip_model.specs.Priorities.{inter}
use Rattle.bip_model.specs.declared.messages.Request.{Request}
use Rattle.bip_model.specs.declared.numbering.InterId.{InterId}
use Rattle.bip_model.specs.declared.wants.Want.{Want}
use Rattle.bip_partition.specs.Plans.{Planned}
use Rattle.bip_table.proofs.LawLemmas.{none_used_up}
use Rattle.bip_table.specs.Reservations.{IsDecision, IsUsedUp}
use Rattle.bip_table.specs.declared.reservations.Decision.TheVariants.{Granted, Refused}
use Rattle.bip_table.specs.declared.reservations.Decision.{Decision}
use Rattle.bip_bank.proofs.CentralLemmas.{stations_same}
use Rattle.bip_bank.specs.Banks.{BankContent, CanDecide, DoesStep, HasOldest, IsActed, IsDecided}
use Rattle.bip_bank.specs.Banks.{IsStationOf, Moves, MovesNothing, with_decision}
use Rattle.bip_bank.specs.ForkSharing.{Arrives, ForkSharing, ForkSide, Parcel, TakesForks}
use Rattle.bip_bank.specs.ForkSharing.{arrived_at, made_dirty}
use Rattle.bip_bank.specs.Laws.{MovesInOneWay, OneAnswerToAStep, decision_but_serial}
use Rattle.bip_bank.specs.Laws.{acted_but_serial}
use Rattle.bip_bank.specs.Sharing.{MovesNothingShared, MovesShared, Sharing, StaysShared}
use Rattle.bip_bank.specs.Sharing.{TakesToken, TokenPlace, alone, forks, otherwise, ring, token_at}
use Rattle.bip_bank.specs.Sharing.{token_to}
use Rattle.bip_bank.specs.declared.banks.Acted.TheVariants.{Answered, Moved, Nothing}
use Rattle.bip_bank.specs.declared.banks.Acted.{Acted}
use Rattle.bip_bank.specs.declared.banks.BankStep.TheVariants.{Ask, Deliver, Pass, Serve}
use Rattle.bip_bank.specs.declared.banks.BankStep.{BankStep}
use Rattle.bip_bank.specs.declared.banks.StationId.{StationId}

-- What stations share.

token_taken : (count : ℕ) (place : TokenPlace) (step : BankStep) (t u : TokenPlace)
    → TakesToken count place step t → TakesToken count place step u → t ≡ u
token_taken count (token_at h) (Pass s r) t u one other = one.2 ∙ sym other.2
token_taken count (token_at h) (Deliver k) t u one other = absurd one
token_taken count (token_at h) (Serve s) t u one other = absurd one
token_taken count (token_at h) (Ask s r) t u one other = absurd one
token_taken count (token_to h) (Deliver k) t u one other = one.1 ∙ sym other.1
token_taken count (token_to h) (Pass s r) t u one other = absurd one
token_taken count (token_to h) (Serve s) t u one other = absurd one
token_taken count (token_to h) (Ask s r) t u one other = absurd one

-- the thing at a place, and those that are left
split_once : (front other back rest : List Parcel) (p q : Parcel) → length front ≡ length other
    → front ++ p ∷ back ≡ other ++ q ∷ rest → (p ≡ q) × (front ++ back ≡ other ++ rest)
split_once [] [] back rest p q same is = (cc, cc)
split_once [] (y ∷ ys) back rest p q same is = absurd (omega arith)
split_once (x ∷ xs) [] back rest p q same is = absurd (omega arith)
split_once (x ∷ xs) (y ∷ ys) back rest p q same is =
    let first : x ≡ y = cc in
    let others : xs ++ p ∷ back ≡ ys ++ q ∷ rest = cc in
    let split = split_once xs ys back rest p q (omega arith) others in
    (split.0, ap₂ (λ (z : Parcel) (zs : List Parcel). z ∷ zs) first split.1)

abbrev sharing_by : List (List (Option ForkSide)) → List Parcel → ForkSharing
sharing_by sides flight = record { sides = sides; flight = flight }

arrives_once : (f : ForkSharing) (k : ℕ) (t u : ForkSharing) → Arrives f k t → Arrives f k u → t ≡ u
arrives_once f k t u one other =
    let split = split_once one.front other.front one.back other.back one.parcel other.parcel
    (one.before ∙ sym other.before) (sym one.whole ∙ other.whole) in
    one.after ∙ (ap₂ (λ (p : Parcel) (flight : List Parcel). sharing_by
    (arrived_at p f.sides) flight) split.0 split.1 ∙ sym other.after)

forks_taken : (waits : ℕ → Type 0) (f : ForkSharing) (step : BankStep) (t u : ForkSharing)
    → TakesForks waits f step t → TakesForks waits f step u → t ≡ u
forks_taken waits f (Deliver k) t u one other = arrives_once f k t u one other
forks_taken waits f (Pass s r) t u one other = one.after ∙ sym other.after
forks_taken waits f (Ask s r) t u one other = one.1.after ∙ sym other.1.after
forks_taken waits f (Serve s) t u one other = absurd one

moves_once : (waits : ℕ → Type 0) (x y z : Sharing) (step : BankStep) → MovesInOneWay x
    → MovesShared waits x step y → MovesShared waits x step z → y ≡ z
moves_once waits alone y z step way one other = absurd one
moves_once waits (ring count place) y z step way one other =
    one.2 ∙ (ap (ring count) (token_taken count place step one.0 other.0 one.1 other.1)
    ∙ sym other.2)
moves_once waits (forks f) y z step way one other = one.2
    ∙ (ap forks (forks_taken waits f step one.0 other.0 one.1 other.1) ∙ sym other.2)
moves_once waits (otherwise lacking flying) y z step way one other = absurd way

pub moves_or_not : (waits : ℕ → Type 0) (x y : Sharing) (step : BankStep) → MovesInOneWay x
    → MovesShared waits x step y → MovesNothingShared waits x step → ⊥
moves_or_not waits alone y step way moves none = moves
moves_or_not waits (ring count place) y step way moves none = none moves.0 moves.1
moves_or_not waits (forks f) y step way moves none = none moves.0 moves.1
moves_or_not waits (otherwise lacking flying) y step way moves none = way

moves_on : (waits : ℕ → Type 0) (x y : Sharing) (step : BankStep) → MovesInOneWay x
    → MovesShared waits x step y → MovesInOneWay y
moves_on waits alone y step way moves = absurd moves
moves_on waits (ring count place) y step way moves = subst MovesInOneWay (sym moves.2) tt
moves_on waits (forks f) y step way moves = subst MovesInOneWay (sym moves.2) tt
moves_on waits (otherwise lacking flying) y step way moves = absurd way

abbrev HoldsOfOne : (ℕ → Type 0) → Type 0
HoldsOfOne decides = (s t : ℕ) → decides s → decides t → s ≡ t

stays_once : (decides : ℕ → Type 0) (x y z : Sharing) → HoldsOfOne decides → MovesInOneWay x
    → StaysShared decides x y → StaysShared decides x z → y ≡ z
stays_once decides alone y z once way one other = one ∙ sym other
stays_once decides (ring count place) y z once way one other = one ∙ sym other
stays_once decides (forks f) y z once way one other = one.2
    ∙ (ap (λ (s : ℕ). forks (made_dirty s f)) (once one.0 other.0 one.1 other.1) ∙ sym other.2)
stays_once decides (otherwise lacking flying) y z once way one other = absurd way

stays_on : (decides : ℕ → Type 0) (x y : Sharing) → MovesInOneWay x → StaysShared decides x y
    → MovesInOneWay y
stays_on decides alone y way stays = subst MovesInOneWay (sym stays) tt
stays_on decides (ring count place) y way stays = subst MovesInOneWay (sym stays) tt
stays_on decides (forks f) y way stays = subst MovesInOneWay (sym stays.2) tt
stays_on decides (otherwise lacking flying) y way stays = absurd way

-- Decisions.

abbrev refusal : ℕ → ℕ → Decision
refusal c n = Refused (record { 0 = c }) n

same_refusal : (c d n k : ℕ) → c ≡ d → n ≡ k → refusal c n ≡ refusal d k
same_refusal c d n k comps numbers = rw (comps, numbers) refl

one_decision : (used : ℕ → ℕ) (wants : List Want) (d e : Decision) → IsDecision used wants d
    → IsDecision used wants e → decision_but_serial d ≡ decision_but_serial e
one_decision used wants (Granted m) (Granted n) is also = refl
one_decision used wants (Granted m) (Refused c n) is also =
    absurd (none_used_up used wants c.0 is also.0.here)
one_decision used wants (Refused c m) (Granted n) is also =
    absurd (none_used_up used wants c.0 also is.0.here)
one_decision used wants (Refused c m) (Refused d n) is also =
    let same = lowest_same (IsUsedUp used wants) c.0 d.0 is.0 also.0 in
    same_refusal c.0 d.0 m n same (is.1 ∙ (ap used same ∙ sym also.1))

one_interaction : (p : Planned) (s a b : ℕ) → IsStationOf p s a → IsStationOf p s b → a ≡ b
one_interaction p s a b one other =
    let same : one.stations ≡ other.stations =
    stations_same p one.stations other.stations one.listed other.listed in
    let both : Some (inter a) ≡ Some (inter b) = sym one.here
    ∙ (ap (λ (xs : List InterId). slice_get xs s) same ∙ other.here) in
    let here : inter a ≡ inter b = cc in
    ap (λ (i : InterId). i.0) here

-- an interaction has one station
place_once : (list : List InterId) (s t a : ℕ)
    → IsStrictlyIncreasing (map (λ (i : InterId). i.0) list) → slice_get list s ≡ Some (inter a)
    → slice_get list t ≡ Some (inter a) → s ≡ t
place_once list s t a rising one other = elim (cases_order s t) [
  | inl same ↦ same
  | inr (inl lower) ↦ absurd (omega (
    arith,
    below_later (λ (i : InterId).
        i.0) list rising s t (inter a) lower (within t other),
    at s one,
    at t other,
  ))
  | inr (inr higher) ↦ absurd (omega (
    arith,
    below_later (λ (i : InterId).
        i.0) list rising t s (inter a) higher (within s one),
    at s one,
    at t other,
  ))
]
  where
    within : (k : ℕ) → slice_get list k ≡ Some (inter a) → k < length list
    within k here = slice_get_within list k (inter a) here

    at : (k : ℕ) → slice_get list k ≡ Some (inter a) → (get_or list k (inter a)).0 ≡ a
    at k here = ap (λ (i : InterId). i.0) (get_or_from_slice_get list k (inter a) (inter a) here)

one_station : (p : Planned) (a s t : ℕ) → IsStationOf p s a → IsStationOf p t a → s ≡ t
one_station p a s t one other =
    let same : one.stations ≡ other.stations =
    stations_same p one.stations other.stations one.listed other.listed in
    place_once other.stations s t a other.listed.rising
    (subst (λ (xs : List InterId). slice_get xs s ≡ Some (inter a)) same one.here) other.here

same_oldest : (q r : Request) (xs ys : List Request) → q ∷ xs ≡ r ∷ ys → (q ≡ r) × (xs ≡ ys)
same_oldest q r xs ys is = (cc, cc)

abbrev decided_content : BankContent → Request → Decision → List Request → Sharing → BankContent
decided_content b q d rest sharing = record (with_decision q d b) {
  waiting = put b.waiting q.inter.0 rest;
  sharing = sharing;
}

decided_but_serial : (b : BankContent) (q : Request) (d : Decision) (rest : List Request)
    (sharing : Sharing) → decided_content b q d rest sharing ≡ decided_content b q
    (decision_but_serial d) rest sharing
decided_but_serial b q (Granted n) rest sharing = refl
decided_but_serial b q (Refused c n) rest sharing = refl

same_decided : (b : BankContent) (q r : Request) (d e : Decision) (xs ys : List Request)
    (x y : Sharing) → q ≡ r → d ≡ e → xs ≡ ys → x ≡ y
    → decided_content b q d xs x ≡ decided_content b r e ys y
same_decided b q r d e xs ys x y requests decisions rests sharings =
    rw (requests, decisions, rests, sharings) refl

-- What steps do.

abbrev IsOne : BankContent → Acted → BankContent → Acted → BankContent → Type 0
IsOne b did later also other =
    (acted_but_serial did ≡ acted_but_serial also) × (later ≡ other) × MovesInOneWay later.sharing

can_decide : (b later : BankContent) (s : StationId) (q : Request) (d : Decision)
    → DoesStep b (Serve s) (Answered q d) later → IsDecided q d b later → CanDecide b s.0
can_decide b later s q d does is = record {
  complete = does.0;
  oldest = record {
    number = q.inter.0;
    request = q;
    rest = is.rest;
    station = does.1;
    first = is.oldest;
  };
  left = is.left;
}

both_decide : (b later other : BankContent) (s : ℕ) (q r : Request) (d e : Decision)
    → MovesInOneWay b.sharing → IsStationOf b.plan s q.inter.0 → IsDecided q d b later
    → IsStationOf b.plan s r.inter.0 → IsDecided r e b other
    → IsOne b (Answered q d) later (Answered r e) other
both_decide b later other s q r d e way here is there also =
    let first : q ∷ is.rest ≡ r ∷ also.rest = sym is.oldest
    ∙ (ap b.waiting (one_interaction b.plan s q.inter.0 r.inter.0 here there) ∙ also.oldest) in
    let oldest = same_oldest q r is.rest also.rest first in
    let decision : decision_but_serial d ≡ decision_but_serial e =
    one_decision b.used r.wants d e (subst (λ (x : Request). IsDecision b.used x.wants d)
    oldest.0 is.decision) also.decision in
    let decides = λ (k : ℕ). IsStationOf b.plan k r.inter.0 in
    let stays : StaysShared decides b.sharing later.sharing =
    subst (λ (x : Request). StaysShared (λ k. IsStationOf b.plan k x.inter.0) b.sharing
    later.sharing) oldest.0 is.sharing in
    let sharing : later.sharing ≡ other.sharing =
    stays_once decides b.sharing later.sharing other.sharing
    (one_station b.plan r.inter.0) way stays also.sharing in (
      ap₂ Answered oldest.0 decision,
      is.after ∙ (decided_but_serial b q d is.rest later.sharing
          ∙ (same_decided b q r (decision_but_serial d)
          (decision_but_serial e) is.rest also.rest later.sharing other.sharing oldest.0 decision
          oldest.1 sharing ∙ (sym (decided_but_serial b r e also.rest other.sharing)
          ∙ sym also.after))),
      stays_on decides b.sharing later.sharing way stays,
    )

nothing_twice : (b later other : BankContent) → MovesInOneWay b.sharing → later ≡ b → other ≡ b
    → IsOne b Nothing later Nothing other
nothing_twice b later other way is also = (
  refl,
  is ∙ sym also,
  subst (λ (x : BankContent). MovesInOneWay x.sharing) (sym is) way,
)

-- a step that doesn't serve
abbrev IsOtherStep : BankContent → BankStep → Acted → BankContent → Type 0
IsOtherStep b step Nothing later = MovesNothing b step
IsOtherStep b step Moved later = Moves b step later.sharing
IsOtherStep b step (Answered q d) later = ⊥

abbrev moved_content : BankContent → Sharing → BankContent
moved_content b sharing = record b { sharing = sharing }

once_moved : (b later other : BankContent) (step : BankStep) (did also : Acted)
    → MovesInOneWay b.sharing → IsOtherStep b step did later → IsActed did b later
    → IsOtherStep b step also other → IsActed also b other
    → IsOne b did later also other
once_moved b later other step Nothing Nothing way does is also_does also_is =
    nothing_twice b later other way is also_is
once_moved b later other step Nothing Moved way does is also_does also_is =
    absurd (moves_or_not (HasOldest b) b.sharing other.sharing step way also_does does)
once_moved b later other step Moved Nothing way does is also_does also_is =
    absurd (moves_or_not (HasOldest b) b.sharing later.sharing step way does also_does)
once_moved b later other step Moved Moved way does is also_does also_is = (
  refl,
  is ∙ (ap (moved_content b) (moves_once
      (HasOldest b) b.sharing later.sharing other.sharing step way does also_does) ∙ sym also_is),
  moves_on (HasOldest b) b.sharing later.sharing step way does,
)
once_moved b later other step (Answered q d) also way does is also_does also_is = absurd does
once_moved b later other step Nothing (Answered r e) way does is also_does also_is =
    absurd also_does
once_moved b later other step Moved (Answered r e) way does is also_does also_is = absurd also_does

other_deliver : (b later : BankContent) (k : ℕ) (did : Acted) → DoesStep b (Deliver k) did later
    → IsOtherStep b (Deliver k) did later
other_deliver b later k Nothing does = does
other_deliver b later k Moved does = does
other_deliver b later k (Answered q d) does = does

other_pass : (b later : BankContent) (s t : StationId) (did : Acted)
    → DoesStep b (Pass s t) did later → IsOtherStep b (Pass s t) did later
other_pass b later s t Nothing does = does
other_pass b later s t Moved does = does
other_pass b later s t (Answered q d) does = does

other_ask : (b later : BankContent) (s t : StationId) (did : Acted) → DoesStep b (Ask s t) did later
    → IsOtherStep b (Ask s t) did later
other_ask b later s t Nothing does = does
other_ask b later s t Moved does = does
other_ask b later s t (Answered q d) does = does

once_served : (b later other : BankContent) (s : StationId) (did also : Acted)
    → MovesInOneWay b.sharing → DoesStep b (Serve s) did later → IsActed did b later
    → DoesStep b (Serve s) also other → IsActed also b other
    → IsOne b did later also other
once_served b later other s Nothing Nothing way does is also_does also_is =
    nothing_twice b later other way is also_is
once_served b later other s Nothing Moved way does is also_does also_is = absurd also_does
once_served b later other s Nothing (Answered r e) way does is also_does also_is =
    absurd (does (can_decide b other s r e also_does also_is))
once_served b later other s Moved also way does is also_does also_is = absurd does
once_served b later other s (Answered q d) Nothing way does is also_does also_is =
    absurd (also_does (can_decide b later s q d does is))
once_served b later other s (Answered q d) Moved way does is also_does also_is = absurd also_does
once_served b later other s (Answered q d) (Answered r e) way does is also_does also_is =
    both_decide b later other s.0 q r d e way does.1 is also_does.1 also_is

pub one_answer_to_a_step : OneAnswerToAStep
one_answer_to_a_step b later other (Deliver k) did also way does is also_does also_is =
    once_moved b later other (Deliver k) did also way (other_deliver b later k did does) is
    (other_deliver b other k also also_does) also_is
one_answer_to_a_step b later other (Pass s t) did also way does is also_does also_is =
    once_moved b later other (Pass s t) did also way (other_pass b later s t did does) is
    (other_pass b other s t also also_does) also_is
one_answer_to_a_step b later other (Ask s t) did also way does is also_does also_is =
    once_moved b later other (Ask s t) did also way (other_ask b later s t did does) is
    (other_ask b other s t also also_does) also_is
one_answer_to_a_step b later other (Serve s) did also way does is also_does also_is =
    once_served b later other s did also way does is also_does also_is
