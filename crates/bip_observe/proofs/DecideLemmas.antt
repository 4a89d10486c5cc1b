-- What the searches of a decision find is its verdict.
use Rattle.std.proofs.Common.{◌≡◌, ℕ, ◌<◌, ◌≤◌, Bool, true, false, not, eqb, eqb-true, eq-eqb, List}
use Rattle.std.proofs.Common.{[], ◌∷◌, length, map, All, Option, None, Some, find, inl, inr, refl}
use Rattle.std.proofs.Common.{subst, sym, ◌∙◌, slice_get, arith}
use Rattle.std.specs.Prelude.{Contains, IsSomeAnd, IsTrue, nat_lt, unwrap_or}
use Rattle.std.specs.Option.{option_map, option_map_or}
use Rattle.std.proofs.lemmas.Bool.{false≢true, not-true}
use Rattle.std.proofs.lemmas.List.Elements.{All-contains, All-head, All-tail, All-weaker}
use Rattle.std.proofs.lemmas.List.Folds.{Any-from_list_any, list_any-from_Any}
use Rattle.bip_model.specs.Expressions.{counts}
use Rattle.bip_model.specs.Messages.{IsOfferOf}
use Rattle.bip_model.specs.Parts.{IsInteraction, IsSystem, Participant, count_of, counts_of}
use Rattle.bip_model.specs.Priorities.{HasAbove, IsListAbove, inter}
use Rattle.bip_model.specs.Steps.{moves, participants_of}
use Rattle.bip_model.specs.declared.messages.Offer.{Offer}
use Rattle.bip_model.specs.declared.numbering.CompId.{CompId}
use Rattle.bip_model.specs.declared.numbering.InterId.{InterId}
use Rattle.bip_model.specs.declared.parts.Component.{Component}
use Rattle.bip_model.specs.declared.parts.System.{System}
use Rattle.bip_model.proofs.LawLemmas.{rising_of}
use Rattle.bip_model.proofs.ListLemmas.{All-slice_get, found_at, not_found}
use Rattle.std.proofs.lemmas.Option.{slice_get_cases}
use Rattle.bip_model.specs.Numbering.{IsLowest}
use Rattle.bip_model.proofs.FoundLemmas.{first_is_lowest}
use Rattle.bip_observe.proofs.ExcludeLemmas.{exclude_from, exclude_to}
use Rattle.bip_observe.proofs.ShowLemmas.{moves_each, passes}
use Rattle.bip_observe.proofs.VerdictLemmas.{counted_own}
use Rattle.bip_observe.specs.Offers.{AreOwn, Observed}
use Rattle.bip_observe.specs.Verdicts.{AllCount, ArePortsOn, CanBeJudged, OfferCounts, Enable}
use Rattle.bip_observe.specs.Verdicts.{Exclude, IsMissing, IsOff, IsOpenAbove, IsVerdict, excludes}
use Rattle.bip_observe.specs.Verdicts.{first_missing, is_counted, no_offer, offers_of, port_on}
use Rattle.bip_observe.specs.declared.verdicts.Verdict.TheVariants.{Ready, PortOff}

-- an interaction moves the component of a participant
pub moves_it : (m : System) (a : ℕ) (q : Participant) → Contains (participants_of m a) q
    → moves m a q.0.0 ≡ true
moves_it m a q at = list_any-from_Any (λ (r : Participant). eqb r.0.0 q.0.0) (participants_of m a)
    (at.0, q, at.1, at.2, eq-eqb q.0.0 q.0.0 refl)

-- the lowest component of participants of which no offer counts
pub missing_found : (v : Observed) (a : ℕ) (c : CompId) → IsSystem v.plan.model
    → Some c ≡ first_missing v (participants_of v.plan.model a) → IsLowest (IsMissing v a) c.0
missing_found v a c valid is = by_find (find test (participants_of m a)) refl is
  where
    m : System
    m = v.plan.model

    test : Participant → Bool
    test q = not (is_counted v q.0.0)

    by_find : (found : Option Participant) → find test (participants_of m a) ≡ found
        → Some c ≡ option_map (λ (q : Participant). q.0) found → IsLowest (IsMissing v a) c.0
    by_find None find_is is = cc
    by_find (Some q) find_is is =
        let found = found_at test (participants_of m a) q find_is in
        let same : q.0 ≡ c = cc in
        rw (← same) (record {
          here = (moves_it m a q found.0, not-true (is_counted v q.0.0) found.1);
          lower = λ k below missing.
              let at = Any-from_list_any (λ (r : Participant). eqb r.0.0 k)
              (participants_of m a) missing.0 in
              let its = eqb-true at.1.0.0 k at.4 in
              let early = first_is_lowest (λ (r : Participant). r.0.0) test (participants_of m a) q
              (rising_of m a valid) find_is at.1 (at.0, at.2, at.3)
              (omega (arith, below, its)) in
              false≢true (sym missing.1 ∙ subst (λ (n : ℕ). is_counted v n ≡ true) its
              (passes (is_counted v at.1.0.0) early));
        })

pub none_missing : (v : Observed) (a : ℕ) → None ≡ first_missing v (participants_of v.plan.model a)
    → AllCount v a
none_missing v a is = by_find (find test (participants_of m a)) refl is
  where
    m : System
    m = v.plan.model

    test : Participant → Bool
    test q = not (is_counted v q.0.0)

    by_find : (found : Option Participant) → find test (participants_of m a) ≡ found
        → None ≡ option_map (λ (q : Participant). q.0) found → AllCount v a
    by_find None find_is is c takes =
        let at = Any-from_list_any (λ (r : Participant). eqb r.0.0 c) (participants_of m a) takes in
        let fails = All-contains (λ (r : Participant). test r ≡ false) (participants_of m a) at.1
        (not_found test (participants_of m a) find_is) (at.0, at.2, at.3) in
        subst (λ (n : ℕ). is_counted v n ≡ true) (eqb-true at.1.0.0 c at.4)
        (passes (is_counted v at.1.0.0) fails)
    by_find (Some q) find_is is c takes = cc

-- the component of the first participant whose port is off
abbrev pub off_first : System → (ℕ → Offer) → ℕ → Option CompId
off_first m o a = option_map (λ (q : Participant). q.0)
    (find (λ (q : Participant). not (port_on o q)) (participants_of m a))

pub off_found : (v : Observed) (a : ℕ) (c : CompId) → IsSystem v.plan.model → AllCount v a
    → Some c ≡ off_first v.plan.model (offers_of v) a → IsVerdict v a (PortOff c)
off_found v a c valid all is = (all, by_find (find test (participants_of m a)) refl is)
  where
    m : System
    m = v.plan.model

    test : Participant → Bool
    test q = not (port_on (offers_of v) q)

    by_find : (found : Option Participant) → find test (participants_of m a) ≡ found
        → Some c ≡ option_map (λ (q : Participant). q.0) found
        → IsLowest (IsOff m (offers_of v) a) c.0
    by_find None find_is is = cc
    by_find (Some q) find_is is =
        let found = found_at test (participants_of m a) q find_is in
        let same : q.0 ≡ c = cc in
        rw (← same) (record {
          here = (
            found.0.0,
            q,
            found.0.1,
            found.0.2,
            (refl, not-true (port_on (offers_of v) q) found.1),
          );
          lower = λ k below off.
              let early = first_is_lowest (λ (r : Participant). r.0.0) test (participants_of m a) q
              (rising_of m a valid) find_is off.1 (off.0, off.2, off.3)
              (omega (arith, below, off.4.0)) in
              false≢true (sym off.4.1 ∙ passes (port_on (offers_of v) off.1) early);
        })

pub none_off : (m : System) (o : ℕ → Offer) (a : ℕ) → None ≡ off_first m o a → ArePortsOn m o a
none_off m o a is = by_find (find test (participants_of m a)) refl is
  where
    test : Participant → Bool
    test q = not (port_on o q)

    by_find : (found : Option Participant) → find test (participants_of m a) ≡ found
        → None ≡ option_map (λ (q : Participant). q.0) found → ArePortsOn m o a
    by_find None find_is is = All-weaker (λ q. test q ≡ false) (λ q. IsTrue (port_on o q))
        (λ q fails. passes (port_on o q) fails) (participants_of m a)
        (not_found test (participants_of m a) find_is)
    by_find (Some q) find_is is = cc

-- the first of those above that the offers don't exclude
pub open_found : (v : Observed) (a : ℕ) (above : List InterId) (b : InterId)
    → IsListAbove v.plan.model.priorities a above
    → Some b ≡ find (λ (d : InterId). not (excludes v d.0)) above → IsLowest (IsOpenAbove v a) b.0
open_found v a above b list is =
    let test : InterId → Bool = λ d. not (excludes v d.0) in
    let found = found_at test above b (sym is) in
    record {
      here = (
        (list.exact b.0).0 found.0,
        λ exclude. false≢true (sym (not-true
            (excludes v b.0) found.1) ∙ exclude_to v b.0 exclude),
      );
      lower = λ k below open_.
          let early = first_is_lowest (λ (d : InterId). d.0) test above b list.rising (sym is)
          (inter k) ((list.exact k).1 open_.0) below in
          open_.1 (exclude_from v k (passes (excludes v k) early));
    }

pub none_open : (v : Observed) (a : ℕ) (above : List InterId)
    → IsListAbove v.plan.model.priorities a above
    → None ≡ find (λ (d : InterId). not (excludes v d.0)) above → (b : ℕ)
    → HasAbove v.plan.model.priorities a b → Exclude v.plan.model (offers_of v) (OfferCounts v) b
none_open v a above list is b higher =
    let test : InterId → Bool = λ d. not (excludes v d.0) in
    let fails = All-contains (λ (d : InterId). test d ≡ false) above (inter b)
    (not_found test above (sym is)) ((list.exact b).1 higher) in
    exclude_from v b (passes (excludes v b) fails)

pub ready_found : (v : Observed) (a : ℕ) (above : List InterId) → AreOwn v
    → a < length v.plan.model.interactions → IsListAbove v.plan.model.priorities a above
    → AllCount v a → Enable v.plan.model (offers_of v) a
    → None ≡ find (λ (d : InterId). not (excludes v d.0)) above → IsVerdict v a Ready
ready_found v a above own declared list all enable is = record {
  declared = declared;
  moved = all;
  own = λ c counted. counted_own v own c counted;
  enabled = enable;
  clear = none_open v a above list is;
}

-- an interaction of which all offers count can be judged
pub own_judged : (v : Observed) (a : ℕ) → a < length v.plan.model.interactions → AllCount v a
    → CanBeJudged v a
own_judged v a declared all = record {
  declared = declared;
  counted = λ k d within. all _ (moves_each v.plan.model a k d within);
}

-- an offer that counts has a value for each variable of its component
count_held : (v : Observed) (q : Participant) → AreOwn v → IsTrue (is_counted v q.0.0)
    → length (offers_of v q.0.0).values ≡ count_of v.plan.model.components q
count_held v q own counted = by_held (v.held q.0.0) refl counted
  where
    by_made : (offer : Offer) → offer.comp.0 ≡ q.0.0 → (declared : Option Component)
        → slice_get v.plan.model.components offer.comp.0 ≡ declared
        → IsSomeAnd declared (λ component. IsOfferOf component offer)
        → length offer.values ≡ count_of v.plan.model.components q
    by_made offer same None is none = absurd none
    by_made offer same (Some component) is made =
        let declared : slice_get v.plan.model.components q.0.0 ≡ Some component = rw same at is in
        rw declared made.values

    by_held : (o : Option Offer) → v.held q.0.0 ≡ o
        → option_map_or (λ (offer : Offer). nat_lt (v.known q.0.0) offer.number) o false ≡ true
        → length (unwrap_or o no_offer).values ≡ count_of v.plan.model.components q
    by_held None is counted = absurd (false≢true counted)
    by_held (Some offer) is counted =
        let its = own q.0.0 offer is in
        by_made offer its.0 (slice_get v.plan.model.components offer.comp.0) refl its.1.made

pub counts_held : (v : Observed) (qs : List Participant) → AreOwn v
    → All (λ (q : Participant). IsTrue (is_counted v q.0.0)) qs
    → counts (map (λ (q : Participant). (offers_of v q.0.0).values) qs)
    ≡ counts_of v.plan.model.components qs
counts_held v [] own counted = refl
counts_held v (q ∷ qs) own counted =
    rw (
      count_held v q own (All-head (λ (r : Participant). IsTrue (is_counted v r.0.0)) q qs
          counted),
      counts_held v qs own (All-tail
          (λ (r : Participant). IsTrue (is_counted v r.0.0)) q qs counted),
    ) refl

-- an interaction has at most eight participants
pub few_participants : (m : System) (a : ℕ) → IsSystem m → a < length m.interactions
    → length (participants_of m a) ≤ 8
few_participants m a valid declared = elim (slice_get_cases m.interactions a).1 [
  | inl here ↦ rw here.2 (All-slice_get (IsInteraction m.components) m.interactions a here.0
      valid.so_far.interactions here.2).few
  | inr past ↦ rw past.1 (omega arith)
]
