-- Reasons: that those of a class are true, and suffice.
use Rattle.std.proofs.Common.{◌≡◌, ℕ, ◌+◌, ◌<◌, ◌≤◌, Bool, true, false, not, ◌&&◌, ◌||◌, ◌++◌, eqb}
use Rattle.std.proofs.Common.{eqb-true, List, [], ◌∷◌, length, map, get_or, set, take, Option, None}
use Rattle.std.proofs.Common.{Some, find, inl, inr, refl, subst, sym, ap, ◌∙◌, arith}
use Rattle.std.specs.Prelude.{Contains}
use Rattle.std.specs.List.Sorted.{IsStrictlyIncreasing}
use Rattle.std.specs.Option.{option_map}
use Rattle.std.specs.List.{list_any}
use Rattle.std.proofs.lemmas.Bool.{and_parts, cases_Bool, false≢true, not-true, or_cases}
use Rattle.std.proofs.lemmas.List.{get_or-map, length-append, length-map, map-append, take_all}
use Rattle.std.proofs.lemmas.List.{take_more, take_more_set}
use Rattle.std.proofs.lemmas.Cmp.{nat_eq_equiv}
use Rattle.std.proofs.lemmas.Map.Keys.{IsDistinct-push}
use Rattle.std.proofs.lemmas.Map.Steps.{length-le_from_distinct_below}
use Rattle.std.proofs.lemmas.Simd.{map-map}
use Rattle.std.proofs.lemmas.List.Elements.{All-contains, All-map, Contains-get_or}
use Rattle.std.proofs.lemmas.List.Folds.{Any-from_list_any, list_any-append}
use Rattle.bip_model.specs.Parties.{HasWantOf, IsBorne}
use Rattle.bip_model.specs.Parts.{IsSystem, Participant}
use Rattle.bip_model.specs.Priorities.{HasAbove, IsListAbove, inter}
use Rattle.bip_model.specs.Reasons.{IsNameable, IsNamedBy, IsReasons, inters_of}
use Rattle.bip_model.specs.Steps.{moves, participants_of}
use Rattle.bip_model.specs.declared.messages.Offer.{Offer}
use Rattle.bip_model.specs.declared.numbering.CompId.{CompId}
use Rattle.bip_model.specs.declared.numbering.InterId.{InterId}
use Rattle.bip_model.specs.declared.parts.System.{System}
use Rattle.bip_model.specs.declared.reasons.Cause.{Cause}
use Rattle.bip_model.specs.declared.reasons.Cause.TheVariants.{Port, Guard}
use Rattle.bip_model.specs.declared.reasons.Why.{Why}
use Rattle.bip_model.specs.declared.wants.Want.{Want}
use Rattle.bip_model.proofs.ListLemmas.{found_at, not_found}
use Rattle.bip_model.proofs.NumberingLemmas.{apart_from_rises, rises_from_increasing, same_list}
use Rattle.bip_model.proofs.AboveLemmas.{HasAbove-high}
use Rattle.bip_model.proofs.LookLemmas.{moves_known}
use Rattle.bip_model.proofs.PartyLemmas.{moving_is_wanted}
use Rattle.bip_observe.specs.Laws.{OneReasonsEach, ReasonsAreSound, ReasonsSuffice}
use Rattle.bip_observe.specs.Offers.{Observed}
use Rattle.bip_observe.specs.Verdicts.{AreReasonsBy, OfferCounts, Exclude, IsOff, IsTrueOf}
use Rattle.bip_observe.specs.Verdicts.{cause_by, cause_of, first_known_off, first_moved_off}
use Rattle.bip_observe.specs.Verdicts.{guard_holds, is_counted, is_known_off, offers_of, port_on}
use Rattle.bip_observe.specs.Verdicts.{why_by}
use Rattle.bip_observe.proofs.DecideLemmas.{moves_it}
use Rattle.bip_observe.proofs.ShowLemmas.{moves_each}

-- ---- those of a class are true

-- a component that an interaction moves, whose offer counts, and is off for it
record IsKnownOff (v : Observed) (b : ℕ) (c : ℕ) : Type 0 where
  moved : moves v.plan.model b c ≡ true
  counts : OfferCounts v c
  off : IsOff v.plan.model (offers_of v) b c

known_off : (v : Observed) (b : ℕ) (q : Participant) → Contains (participants_of v.plan.model b) q
    → is_known_off v q ≡ true → IsKnownOff v b q.0.0
known_off v b q at test =
    let both = and_parts (is_counted v q.0.0) (not (port_on (offers_of v) q)) test in
    record {
      moved = moves_it v.plan.model b q at;
      counts = both.0;
      off = (at.0, q, at.1, at.2, (refl, not-true (port_on (offers_of v) q) both.1));
    }

first_is_off : (v : Observed) (b : ℕ) (c : CompId)
    → first_known_off v (participants_of v.plan.model b) ≡ Some c → IsKnownOff v b c.0
first_is_off v b c is = by_find (find (is_known_off v) (participants_of v.plan.model b)) refl is
  where
    by_find : (o : Option Participant) → find (is_known_off v) (participants_of v.plan.model b) ≡ o
        → option_map (λ (q : Participant). q.0) o ≡ Some c → IsKnownOff v b c.0
    by_find None found is = cc
    by_find (Some q) found is =
        let at = found_at (is_known_off v) (participants_of v.plan.model b) q found in
        let same : q.0 ≡ c = cc in
        subst (λ (d : CompId). IsKnownOff v b d.0) same (known_off v b q at.0 at.1)

moved_is_off : (v : Observed) (a b : ℕ) (c : CompId)
    → first_moved_off v a (participants_of v.plan.model b) ≡ Some c → IsKnownOff v b c.0
moved_is_off v a b c is = by_find (find test (participants_of v.plan.model b)) refl is
  where
    test : Participant → Bool
    test q = moves v.plan.model a q.0.0 && is_known_off v q

    by_find : (o : Option Participant) → find test (participants_of v.plan.model b) ≡ o
        → option_map (λ (q : Participant). q.0) o ≡ Some c → IsKnownOff v b c.0
    by_find None found is = cc
    by_find (Some q) found is =
        let at = found_at test (participants_of v.plan.model b) q found in
        let same : q.0 ≡ c = cc in
        let both = and_parts (moves v.plan.model a q.0.0) (is_known_off v q) at.1 in
        subst (λ (d : CompId). IsKnownOff v b d.0) same (known_off v b q at.0 both.1)

-- where none is known to be off, the offers exclude an interaction by its guard alone
by_guard : (v : Observed) (b : ℕ) → first_known_off v (participants_of v.plan.model b) ≡ None
    → Exclude v.plan.model (offers_of v) (OfferCounts v) b
    → ((c : ℕ) → moves v.plan.model b c ≡ true → OfferCounts v c)
    × (guard_holds v.plan.model (offers_of v) b ≡ false)
by_guard v b is exclude = elim exclude [
  | inl at ↦ absurd (by_find (find (is_known_off v) (participants_of v.plan.model b)) refl is at.1
      (at.0, at.2, at.3) at.4)
  | inr both ↦ (
    λ c takes.
        let at = Any-from_list_any (λ (r : Participant). eqb r.0.0 c)
        (participants_of v.plan.model b) takes in
        subst (OfferCounts v) (eqb-true at.1.0.0 c at.4)
        (All-contains (λ (r : Participant). OfferCounts v r.0.0)
        (participants_of v.plan.model b) at.1 both.0 (at.0, at.2, at.3)),
    both.1,
  )
]
  where
    by_find : (o : Option Participant) → find (is_known_off v) (participants_of v.plan.model b) ≡ o
        → option_map (λ (q : Participant). q.0) o ≡ None → (q : Participant)
        → Contains (participants_of v.plan.model b) q → OfferCounts v q.0.0
        × (port_on (offers_of v) q ≡ false) → ⊥
    by_find (Some r) found is q at off = cc
    by_find None found is q at off =
        let fails = All-contains (λ (r : Participant). is_known_off v r ≡ false)
        (participants_of v.plan.model b) q
        (not_found (is_known_off v) (participants_of v.plan.model b) found) at in
        let passes : is_known_off v q ≡ true = rw (off.0, off.1) refl in
        false≢true (sym fails ∙ passes)

record IsGood (v : Observed) (b : ℕ) (cause : Cause) : Type 0 where
  named : (c : ℕ) → IsNamedBy v.plan.model b cause c → (moves v.plan.model b c ≡ true)
      × OfferCounts v c
  so : IsTrueOf v.plan.model (offers_of v) b cause

good_port : (v : Observed) (b : ℕ) (c : CompId) → IsKnownOff v b c.0 → IsGood v b (Port c)
good_port v b c off = record {
  named = λ d same. (
    subst (λ (n : ℕ). moves v.plan.model b n ≡ true) same off.moved,
    subst (OfferCounts v) same off.counts,
  );
  so = off.off;
}

good_cause : (v : Observed) (a b : ℕ) → Exclude v.plan.model (offers_of v) (OfferCounts v) b
    → IsGood v b (cause_by v a b)
good_cause v a b exclude = by_first (first_moved_off v a (participants_of v.plan.model b)) refl
    (first_known_off v (participants_of v.plan.model b)) refl
  where
    by_first : (x : Option CompId) → first_moved_off v a (participants_of v.plan.model b) ≡ x
        → (y : Option CompId) → first_known_off v (participants_of v.plan.model b) ≡ y
        → IsGood v b (cause_of x y)
    by_first (Some c) is y also = good_port v b c (moved_is_off v a b c is)
    by_first None is (Some c) also = good_port v b c (first_is_off v b c also)
    by_first None is None also =
        let by = by_guard v b also exclude in
        record { named = λ c takes. (takes, by.0 c takes); so = by.1 }

pub reasons_sound : ReasonsAreSound
reasons_sound v a reasons ready by k d within =
    let y = get_or reasons k d in
    let at = Contains-get_or reasons k d within in
    let above = (by.each y.inter.0).0 (at.0, y, at.1, at.2, refl) in
    let good = good_cause v a y.inter.0 (ready.clear y.inter.0 above) in
    let is = by.causes k d within in
    record {
      above = above;
      named = subst (λ (x : Cause). (c : ℕ) → IsNamedBy v.plan.model y.inter.0 x c
          → (moves v.plan.model y.inter.0 c ≡ true) × OfferCounts v c) (sym is) good.named;
      so = subst (λ (x : Cause). IsTrueOf v.plan.model (offers_of v) y.inter.0 x) (sym is) good.so;
    }

-- ---- and suffice

-- a true reason, whose components are wanted, excludes its interaction
excluded_by : (m : System) (o : ℕ → Offer) (wants : List Want) (b : ℕ) (cause : Cause)
    → ((c : ℕ) → IsNamedBy m b cause c → (moves m b c ≡ true) × HasWantOf wants c)
    → IsTrueOf m o b cause → Exclude m o (HasWantOf wants) b
excluded_by m o wants b (Port c) borne so =
    inl (so.0, so.1, so.2, so.3, (subst (HasWantOf wants) (sym so.4.0) (borne c.0 refl).1, so.4.1))
excluded_by m o wants b Guard borne so = inr (
  λ k d within. (borne _ (moves_each m b k d within)).1,
  so,
)

pub reasons_suffice : ReasonsSuffice
reasons_suffice m o a wants reasons declared parties are so enabled own = record {
  declared = declared;
  moved = moving_is_wanted m a wants parties;
  own = own;
  enabled = enabled;
  clear = λ b above.
      let at = (are.each b).1 above in
      let borne = All-contains (IsBorne m wants) reasons at.1 are.borne (at.0, at.2, at.3) in
      let true_ = All-contains (λ (y : Why). IsTrueOf m o y.inter.0 y.cause) reasons at.1 so
      (at.0, at.2, at.3) in
      subst (Exclude m o (HasWantOf wants)) at.4
      (excluded_by m o wants at.1.inter.0 at.1.cause borne true_);
}

-- ---- and are one list

abbrev why_of : ℕ → Cause → Why
why_of b cause = record { inter = record { 0 = b }; cause = cause }

same_why : (b d : ℕ) (x y : Cause) → b ≡ d → x ≡ y → why_of b x ≡ why_of d y
same_why b d x y inters causes = rw (inters, causes) refl

both_have : (v : Observed) (a : ℕ) (xs ys : List Why) → AreReasonsBy v a xs → AreReasonsBy v a ys
    → (y : Why) → Contains xs y → Contains ys y
both_have v a xs ys one other y at =
    let above = (one.each y.inter.0).0 (at.0, y, at.1, at.2, refl) in
    let (k, z, within, is, same) = (other.each y.inter.0).1 above in
    let mine : y.cause ≡ cause_by v a y.inter.0 =
    All-contains (λ (w : Why). w.cause ≡ cause_by v a w.inter.0) xs y one.causes at in
    let theirs : z.cause ≡ cause_by v a z.inter.0 =
    All-contains (λ (w : Why). w.cause ≡ cause_by v a w.inter.0) ys z other.causes
    (k, within, is) in
    let equal : z ≡ y = same_why z.inter.0 y.inter.0 z.cause y.cause same
    (theirs ∙ (ap (cause_by v a) same ∙ sym mine)) in
    subst (λ (w : Why). Contains ys w) equal (k, within, is)

pub one_reasons_each : OneReasonsEach
one_reasons_each v a xs ys one other =
    same_list (λ (y : Why). y.inter.0) xs ys (rises_from_increasing (inters_of xs) one.rising)
    (rises_from_increasing (inters_of ys) other.rising)
    (both_have v a xs ys one other) (both_have v a ys xs other one)

-- ---- those of a class are made

-- less than all interactions are above one
pub few_above : (m : System) (a : ℕ) (above : List InterId) → IsSystem m → a < length m.interactions
    → IsListAbove m.priorities a above → length above ≤ 127
few_above m a above valid declared list =
    let all = length-le_from_distinct_below (numbers ++ a ∷ []) (length m.interactions)
    (IsDistinct-push nat_eq_equiv numbers a
    (apart_from_rises numbers (rises_from_increasing numbers list.rising)) apart) below in
    let one_more = length-append numbers (a ∷ []) in
    let long : length numbers ≡ length above = length-map above (λ (b : InterId). b.0) in
    let few = valid.so_far.few_interactions in
    omega (arith, all, one_more, long, few)
  where
    numbers : List ℕ
    numbers = map (λ (b : InterId). b.0) above

    is_above : (q : ℕ) → list_any (eqb q) numbers ≡ true → HasAbove m.priorities a q
    is_above q test =
        let at = Any-from_list_any (eqb q) numbers test in
        let inside : at.0 < length above = simp length-map at at.2 in
        let d : InterId = inter at.1 in
        let here : (get_or above at.0 d).0 ≡ q =
        sym (get_or-map (λ (b : InterId). b.0) above at.0 d at.1 inside)
        ∙ (at.3 ∙ sym (eqb-true q at.1 at.4)) in
        subst (HasAbove m.priorities a) here ((list.exact (get_or above at.0 d).0).0
        (Contains-get_or above at.0 d inside))

    apart : list_any (eqb a) numbers ≡ false
    apart = elim (cases_Bool (list_any (eqb a) numbers)) [
      | inl own ↦ absurd (valid.acyclic (a, is_above a own))
      | inr other ↦ other
    ]

    below : (q : ℕ) → list_any (eqb q) (numbers ++ a ∷ []) ≡ true → q < length m.interactions
    below q known = elim (or_cases (list_any (eqb q) numbers) (eqb q a || false)
        (sym (list_any-append (eqb q) numbers (a ∷ [])) ∙ known)) [
          | inl higher ↦ HasAbove-high (length m.interactions) m.priorities a q
              valid.so_far.priorities
              (is_above q higher)
          | inr last ↦ elim (or_cases (eqb q a) false last) [
            | inl same ↦ omega (arith, eqb-true q a same, declared)
            | inr none ↦ absurd (false≢true none)
          ]
        ]

-- the reasons for what is above
abbrev pub whys_by : Observed → ℕ → List InterId → List Why
whys_by v a above = map (why_by v a) above

whys_rise : (v : Observed) (a : ℕ) (above : List InterId)
    → IsListAbove v.plan.model.priorities a above
    → IsStrictlyIncreasing (inters_of (whys_by v a above))
whys_rise v a above list = rw (map-map (λ (y : Why). y.inter.0) (why_by v a) above) list.rising

-- each cause can be named: the components of a model are few
cause_nameable : (v : Observed) (a b : ℕ) → IsSystem v.plan.model → IsNameable (cause_by v a b)
cause_nameable v a b valid = by_first (first_moved_off v a (participants_of v.plan.model b)) refl
    (first_known_off v (participants_of v.plan.model b)) refl
  where
    low : (c : CompId) → IsKnownOff v b c.0 → c.0 < 65535
    low c off = omega (
      arith,
      moves_known v.plan.model b c.0 valid.so_far off.moved,
      valid.so_far.few_components,
    )

    by_first : (x : Option CompId) → first_moved_off v a (participants_of v.plan.model b) ≡ x
        → (y : Option CompId) → first_known_off v (participants_of v.plan.model b) ≡ y
        → IsNameable (cause_of x y)
    by_first (Some c) is y also = low c (moved_is_off v a b c is)
    by_first None is (Some c) also = low c (first_is_off v b c also)
    by_first None is None also = tt

pub whys_are : (v : Observed) (a : ℕ) (above : List InterId) → IsSystem v.plan.model
    → IsListAbove v.plan.model.priorities a above → length above ≤ 127
    → IsReasons (whys_by v a above)
whys_are v a above valid list few = record {
  few = simp length-map few;
  rising = whys_rise v a above list;
  nameable = All-map (λ (y : Why). IsNameable y.cause) (why_by v a) above
      (λ k d within. cause_nameable v a (get_or above k d).0 valid);
}

pub whys_found : (v : Observed) (a : ℕ) (above : List InterId)
    → IsListAbove v.plan.model.priorities a above → AreReasonsBy v a (whys_by v a above)
whys_found v a above list = record {
  rising = whys_rise v a above list;
  each = λ b. (
    λ at.
        let inside : at.0 < length above = simp length-map at at.2 in
        let d = get_or above at.0 at.1.inter in
        let same : why_by v a d ≡ at.1 = sym (get_or-map
        (why_by v a) above at.0 at.1.inter at.1 inside) ∙ at.3 in
        subst (HasAbove v.plan.model.priorities a) (ap (λ (y : Why). y.inter.0) same ∙ at.4)
        ((list.exact d.0).0 (Contains-get_or above at.0 at.1.inter inside)),
    λ higher.
        let at = (list.exact b).1 higher in
        let y = why_by v a (inter b) in (
          at.0,
          y,
          simp length-map at.1,
          get_or-map (why_by v a) above at.0 (inter
              b) y at.1 ∙ ap (why_by v a) at.2,
          refl,
        ),
  );
  causes = All-map (λ (y : Why). y.cause ≡ cause_by v a y.inter.0) (why_by v a) above
      (λ k d within. refl);
}

-- one more is put, and all are
pub why_put : (v : Observed) (a : ℕ) (above : List InterId) (whys : List Why) (i : ℕ) (b : InterId)
    (y : Why) → i < length whys → i < length above → get_or above i b ≡ b → y ≡ why_by v a b
    → take i whys ≡ whys_by v a (take i above)
    → take (i + 1) (set whys i y) ≡ whys_by v a (take (i + 1) above)
why_put v a above whys i b y room within here is before =
    rw (
      take_more_set whys i y room,
      take_more above i b within,
      here,
      map-append (why_by v a) (take i above) (b ∷ []),
      before,
      is,
    ) refl

pub whys_put : (v : Observed) (a : ℕ) (above : List InterId) (whys : List Why) (i : ℕ)
    → length above ≤ i → i ≤ length above → take i whys ≡ whys_by v a (take i above)
    → take (length above) whys ≡ whys_by v a above
whys_put v a above whys i past within same =
    let end : i ≡ length above = omega arith in
    (rw end at same) ∙ ap (whys_by v a) (take_all (length above) above (omega arith))
