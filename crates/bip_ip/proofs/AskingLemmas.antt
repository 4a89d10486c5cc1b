-- What is wanted and told by offers.
use Rattle.std.proofs.Common.{◌≡◌, ℕ, ◌+◌, ◌<◌, ◌≤◌, ◌||◌, Bool, true, false, cond, eqb-true}
use Rattle.std.proofs.Common.{eq-eqb, List, [], ◌∷◌, filter, length, map, take, set, get_or, inl}
use Rattle.std.proofs.Common.{inr, refl, sym, ap, ◌∙◌, subst, zip, arith}
use Rattle.std.specs.Prelude.{All, Contains}
use Rattle.std.specs.List.{list_any}
use Rattle.std.proofs.lemmas.Bool.{cases_Bool, false≢true, or_cases}
use Rattle.std.proofs.lemmas.List.{append-nil, get_or-map, get_or_default, length-map, map-append}
use Rattle.std.proofs.lemmas.List.{take_all, take_more, take_more_set}
use Rattle.std.proofs.lemmas.List.Elements.{All-contains, All-map, filter-append, filter_passes}
use Rattle.std.proofs.lemmas.List.Folds.{Any-from_list_any, list_any-from_Any}
use Rattle.std.proofs.lemmas.List.Kept.{IsStrictlyIncreasing-filter}
use Rattle.std.proofs.lemmas.Simd.{map-map}
use Rattle.std.proofs.lemmas.Slice.Zip.{get_or-zip, length-zip}
use Rattle.std.proofs.lemmas.Option.{slice_get_cases}
use Rattle.bip_model.specs.Parts.{IsInteraction, IsSystem}
use Rattle.bip_model.proofs.ListLemmas.{All-slice_get, Contains-cases, Contains-filter}
use Rattle.bip_model.proofs.ListLemmas.{Contains-head, Contains-tail}
use Rattle.bip_model.proofs.PartyLemmas.{touches_above}
use Rattle.bip_model.specs.Parties.{AreWantsBy, IsWanted}
use Rattle.bip_model.specs.Reasons.{AreNaming, IsNamedBy}
use Rattle.bip_model.specs.Steps.{IsLookedAt, moves, participants_of}
use Rattle.bip_model.specs.Wants.{IsWants, is_moved}
use Rattle.bip_model.specs.declared.messages.Offer.{Offer}
use Rattle.bip_model.specs.declared.numbering.CompId.{CompId}
use Rattle.bip_model.specs.declared.parts.System.{System}
use Rattle.bip_model.specs.declared.reasons.Cause.{Cause}
use Rattle.bip_model.specs.declared.reasons.Cause.TheVariants.{Port, Guard}
use Rattle.bip_model.specs.declared.reasons.Why.{Why}
use Rattle.bip_model.specs.declared.wants.Role.{Role}
use Rattle.bip_model.specs.declared.wants.Role.TheVariants.{Moved, Seen}
use Rattle.bip_model.specs.declared.wants.Want.{Want}
use Rattle.bip_partition.specs.Plans.{IsListTouched, Touches}
use Rattle.bip_partition.proofs.LawLemmas.{each_moves}
use Rattle.bip_observe.specs.Laws.{IsSound}
use Rattle.bip_observe.specs.Offers.{Observed}
use Rattle.bip_observe.specs.Verdicts.{AllCount, OfferCounts, offers_of}
use Rattle.bip_observe.proofs.OfferLemmas.{counted_is_held}
use Rattle.bip_model.specs.declared.numbering.PortId.{PortId}
use Rattle.bip_ip.specs.Asking.{is_wanted, names, notify_of, want_by, wanted_among}

-- what is kept of a list is in it, and no more
Contains-kept : {X : Type 0} (p : X → Bool) (xs : List X) (x : X) → Contains (filter p xs) x
    → Contains xs x
Contains-kept p [] x at = at
Contains-kept p (y ∷ ys) x at = elim (cases_Bool (p y)) [
  | inl is ↦ elim (Contains-cases y (filter p ys) x (rw is at at)) [
    | inl same ↦ rw same (Contains-head x ys)
    | inr later ↦ Contains-tail y x ys (Contains-kept p ys x later)
  ]
  | inr fails ↦ Contains-tail y x ys (Contains-kept p ys x (rw fails at at))
]

kept_few : {X : Type 0} (p : X → Bool) (xs : List X) → length (filter p xs) ≤ length xs
kept_few p [] = omega arith
kept_few p (x ∷ xs) = let rest = kept_few p xs in grind arith

-- the role of what is moved or not
abbrev role_by : Bool → Role
role_by b = cond b Moved Seen

is_moved_by : (b : Bool) → role_by b ≡ Moved → b ≡ true
is_moved_by true is = refl
is_moved_by false is = cc

is_seen_by : (b : Bool) → role_by b ≡ Seen → b ≡ false
is_seen_by true is = cc
is_seen_by false is = refl

-- the wants of an interaction, by the list of what it touches
abbrev pub wants_of : System → (ℕ → Offer) → ℕ → List CompId → List Want
wants_of m o a cs = map (want_by m o a) cs

-- those of what is wanted among it
abbrev pub named_wants : System → (ℕ → Offer) → ℕ → List Why → List CompId → List Want
named_wants m o a reasons cs = wants_of m o a (wanted_among m a reasons cs)

-- reasons name a component exactly where the test says so
names_from : (m : System) (b : ℕ) (cause : Cause) (c : ℕ) → names m b cause c ≡ true
    → IsNamedBy m b cause c
names_from m b (Port d) c test = eqb-true d.0 c test
names_from m b Guard c test = test

names_to : (m : System) (b : ℕ) (cause : Cause) (c : ℕ) → IsNamedBy m b cause c
    → names m b cause c ≡ true
names_to m b (Port d) c named = eq-eqb d.0 c named
names_to m b Guard c named = named

module _ (m : System) (a : ℕ) (reasons : List Why) (c : ℕ) where
  abbrev test : Why → Bool
  test y = names m y.inter.0 y.cause c

  pub wanted_from_test : is_wanted m a reasons c ≡ true → moves m a c ≡ false
      → AreNaming m reasons c
  wanted_from_test is off = elim (or_cases (moves m a c) (list_any test reasons) is) [
    | inl on ↦ absurd (false≢true (sym off ∙ on))
    | inr some ↦
        let at = Any-from_list_any test reasons some in
        (at.0, at.1, at.2, at.3, names_from m at.1.inter.0 at.1.cause c at.4)
  ]

  pub test_from_moved : moves m a c ≡ true → is_wanted m a reasons c ≡ true
  test_from_moved on = rw on refl

  pub test_from_named : AreNaming m reasons c → is_wanted m a reasons c ≡ true
  test_from_named at =
      rw (list_any-from_Any test reasons (
        at.0,
        at.1,
        at.2,
        at.3,
        names_to m at.1.inter.0 at.1.cause c at.4,
      ))
      (or_true (moves m a c))
    where
      or_true : (b : Bool) → (b || true) ≡ true
      or_true true = refl
      or_true false = refl

-- what is wanted is touched, with its role
wanted_from : (m : System) (o : ℕ → Offer) (a : ℕ) (reasons : List Why) (cs : List CompId)
    (role : Role) (c : ℕ) → IsWanted role (named_wants m o a reasons cs) c
    → Contains cs (record { 0 = c }) × (is_wanted m a reasons c ≡ true)
    × (role_by (moves m a c) ≡ role)
wanted_from m o a reasons cs role c (j, u, within, is, at) =
    let kept = wanted_among m a reasons cs in
    let inside : j < length kept = simp length-map at within in
    let d = get_or kept j u.comp in
    let same : want_by m o a d ≡ u = sym (get_or-map (want_by m o a) kept j u.comp u inside) ∙ is in
    let number : d.0 ≡ c = ap (λ (w : Want). w.comp.0) same ∙ at.0 in
    let role' : role_by (moves m a d.0) ≡ role = ap (λ (w : Want). w.role) same ∙ at.1 in
    let there : Contains kept d = (j, inside, get_or_default kept j d u.comp inside) in
    let passes = All-contains (λ (x : CompId). is_wanted m a reasons x.0 ≡ true) kept d
    (filter_passes (λ (x : CompId). is_wanted m a reasons x.0) cs) there in
    let among : Contains cs d = Contains-kept
    (λ (x : CompId). is_wanted m a reasons x.0) cs d there in (
      subst (λ (n : ℕ). Contains cs (record { 0 = n })) number among,
      subst (λ (n : ℕ). is_wanted m a reasons n ≡ true) number passes,
      subst (λ (n : ℕ). role_by (moves m a n) ≡ role) number role',
    )

-- what passes among it is wanted, with its role
wanted_to : (m : System) (o : ℕ → Offer) (a : ℕ) (reasons : List Why) (cs : List CompId)
    (role : Role) (c : ℕ) → Contains cs (record { 0 = c }) → is_wanted m a reasons c ≡ true
    → role_by (moves m a c) ≡ role → IsWanted role (named_wants m o a reasons cs) c
wanted_to m o a reasons cs role c among passes is =
    let kept = wanted_among m a reasons cs in
    let d : CompId = record { 0 = c } in
    let at = Contains-filter (λ (x : CompId). is_wanted m a reasons x.0) cs d among passes in
    let w = want_by m o a d in (
      at.0,
      w,
      simp length-map at.1,
      get_or-map (want_by m o a) kept at.0 d w at.1 ∙ ap (want_by m o a) at.2,
      (refl, is),
    )

moved_touch : (m : System) (a c : ℕ) → Touches m a c → moves m a c ≡ false → IsLookedAt m a c
moved_touch m a c (inl on) off = absurd (false≢true (sym off ∙ on))
moved_touch m a c (inr look) off = look

-- what sound reasons name is touched
named_touched : (v : Observed) (a : ℕ) (reasons : List Why) (c : ℕ) → All (IsSound v a) reasons
    → AreNaming v.plan.model reasons c → Touches v.plan.model a c
named_touched v a reasons c sound at =
    let its = All-contains (IsSound v a) reasons at.1 sound (at.0, at.2, at.3) in
    touches_above v.plan.model a at.1.inter.0 c its.above (its.named c at.4).0

numbers_kept : (p : ℕ → Bool) (cs : List CompId)
    → map (λ (c : CompId). c.0) (filter (λ (c : CompId). p c.0) cs) ≡ filter p
    (map (λ (c : CompId). c.0) cs)
numbers_kept p [] = refl
numbers_kept p (c ∷ cs) = elim (cases_Bool (p c.0)) [
  | inl is ↦ rw (is, numbers_kept p cs) refl
  | inr fails ↦ rw (fails, numbers_kept p cs) refl
]

pub wants_by_offers : (v : Observed) (a : ℕ) (reasons : List Why) (cs : List CompId)
    → All (IsSound v a) reasons → IsListTouched v.plan.model a cs
    → AreWantsBy v.plan.model (offers_of v) a reasons
    (named_wants v.plan.model (offers_of v) a reasons cs)
wants_by_offers v a reasons cs sound list =
    let m = v.plan.model in
    let o = offers_of v in
    record {
      parties = record {
        moved = λ c. (
          λ wanted. is_moved_by (moves m a c) (wanted_from m o a reasons cs Moved c wanted).2,
          λ on. wanted_to m o a reasons cs Moved c ((list.exact c).1 (inl on))
              (test_from_moved m a reasons c on) (ap role_by on),
        );
        seen = λ c wanted.
            let from = wanted_from m o a reasons cs Seen c wanted in
            moved_touch m a c ((list.exact c).0 from.0) (is_seen_by (moves m a c) from.2);
      };
      named = λ c. (
        λ wanted.
            let from = wanted_from m o a reasons cs Seen c wanted in
            let off = is_seen_by (moves m a c) from.2 in
            (off, wanted_from_test m a reasons c from.1 off),
        λ both. wanted_to m o a reasons cs Seen c
            ((list.exact c).1 (named_touched v a reasons c sound both.1))
            (test_from_named m a reasons c both.1) (ap role_by both.0),
      );
      rising =
          rw (
            map-map (λ (w : Want). w.comp.0) (want_by m o a) (wanted_among m a reasons cs),
            numbers_kept (is_wanted m a reasons) cs,
          )
          (IsStrictlyIncreasing-filter (is_wanted m a reasons)
          (map (λ (c : CompId). c.0) cs) list.rising);
      numbers = All-map (λ (w : Want). w.number ≡ (o w.comp.0).number) (want_by m o a)
          (wanted_among m a reasons cs) (λ k d within. refl);
    }

-- what is wanted by offers that count can be the wants of one grant
pub wants_are : (v : Observed) (a : ℕ) (reasons : List Why) (cs : List CompId)
    → IsSystem v.plan.model → a < length v.plan.model.interactions → AllCount v a
    → All (IsSound v a) reasons → IsListTouched v.plan.model a cs → length cs ≤ 32
    → IsWants (named_wants v.plan.model (offers_of v) a reasons cs)
wants_are v a reasons cs valid declared counted sound list few =
    let m = v.plan.model in
    let o = offers_of v in
    let kept = wanted_among m a reasons cs in
    let by = wants_by_offers v a reasons cs sound list in
    let moved = each_moves m valid a declared in
    record {
      few = simp length-map (omega (
        arith,
        few,
        kept_few (λ (c : CompId). is_wanted m a reasons c.0) cs,
      ));
      rising = by.rising;
      numbered = All-map (λ (w : Want). 1 ≤ w.number) (want_by m o a) kept (λ k d within.
          let c = get_or kept k d in
          let passes = All-contains (λ (x : CompId). is_wanted m a reasons x.0 ≡ true) kept c
          (filter_passes (λ (x : CompId). is_wanted m a reasons x.0) cs)
          (k, within, get_or_default kept k c d within) in
          let above = ((counted_is_held v c.0).0 (is_counted_by c.0 passes)).1 in
          omega (arith, above));
      moving =
          let wanted = (by.parties.moved moved.0).1 moved.1 in
          list_any-from_Any (λ (w : Want). is_moved w.role) (named_wants m o a reasons cs)
          (wanted.0, wanted.1, wanted.2, wanted.3, ap is_moved wanted.4.1);
    }
  where
    is_counted_by : (c : ℕ) → is_wanted v.plan.model a reasons c ≡ true → OfferCounts v c
    is_counted_by c passes = elim (cases_Bool (moves v.plan.model a c)) [
      | inl on ↦ counted c on
      | inr off ↦
          let at = wanted_from_test v.plan.model a reasons c passes off in
          ((All-contains (IsSound v a) reasons at.1 sound (at.0, at.2, at.3)).named c at.4).1
    ]

-- one more pair is told
pub tells_more : {A B Y : Type 0} (f : A × B → Y) (told : List Y) (qs : List A) (xs : List B)
    (i : ℕ) (q : A) (x : B) (n : Y) → i < length told → i < length qs → length xs ≡ length qs
    → take i told ≡ take i (map f (zip qs xs)) → n ≡ f (get_or qs i q, get_or xs i x)
    → take (i + 1) (set told i n) ≡ take (i + 1) (map f (zip qs xs))
tells_more f told qs xs i q x n room within each before is =
    let all = map f (zip qs xs) in
    let inside : i < length (zip qs xs) = rw (length-zip qs xs) (omega (arith, within, each)) in
    let long : i < length all = simp length-map inside in
    let at : get_or all i n ≡ n = get_or-map f (zip qs xs) i (q, x) n inside
    ∙ (ap f (get_or-zip qs xs i (q, x) within (omega (arith, within, each))) ∙ sym is) in
    rw (take_more_set told i n room, take_more all i n long, before, at) refl

-- an interaction has a participant
pub some_participant : (m : System) (a : ℕ) → IsSystem m → a < length m.interactions
    → 1 ≤ length (participants_of m a)
some_participant m a valid declared = elim (slice_get_cases m.interactions a).1 [
  | inl here ↦
      let some = (All-slice_get (IsInteraction m.components) m.interactions a here.0
      valid.so_far.interactions here.2).some in
      rw here.2 (omega (arith, some))
  | inr past ↦ absurd (omega (arith, past.0, declared))
]

-- what a participant is told, by its parts
pub same_notify : (c : CompId) (p : PortId) (n k : ℕ) (xs ys : List ℕ) (o : ℕ → Offer)
    → n ≡ (o c.0).number → xs ≡ ys → record { number = n; values = xs; comp = c; port = p }
    ≡ notify_of o ((c, p), ys)
same_notify c p n k xs ys o number values = rw (number, values) refl

-- what was put so far is all
pub put_all : {X : Type 0} (told all : List X) (i n : ℕ) → n ≤ i → i ≤ n → length all ≡ n
    → take i told ≡ take i all → take n told ≡ all
put_all told all i n past within long same =
    let end : i ≡ n = omega arith in
    (rw end at same) ∙ take_all n all (omega (arith, long))

-- the wants that were put so far are those of what is wanted of the components so far
pub wants_put : (m : System) (o : ℕ → Offer) (a : ℕ) (reasons : List Why) (cs : List CompId)
    (wants : List Want) (i count : ℕ) → length cs ≤ i → i ≤ length cs
    → take count wants ≡ named_wants m o a reasons (take i cs)
    → take count wants ≡ named_wants m o a reasons cs
wants_put m o a reasons cs wants i count past within same =
    let end : i ≡ length cs = omega arith in
    same ∙ ap (named_wants m o a reasons) (ap (λ (n : ℕ). take n cs) end
    ∙ take_all (length cs) cs (omega arith))

-- one component more is wanted
pub wanted_more : (m : System) (o : ℕ → Offer) (a : ℕ) (reasons : List Why) (cs : List CompId)
    (wants : List Want) (i count : ℕ) (c : CompId) (w : Want) → i < length cs → count < length wants
    → get_or cs i c ≡ c → is_wanted m a reasons c.0 ≡ true → w ≡ want_by m o a c
    → take count wants ≡ named_wants m o a reasons (take i cs)
    → take (count + 1) (set wants count w) ≡ named_wants m o a reasons (take (i + 1) cs)
wanted_more m o a reasons cs wants i count c w within room here passes is before =
    let p : CompId → Bool = λ (x : CompId). is_wanted m a reasons x.0 in
    rw (
      take_more_set wants count w room,
      take_more cs i c within,
      here,
      filter-append p (take i cs) (c ∷ []),
      passes,
      map-append (want_by m o a)
          (filter p (take i cs)) (c ∷ []),
      before,
      is,
    ) refl

-- one is passed over
pub passed_over : (m : System) (o : ℕ → Offer) (a : ℕ) (reasons : List Why) (cs : List CompId)
    (wants : List Want) (i count : ℕ) (c : CompId) → i < length cs → get_or cs i c ≡ c
    → is_wanted m a reasons c.0 ≡ false
    → take count wants ≡ named_wants m o a reasons (take i cs)
    → take count wants ≡ named_wants m o a reasons (take (i + 1) cs)
passed_over m o a reasons cs wants i count c within here fails before =
    let p : CompId → Bool = λ (x : CompId). is_wanted m a reasons x.0 in
    rw (
      take_more cs i c within,
      here,
      filter-append p (take i cs) (c ∷ []),
      fails,
      append-nil (filter p (take i cs)),
    ) before
