-- Parties: what the tests of wants say.
use Rattle.std.proofs.Common.{◌≡◌, ℕ, ◌<◌, Bool, true, false, eqb, List, length, get_or, refl, sym}
use Rattle.std.proofs.Common.{ap, ◌∙◌, ◌⊎◌, inl, inr, ◌&&◌}
use Rattle.std.specs.Prelude.{◌↔◌, ◌||◌, All, Contains}
use Rattle.std.specs.List.{list_all, list_any}
use Rattle.std.proofs.lemmas.List.Elements.{Contains-get_or}
use Rattle.std.proofs.lemmas.List.Folds.{Any-from_list_any, list_any-from_Any}
use Rattle.bip_model.specs.declared.wants.Role.{Role}
use Rattle.bip_model.specs.declared.wants.Role.TheVariants.{Moved, Seen}
use Rattle.bip_model.specs.declared.wants.Want.{Want}
use Rattle.bip_model.specs.Parts.{Participant, IsSystem}
use Rattle.bip_model.specs.Wants.{is_moved}
use Rattle.bip_model.specs.declared.parts.System.{System}
use Rattle.bip_model.specs.Steps.{moves, offered, participants_of}
use Rattle.std.proofs.Common.{eq-eqb, eqb-true, not, subst}
use Rattle.std.proofs.lemmas.Bool.{and_parts, false≢true, not-true, or_cases}
use Rattle.std.proofs.lemmas.List.Elements.{All-contains}
use Rattle.std.proofs.lemmas.List.Folds.{list_any_at}
use Rattle.std.proofs.lemmas.List.Sums.{AllPass-from_list_all, list_all-from_AllPass}
use Rattle.bip_model.specs.declared.numbering.CompId.{CompId}
use Rattle.bip_model.specs.declared.numbering.InterId.{InterId}
use Rattle.bip_model.specs.Priorities.{HasAbove, IsListAbove, inter}
use Rattle.bip_model.specs.States.{State}
use Rattle.bip_model.specs.Steps.{IsListLookedAt, IsLookedAt}
use Rattle.bip_model.proofs.LookLemmas.{looked_known, moves_known}
use Rattle.std.proofs.lemmas.Bool.{cases_Bool}
use Rattle.bip_model.specs.Parts.{IsSystemSoFar}
use Rattle.bip_model.specs.Laws.{AllPartiesCover, HasItsRole, PartiesAreWanted, PartiesHaveRoles}
use Rattle.bip_model.specs.Parties.{AreParties, CoverAbove, HasWantOf, Cover, IsWanted, SeeAll}
use Rattle.bip_model.specs.Parties.{are_parties, has_want_of, is_covered, is_moving, is_party}
use Rattle.bip_model.specs.Parties.{is_seeing, see_all}
use Rattle.bip_model.proofs.AboveLemmas.{HasAbove-high}
use Rattle.bip_model.proofs.AboveLists.{above_listed, looks_listed}

-- the role that is moved, and the one that isn't
pub moved_role : (r : Role) → is_moved r ≡ true → r ≡ Moved
moved_role Moved is = refl
moved_role Seen is = absurd (false≢true is)

seen_role : (r : Role) → not (is_moved r) ≡ true → r ≡ Seen
seen_role Moved is = absurd (false≢true is)
seen_role Seen is = refl

-- a want among others moves, or its component is seen
pub moved_or_seen : (ws : List Want) (w : Want) → Contains ws w → (w.role ≡ Moved)
    ⊎ IsWanted Seen ws w.comp.0
moved_or_seen ws w at = by_role w.role refl
  where
    by_role : (r : Role) → w.role ≡ r → (w.role ≡ Moved) ⊎ IsWanted Seen ws w.comp.0
    by_role Moved is = inl is
    by_role Seen is = inr (at.0, w, at.1, at.2, (refl, is))

-- what is looked at is listed
pub in_looks : (m : System) (a : ℕ) (looks : List CompId) → IsListLookedAt m a looks → (c : ℕ)
    → IsLookedAt m a c ↔ (list_any (λ (d : CompId). eqb d.0 c) looks ≡ true)
in_looks m a looks listed c = (
  λ looked. let at = (listed.exact c).1 looked in
      list_any-from_Any (λ (d : CompId). eqb d.0 c) looks
      (at.0, record { 0 = c }, at.1, at.2, eq-eqb c c refl),
  λ test. let at = Any-from_list_any (λ (d : CompId). eqb d.0 c) looks test in
      subst (IsLookedAt m a) (eqb-true at.1.0 c at.4) ((listed.exact at.1.0).0 (at.0, at.2, at.3)),
)

-- wants that pass the test move what the interaction moves, and see what it looks at
module _ (m : System) (a : ℕ) (ws : List Want) (qs : List Participant) (looks : List CompId)
    (is : qs ≡ participants_of m a) (listed : IsListLookedAt m a looks) where
  -- a component is wanted exactly where a want passes
  moving : (c : ℕ) → IsWanted Moved ws c ↔ (list_any (is_moving c) ws ≡ true)
  moving c = (
    λ at. list_any-from_Any (is_moving c) ws (
      at.0,
      at.1,
      at.2,
      at.3,
      rw (eq-eqb at.1.comp.0 c at.4.0, at.4.1) refl,
    ),
    λ test. let at = Any-from_list_any (is_moving c) ws test in
        let both = and_parts (eqb at.1.comp.0 c) (is_moved at.1.role) at.4 in
        (at.0, at.1, at.2, at.3, (eqb-true at.1.comp.0 c both.0, moved_role at.1.role both.1)),
  )

  seeing : (c : ℕ) → IsWanted Seen ws c ↔ (list_any (is_seeing c) ws ≡ true)
  seeing c = (
    λ at. list_any-from_Any (is_seeing c) ws (
      at.0,
      at.1,
      at.2,
      at.3,
      rw (eq-eqb at.1.comp.0 c at.4.0, at.4.1) refl,
    ),
    λ test. let at = Any-from_list_any (is_seeing c) ws test in
        let both = and_parts (eqb at.1.comp.0 c) (not (is_moved at.1.role)) at.4 in
        (at.0, at.1, at.2, at.3, (eqb-true at.1.comp.0 c both.0, seen_role at.1.role both.1)),
  )

  pub parties_from_test : are_parties ws qs looks ≡ true → AreParties m a ws
  parties_from_test test =
      let inner = and_parts (list_all (is_party qs looks) ws)
      (list_all (λ (q : Participant). list_any (is_moving q.0.0) ws) qs) test in
      let parties = AllPass-from_list_all (is_party qs looks) ws inner.0 in
      let moved = AllPass-from_list_all (λ (q : Participant). list_any (is_moving q.0.0) ws) qs
      inner.1 in
      record {
        moved = λ c. (
          λ at. rw is at (moves_one c at (All-contains
              (λ w. is_party qs looks w ≡ true) ws at.1 parties (at.0, at.2, at.3))),
          λ takes.
              let at = Any-from_list_any (λ (q : Participant). eqb q.0.0 c) qs (rw is takes) in
              (moving c).1 (subst (λ d. list_any (is_moving d) ws ≡ true) (eqb-true at.1.0.0 c at.4)
              (All-contains (λ (q : Participant). list_any (is_moving q.0.0) ws ≡ true) qs at.1
              moved (at.0, at.2, at.3))),
        );
        seen = λ c at. (in_looks m a looks listed c).1
            (sees_one c at (All-contains (λ w. is_party qs looks w ≡ true) ws at.1 parties
            (at.0, at.2, at.3)));
      }
    where
      moves_one : (c : ℕ) (at : IsWanted Moved ws c) → is_party qs looks at.1 ≡ true
          → list_any (λ (q : Participant). eqb q.0.0 c) qs ≡ true
      moves_one c at party = subst (λ d. list_any (λ (q : Participant). eqb q.0.0 d) qs ≡ true)
          at.4.0 (rw at.4.1 at party)

      sees_one : (c : ℕ) (at : IsWanted Seen ws c) → is_party qs looks at.1 ≡ true
          → list_any (λ (d : CompId). eqb d.0 c) looks ≡ true
      sees_one c at party = subst (λ x. list_any (λ (d : CompId). eqb d.0 x) looks ≡ true) at.4.0
          (rw at.4.1 at party)

  pub test_from_parties : AreParties m a ws → are_parties ws qs looks ≡ true
  test_from_parties has =
      rw (
        list_all-from_AllPass (is_party qs looks) ws
            (λ k d within. party (get_or ws k d) (Contains-get_or ws k d within)),
        list_all-from_AllPass (λ (q : Participant). list_any (is_moving q.0.0) ws) qs
            (λ k d within. (moving (get_or qs k d).0.0).0
            ((has.moved (get_or qs k d).0.0).1
            (rw (← is) (list_any_at (λ (r : Participant). eqb r.0.0 (get_or qs k d).0.0) qs k d
            within (eq-eqb (get_or qs k d).0.0 (get_or qs k d).0.0 refl))))),
      ) refl
    where
      party : (w : Want) → Contains ws w → is_party qs looks w ≡ true
      party w at = by_role w.role refl
        where
          by_role : (r : Role) → w.role ≡ r → is_party qs looks w ≡ true
          by_role Moved role = rw (role, is) ((has.moved w.comp.0).0
              (at.0, w, at.1, at.2, (refl, role)))
          by_role Seen role = rw role ((in_looks m a looks listed w.comp.0).0
              (has.seen w.comp.0 (at.0, w, at.1, at.2, (refl, role))))

  -- what is looked at is seen exactly where the test of it passes
  pub seen_from_test : see_all ws looks ≡ true → SeeAll m a ws
  seen_from_test test c looked =
      let seen = AllPass-from_list_all (λ (d : CompId). list_any (is_seeing d.0) ws) looks test in
      let at = (listed.exact c).1 looked in
      (seeing c).1 (All-contains (λ (d : CompId). list_any (is_seeing d.0) ws ≡ true) looks
      (record { 0 = c }) seen at)

  pub test_from_seen : SeeAll m a ws → see_all ws looks ≡ true
  test_from_seen see =
      list_all-from_AllPass (λ (c : CompId). list_any (is_seeing c.0) ws) looks
      (λ k d within. (seeing (get_or looks k d).0).0
      (see (get_or looks k d).0 ((listed.exact (get_or looks k d).0).0
      (Contains-get_or looks k d within))))

-- the test fails where they aren't
pub not_parties : (m : System) (a : ℕ) (ws : List Want) (qs : List Participant)
    (looks : List CompId) → qs ≡ participants_of m a → IsListLookedAt m a looks
    → are_parties ws qs looks ≡ false → ¬ AreParties m a ws
not_parties m a ws qs looks is listed fails has =
    false≢true (sym fails ∙ test_from_parties m a ws qs looks is listed has)

-- wants are of the parties, or they aren't
pub parties_decided : (m : System) (a : ℕ) (ws : List Want) → IsSystemSoFar m → AreParties m a ws
    ⊎ ¬ AreParties m a ws
parties_decided m a ws valid =
    let looks = looks_listed m a valid in
    elim (cases_Bool (are_parties ws (participants_of m a) looks.0)) [
      | inl all ↦ inl (parties_from_test m a ws (participants_of m a) looks.0 refl looks.1 all)
      | inr some ↦ inr (not_parties m a ws (participants_of m a) looks.0 refl looks.1 some)
    ]

-- what is wanted of an interaction's parties is a component of the model
pub party_known : (m : System) (a : ℕ) (ws : List Want) (w : Want) → IsSystem m → AreParties m a ws
    → Contains ws w → w.comp.0 < length m.components
party_known m a ws w valid has at = elim (moved_or_seen ws w at) [
  | inl moved ↦ moves_known m a w.comp.0 valid.so_far
      ((has.moved w.comp.0).0 (at.0, w, at.1, at.2, (refl, moved)))
  | inr seen ↦ looked_known m a w.comp.0 valid.so_far (has.seen w.comp.0 seen)
]

-- each want of parties has its role
pub parties_have_roles : PartiesHaveRoles
parties_have_roles m a wants is w at = by_role w.role refl
  where
    by_role : (r : Role) → w.role ≡ r → HasItsRole m a w
    by_role Moved role =
        let moved = (is.moved w.comp.0).0 (at.0, w, at.1, at.2, (refl, role)) in
        record { party = inl moved; role = ap is_moved role ∙ sym moved }
    by_role Seen role =
        let seen = is.seen w.comp.0 (at.0, w, at.1, at.2, (refl, role)) in
        record { party = inr seen; role = ap is_moved role ∙ sym seen.other }

-- what is moved has its want
pub moving_is_wanted : (m : System) (a : ℕ) (wants : List Want) → AreParties m a wants → (c : ℕ)
    → moves m a c ≡ true → HasWantOf wants c
moving_is_wanted m a wants is c takes = let at = (is.moved c).1 takes in
    (at.0, at.1, at.2, at.3, at.4.0)

-- and so has each party, where all that is looked at is seen
pub parties_are_wanted : PartiesAreWanted
parties_are_wanted m a wants is see c party = elim party [
  | inl moved ↦ moving_is_wanted m a wants is c moved
  | inr looked ↦ let at = see c looked in (at.0, at.1, at.2, at.3, at.4.0)
]

-- ---- what wants cover

or_true : (b : Bool) → (b || true) ≡ true
or_true true = refl
or_true false = refl

-- wants have one of a component exactly where the test says so
pub has_from_test : (ws : List Want) (c : ℕ) → has_want_of ws c ≡ true → HasWantOf ws c
has_from_test ws c test =
    let at = Any-from_list_any (λ (w : Want). eqb w.comp.0 c) ws test in
    (at.0, at.1, at.2, at.3, eqb-true at.1.comp.0 c at.4)

pub test_from_has : (ws : List Want) (c : ℕ) → HasWantOf ws c → has_want_of ws c ≡ true
test_from_has ws c at = list_any-from_Any (λ (w : Want). eqb w.comp.0 c) ws
    (at.0, at.1, at.2, at.3, eq-eqb at.1.comp.0 c at.4)

-- what an interaction moves is its participant
pub moves_one_of : (m : System) (a : ℕ) → All (λ (q : Participant). moves m a q.0.0 ≡ true)
    (participants_of m a)
moves_one_of m a k d within =
    let q = get_or (participants_of m a) k d in
    list_any_at (λ (r : Participant). eqb r.0.0 q.0.0) (participants_of m a) k d within
    (eq-eqb q.0.0 q.0.0 refl)

-- an interaction touches what one above it moves
pub touches_above : (m : System) (a b c : ℕ) → HasAbove m.priorities a b → moves m b c ≡ true
    → (moves m a c ≡ true) ⊎ IsLookedAt m a c
touches_above m a b c above takes = elim (cases_Bool (moves m a c)) [
  | inl own ↦ inl own
  | inr other ↦ inr (record { other = other; higher = b; above = above; moved = takes })
]

pub all_parties_cover : AllPartiesCover
all_parties_cover m a wants parties see s b above =
    inr (λ k d within. parties_are_wanted m a wants parties see
    (get_or (participants_of m b) k d).0.0
    (touches_above m a b (get_or (participants_of m b) k d).0.0 above
    (moves_one_of m b k d within)))

module _ (m : System) (s : State) (ws : List Want) where
  abbrev idle : Participant → Bool
  idle q = has_want_of ws q.0.0 && not (offered m s q)

  abbrev wanted : Participant → Bool
  wanted q = has_want_of ws q.0.0

  covered_from_test : (b : ℕ) → is_covered m s ws b ≡ true → Cover m s ws b
  covered_from_test b test = elim (or_cases (list_any idle (participants_of m b))
      (list_all wanted (participants_of m b)) test) [
        | inl some ↦
            let at = Any-from_list_any idle (participants_of m b) some in
            let both = and_parts (has_want_of ws at.1.0.0) (not (offered m s at.1)) at.4 in
            inl (
              at.0,
              at.1,
              at.2,
              at.3,
              (
                has_from_test ws at.1.0.0 both.0,
                not-true (offered m s at.1) both.1,
              ),
            )
        | inr all ↦
            let each = AllPass-from_list_all wanted (participants_of m b) all in
            inr (λ k d within. has_from_test ws (get_or (participants_of m b) k d).0.0
            (each k d within))
      ]

  test_from_covered : (b : ℕ) → Cover m s ws b → is_covered m s ws b ≡ true
  test_from_covered b covered = elim covered [
    | inl at ↦
        let has = test_from_has ws at.1.0.0 at.4.0 in
        let here : idle at.1 ≡ true = rw (has, at.4.1) refl in
        rw (list_any-from_Any idle (participants_of m b) (at.0, at.1, at.2, at.3, here)) refl
    | inr all ↦
        let each = list_all-from_AllPass wanted (participants_of m b)
        (λ k d within. test_from_has ws (get_or (participants_of m b) k d).0.0
        (all k d within)) in
        rw each (or_true (list_any idle (participants_of m b)))
  ]

  module _ (a : ℕ) (above : List InterId) (list : IsListAbove m.priorities a above) where
    pub cover_from_test : list_all (λ (b : InterId). is_covered m s ws b.0) above ≡ true
        → CoverAbove m s a ws
    cover_from_test test b higher =
        covered_from_test b (All-contains (λ (d : InterId). is_covered m s ws d.0 ≡ true) above
        (inter b) (AllPass-from_list_all (λ (d : InterId). is_covered m s ws d.0) above test)
        ((list.exact b).1 higher))

    pub test_from_cover : CoverAbove m s a ws
        → list_all (λ (b : InterId). is_covered m s ws b.0) above ≡ true
    test_from_cover cover =
        list_all-from_AllPass (λ (d : InterId). is_covered m s ws d.0) above
        (λ k d within. test_from_covered (get_or above k d).0
        (cover (get_or above k d).0 ((list.exact (get_or above k d).0).0
        (Contains-get_or above k d within))))

-- wants cover what is above an interaction, or they don't
pub cover_decided : (m : System) (s : State) (a : ℕ) (ws : List Want) → IsSystemSoFar m
    → CoverAbove m s a ws ⊎ ¬ CoverAbove m s a ws
cover_decided m s a ws valid =
    let above = above_listed m a valid in
    elim (cases_Bool (list_all (λ (b : InterId). is_covered m s ws b.0) above.0)) [
      | inl all ↦ inl (cover_from_test m s ws a above.0 above.1 all)
      | inr some ↦ inr (λ cover. false≢true (sym some
          ∙ test_from_cover m s ws a above.0 above.1 cover))
    ]

-- what is above an interaction is declared
pub above_declared : (m : System) (a : ℕ) (above : List InterId) → IsSystem m
    → IsListAbove m.priorities a above → All (λ (b : InterId). b.0 < length m.interactions) above
above_declared m a above valid list k d within =
    let b = get_or above k d in
    HasAbove-high (length m.interactions) m.priorities a b.0 valid.so_far.priorities
    ((list.exact b.0).0 (Contains-get_or above k d within))
