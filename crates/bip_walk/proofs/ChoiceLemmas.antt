-- What can be drawn, and the grant of it.
use Rattle.std.proofs.Common.{◌≡◌, ◌∙◌, ℕ, ◌<◌, ◌≤◌, Bool, true, false, cond, List, length, map}
use Rattle.std.proofs.Common.{get_or, inl, inr, refl, sym, ap, subst, arith}
use Rattle.std.specs.Prelude.{Contains, IsTrue}
use Rattle.std.specs.List.{list_all}
use Rattle.std.proofs.lemmas.Bool.{false≢true}
use Rattle.std.proofs.lemmas.Bool.Decides.{nat_tests}
use Rattle.std.proofs.lemmas.List.{get_or-map, get_or_default, length-map}
use Rattle.std.proofs.lemmas.List.Elements.{All-contains, All-map, Contains-get_or}
use Rattle.std.proofs.lemmas.List.Folds.{list_any-from_Any}
use Rattle.std.proofs.lemmas.List.Sums.{AllPass-from_list_all, list_all-from_AllPass}
use Rattle.std.proofs.lemmas.Simd.{map-map}
use Rattle.bip_model.specs.Numbering.{last_number}
use Rattle.bip_model.specs.Parts.{IsSystem}
use Rattle.bip_model.specs.Parties.{IsWanted}
use Rattle.bip_model.specs.Priorities.{inter}
use Rattle.bip_model.specs.Steps.{IsLookedAt, moves}
use Rattle.bip_model.specs.Wants.{IsWants, is_moved}
use Rattle.bip_model.specs.declared.numbering.CompId.{CompId}
use Rattle.bip_model.specs.declared.wants.Role.{Role}
use Rattle.bip_model.specs.declared.wants.Role.TheVariants.{Moved, Seen}
use Rattle.bip_model.specs.declared.wants.Want.{Want}
use Rattle.bip_partition.proofs.LawLemmas.{each_moves}
use Rattle.bip_partition.specs.Plans.{IsListTouched, Touches}
use Rattle.bip_replay.specs.Runs.{HasNextNumber, Standing}
use Rattle.bip_walk.specs.Choices.{IsFullGrant, is_unspent, want_next}

-- the component of a number
abbrev comp : ℕ → CompId
comp c = record { 0 = c }

-- each component that an interaction touches has a next move
abbrev pub AreUnspent : Standing → ℕ → Type 0
AreUnspent p a = (c : ℕ) → Touches p.model a c → p.used c < last_number

module _ (p : Standing) (a : ℕ) (cs : List CompId) (list : IsListTouched p.model a cs) where
  test_below : (c : CompId) → IsTrue (is_unspent p.used c) → p.used c.0 < last_number
  test_below c is = grind (arith, nat_tests)

  below_test : (c : CompId) → p.used c.0 < last_number → IsTrue (is_unspent p.used c)
  below_test c below = grind (arith, nat_tests)

  -- the test of those that are listed tells it of all that are touched
  pub unspent_from_test : IsTrue (list_all (is_unspent p.used) cs) → AreUnspent p a
  unspent_from_test all c touched =
      test_below (comp c) (All-contains (λ (x : CompId). IsTrue (is_unspent p.used x)) cs (comp c)
      (AllPass-from_list_all (is_unspent p.used) cs all) ((list.exact c).1 touched))

  pub test_from_unspent : AreUnspent p a → IsTrue (list_all (is_unspent p.used) cs)
  test_from_unspent unspent =
      list_all-from_AllPass (is_unspent p.used) cs
      (λ k d within. below_test (get_or cs k d) (unspent (get_or cs k d).0
      ((list.exact (get_or cs k d).0).0 (Contains-get_or cs k d within))))

  -- the role of what is moved or not
  abbrev role_by : Bool → Role
  role_by b = cond b Moved Seen

  is_moved_by : (b : Bool) → role_by b ≡ Moved → b ≡ true
  is_moved_by true is = refl
  is_moved_by false is = cc

  is_seen_by : (b : Bool) → role_by b ≡ Seen → b ≡ false
  is_seen_by true is = cc
  is_seen_by false is = refl

  abbrev wants : List Want
  wants = map (want_next p a) cs

  -- what is wanted is touched, with its role; and the other way round
  wanted_from : (role : Role) (c : ℕ) → IsWanted role wants c
      → Touches p.model a c × (role_by (moves p.model a c) ≡ role)
  wanted_from role c (j, u, within, is, at) =
      let inside : j < length cs = simp length-map at within in
      let d = get_or cs j u.comp in
      let same : want_next p a d ≡ u =
      sym (get_or-map (want_next p a) cs j u.comp u inside) ∙ is in
      let number : d.0 ≡ c = ap (λ (w : Want). w.comp.0) same ∙ at.0 in
      let role' : role_by (moves p.model a d.0) ≡ role = ap (λ (w : Want). w.role) same ∙ at.1 in
      let there : Contains cs d = (j, inside, get_or_default cs j d u.comp inside) in (
        subst (Touches p.model a) number ((list.exact d.0).0 there),
        subst (λ (n : ℕ). role_by (moves p.model a n) ≡ role) number role',
      )

  wanted_to : (role : Role) (c : ℕ) → Touches p.model a c → role_by (moves p.model a c) ≡ role
      → IsWanted role wants c
  wanted_to role c touched is =
      let at = (list.exact c).1 touched in
      let w = want_next p a (comp c) in (
        at.0,
        w,
        simp length-map at.1,
        get_or-map (want_next p a) cs at.0 (comp c) w at.1 ∙ ap (want_next p a) at.2,
        (refl, is),
      )

  looked_at : (c : ℕ) → Touches p.model a c → moves p.model a c ≡ false → IsLookedAt p.model a c
  looked_at c (inl on) off = absurd (false≢true (sym off ∙ on))
  looked_at c (inr look) off = look

  module _ (valid : IsSystem p.model) (declared : a < length p.model.interactions)
      (few : length cs ≤ 32) (unspent : AreUnspent p a) where
    pub are_wants : IsWants wants
    are_wants = record {
      few = simp length-map few;
      rising = rw (map-map (λ (w : Want). w.comp.0) (want_next p a) cs) list.rising;
      numbered = All-map (λ (w : Want). 1 ≤ w.number) (want_next p a) cs
          (λ k d within. omega arith);
      moving =
          let moved = each_moves p.model valid a declared in
          let wanted = wanted_to Moved moved.0 (inl moved.1) (ap role_by moved.1) in
          list_any-from_Any (λ (w : Want). is_moved w.role) wants
          (wanted.0, wanted.1, wanted.2, wanted.3, ap is_moved wanted.4.1);
    }

    -- the grant with these wants has all its parties, by the numbers of their next moves
    pub full_grant : IsFullGrant p a (record { inter = inter a; wants = wants })
    full_grant = record {
      expected = record {
        inter = refl;
        numbers = All-map (HasNextNumber p.used) (want_next p a) cs (λ k d within.
            let below = unspent (get_or cs k d).0
            ((list.exact (get_or cs k d).0).0 (Contains-get_or cs k d within)) in
            record { next = refl; fits = omega (arith, below) });
        parties = record {
          moved = λ c. (
            λ wanted. is_moved_by (moves p.model a c) (wanted_from Moved c wanted).1,
            λ on. wanted_to Moved c (inl on) (ap role_by on),
          );
          seen = λ c wanted.
              let from = wanted_from Seen c wanted in
              looked_at c from.0 (is_seen_by (moves p.model a c) from.1);
        };
        all = λ c look. wanted_to Seen c (inr look) (ap role_by look.other);
      };
      wants = are_wants;
    }
