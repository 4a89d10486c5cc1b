-- Wants that aren't enough: which component they have wrong, and which interaction they don't
-- cover.
use Rattle.std.proofs.Common.{◌≡◌, ℕ, ◌-◌, ◌≤◌, ◌<◌, inl, inr, Bool, true, false, not, ◌&&◌, eqb}
use Rattle.std.proofs.Common.{zero, suc, List, [], ◌∷◌, length, map, get_or, Option, None, Some}
use Rattle.std.proofs.Common.{Result, Ok, Err, refl, sym, ap, ◌∙◌, subst, arith, eq-eqb, eqb-true}
use Rattle.std.specs.Prelude.{◌↔◌, All, Contains, IfNone, IfSome, IsSome, is_some}
use Rattle.std.specs.List.{list_all, list_any}
use Rattle.std.specs.List.Sorted.{IsStrictlyIncreasing}
use Rattle.std.proofs.lemmas.Bool.{and_parts, cases_Bool, cases_lt, false≢true, not-true}
use Rattle.std.proofs.lemmas.List.{get_or-map, get_or_default, length-map}
use Rattle.std.proofs.lemmas.List.Elements.{All-contains, Contains-get_or}
use Rattle.std.proofs.lemmas.List.Folds.{Any-from_list_any, list_any-from_Any}
use Rattle.std.proofs.lemmas.List.Kept.{AllPairs-from_increasing}
use Rattle.std.proofs.lemmas.List.Sums.{AllPass-from_list_all, list_all-from_AllPass}
use Rattle.bip_model.specs.Expressions.{holds}
use Rattle.bip_model.specs.Parties.{AreParties, Cover, HasWantOf, IsWanted, has_want_of, is_moving}
use Rattle.bip_model.specs.Parties.{is_seeing}
use Rattle.bip_model.specs.Parts.{IsInteraction, IsPortIn, IsSystem, Participant}
use Rattle.bip_model.specs.Priorities.{HasAbove, IsListAbove}
use Rattle.bip_model.specs.States.{State}
use Rattle.bip_model.specs.Steps.{IsEnabled, IsLookedAt, IsLowestAbove, MayRun, guard_of, moves}
use Rattle.bip_model.specs.Steps.{offered, participants_of, values_of}
use Rattle.bip_model.specs.Texts.{is_plain, line_at, lines}
use Rattle.bip_model.specs.Wants.{is_moved}
use Rattle.bip_model.specs.declared.grants.Grant.{Grant}
use Rattle.bip_model.specs.declared.numbering.CompId.{CompId}
use Rattle.bip_model.specs.declared.numbering.InterId.{InterId}
use Rattle.bip_model.specs.declared.parts.System.{System}
use Rattle.bip_model.specs.declared.wants.Role.{Role}
use Rattle.bip_model.specs.declared.wants.Role.TheVariants as role
use Rattle.bip_model.specs.declared.wants.Want.{Want}
use Rattle.bip_model.proofs.LookLemmas.{moves_known}
use Rattle.bip_model.proofs.PartyLemmas.{has_from_test, test_from_has}
use Rattle.bip_replay.specs.Faults.{IsFaultOf, of_step}
use Rattle.bip_replay.specs.Items.{before_rest, one_more}
use Rattle.bip_replay.specs.Lines.{grant_on}
use Rattle.bip_replay.specs.Runs.{AreEnough, state_after, used_after}
use Rattle.bip_replay.specs.Traces.{grants_of}
use Rattle.bip_replay.specs.declared.faults.BookFault.TheVariants.{Parties}
use Rattle.bip_replay.specs.declared.faults.LineFault.{LineFault}
use Rattle.bip_replay.specs.declared.faults.StepFault.{StepFault}
use Rattle.bip_replay.specs.declared.faults.StepFault.TheVariants as step
use Rattle.bip_replay.proofs.ExpectedLemmas.{moving}
use Rattle.bip_replay.proofs.GrantLemmas.{grant_line, grant_of_model}
use Rattle.bip_explain.specs.Parties.{AreOthers, IsNamedRight, IsNamedSo, is_right, off_among}
use Rattle.bip_explain.specs.Parties.{unseen_among}
use Rattle.bip_explain.specs.declared.parties.Named.{Named}
use Rattle.bip_explain.specs.declared.parties.Named.TheVariants.{Moved, Seen, Absent}
use Rattle.bip_model.proofs.ListLemmas.{All-slice_get}
use Rattle.bip_explain.proofs.HindranceLemmas.{IsFaultOn, get_there}

-- ---- one component

seen_role : (r : Role) → not (is_moved r) ≡ true → r ≡ role.Seen
seen_role role.Moved is = absurd (false≢true is)
seen_role role.Seen is = refl

-- a component is seen exactly where a want passes
seeing : (ws : List Want) (c : ℕ) → IsWanted role.Seen ws c ↔ (list_any (is_seeing c) ws ≡ true)
seeing ws c = (
  λ at. list_any-from_Any (is_seeing c) ws (
    at.0,
    at.1,
    at.2,
    at.3,
    rw (eq-eqb at.1.comp.0 c at.4.0, at.4.1) refl,
  ),
  λ test. let at = Any-from_list_any (is_seeing c) ws test in
      let both = and_parts (eqb at.1.comp.0 c) (not (is_moved at.1.role)) at.4 in
      (at.0, at.1, at.2, at.3, (eqb-true at.1.comp.0 c both.0, seen_role at.1.role both.1)),
)

module _ (m : System) (a c : ℕ) (ws : List Want) where
  abbrev is_moving_it : Bool
  is_moving_it = list_any (is_moving c) ws

  abbrev is_seeing_it : Bool
  is_seeing_it = list_any (is_seeing c) ws

  unmoved : not is_moving_it ≡ true → ¬ IsWanted role.Moved ws c
  unmoved test at = false≢true (sym (not-true is_moving_it test) ∙ (moving ws c).0 at)

  unseen : not is_seeing_it ≡ true → ¬ IsWanted role.Seen ws c
  unseen test at = false≢true (sym (not-true is_seeing_it test) ∙ (seeing ws c).0 at)

  pub right_from_test : (named : Named) → IsNamedSo m a c named
      → is_right named is_moving_it is_seeing_it ≡ true → IsNamedRight m a ws c
  right_from_test Moved takes test =
      let both = and_parts is_moving_it (not is_seeing_it) test in
      record {
        moved = (λ at. takes, λ is. (moving ws c).1 both.0);
        seen = λ at. absurd (unseen both.1 at);
      }
  right_from_test Seen looked test =
      record {
        moved = (
          λ at. absurd (unmoved test at),
          λ is. absurd (false≢true (sym looked.other ∙ is)),
        );
        seen = λ at. looked;
      }
  right_from_test Absent none test =
      let both = and_parts (not is_moving_it) (not is_seeing_it) test in
      record {
        moved = (
          λ at. absurd (unmoved both.0 at),
          λ is. absurd (false≢true (sym none.0 ∙ is)),
        );
        seen = λ at. absurd (unseen both.1 at);
      }

  moved_not : IsNamedRight m a ws c → moves m a c ≡ false → is_moving_it ≡ false
  moved_not right other = elim (cases_Bool is_moving_it) [
    | inl is ↦ absurd (false≢true (sym other ∙ right.moved.0 ((moving ws c).1 is)))
    | inr not_so ↦ not_so
  ]

  seen_not : IsNamedRight m a ws c → ¬ IsLookedAt m a c → is_seeing_it ≡ false
  seen_not right other = elim (cases_Bool is_seeing_it) [
    | inl is ↦ absurd (other (right.seen ((seeing ws c).1 is)))
    | inr not_so ↦ not_so
  ]

  test_from_right : (named : Named) → IsNamedSo m a c named → IsNamedRight m a ws c
      → is_right named is_moving_it is_seeing_it ≡ true
  test_from_right Moved takes right = rw (
    (moving ws c).0 (right.moved.1 takes),
    seen_not right (λ looked. false≢true (sym looked.other ∙ takes)),
  ) refl
  test_from_right Seen looked right = rw (moved_not right looked.other) refl
  test_from_right Absent none right = rw (moved_not right none.0, seen_not right none.1) refl

  pub wrong_from_test : (named : Named) → IsNamedSo m a c named
      → is_right named is_moving_it is_seeing_it ≡ false → ¬ IsNamedRight m a ws c
  wrong_from_test named is fails right = false≢true (sym fails ∙ test_from_right named is right)

-- wants of a line that have each component of the model right are of the parties
pub all_right : (m : System) (line : List ℕ) (g : Grant) → IsSystem m
    → grant_on m line ≡ Ok (Some g) → ((c : ℕ) → c < length m.components
    → IsNamedRight m g.inter.0 g.wants c) → AreParties m g.inter.0 g.wants
all_right m line g valid reads right = record {
  moved = λ c. elim (cases_lt c (length m.components)) [
    | inl within ↦ (right c within).moved
    | inr out ↦ (
      λ at. absurd (unknown c role.Moved out at),
      λ takes. absurd (omega (arith, out, moves_known m g.inter.0 c valid.so_far takes)),
    )
  ];
  seen = λ c at. elim (cases_lt c (length m.components)) [
    | inl within ↦ (right c within).seen at
    | inr out ↦ absurd (unknown c role.Seen out at)
  ];
}
  where
    unknown : (c : ℕ) (r : Role) → length m.components ≤ c → IsWanted r g.wants c → ⊥
    unknown c r out at =
        let known = All-contains (λ (w : Want). w.comp.0 < length m.component_names) g.wants at.1
        (grant_of_model m line g (grant_line m line g reads)).components (at.0, at.2, at.3) in
        omega (arith, out, known, at.4.0, valid.components_named)

-- ---- one interaction above

-- a length that is tested
pub none_from : (n : ℕ) (b : Bool) → b ≡ eqb n 0 → b ≡ true → n ≡ 0
none_from n b is passes = eqb-true n 0 (sym is ∙ passes)

pub some_from : (n : ℕ) (b : Bool) → b ≡ eqb n 0 → b ≡ false → 0 < n
some_from zero b is fails = absurd (false≢true (sym fails ∙ is))
some_from (suc n) b is fails = omega arith

module _ (ws : List Want) where
  abbrev wanted : Participant → Bool
  wanted q = has_want_of ws q.0.0

  abbrev has_it : CompId → Bool
  has_it c = has_want_of ws c.0

  none_unseen : (qs : List Participant) → length (unseen_among ws qs) ≡ 0
      → list_all wanted qs ≡ true
  none_unseen [] none = refl
  none_unseen (q ∷ qs) none = elim (cases_Bool (wanted q)) [
    | inl is ↦ rw is (none_unseen qs (rw is at none))
    | inr other ↦ absurd (omega (arith, rw other at none))
  ]

  some_unseen : (qs : List Participant) → 0 < length (unseen_among ws qs)
      → list_all wanted qs ≡ false
  some_unseen [] some = absurd (omega (arith, some))
  some_unseen (q ∷ qs) some = elim (cases_Bool (wanted q)) [
    | inl is ↦ rw is (some_unseen qs (rw is at some))
    | inr other ↦ rw other refl
  ]

  none_have : (cs : List CompId) → list_any has_it cs ≡ false
      → All (λ (c : CompId). ¬ HasWantOf ws c.0) cs
  none_have cs fails k d within at =
      let c = get_or cs k d in
      let here = Contains-get_or cs k d within in
      false≢true (sym fails ∙ list_any-from_Any has_it cs
      (here.0, c, here.1, here.2, test_from_has ws c.0 at))

  unseen_other : (qs : List Participant) → list_any has_it (unseen_among ws qs) ≡ false
  unseen_other [] = refl
  unseen_other (q ∷ qs) = elim (cases_Bool (wanted q)) [
    | inl is ↦ rw is (unseen_other qs)
    | inr other ↦ rw (other, other) (unseen_other qs)
  ]

  pub others_off : (cs : List CompId) → 0 < length cs → list_any has_it cs ≡ false → AreOthers ws cs
  others_off cs some none = record { some = some; other = none_have cs none }

  pub others_unseen : (qs : List Participant) → 0 < length (unseen_among ws qs)
      → AreOthers ws (unseen_among ws qs)
  others_unseen qs some = record {
    some = some;
    other = none_have (unseen_among ws qs) (unseen_other qs);
  }

  pub few_unseen : (qs : List Participant) → length (unseen_among ws qs) ≤ length qs
  few_unseen [] = omega arith
  few_unseen (q ∷ qs) = elim (cases_Bool (wanted q)) [
    | inl is ↦ rw is (omega (arith, few_unseen qs))
    | inr other ↦ rw other (omega (arith, few_unseen qs))
  ]

module _ (m : System) (s : State) (ws : List Want) where
  abbrev idle : Participant → Bool
  idle q = has_want_of ws q.0.0 && not (offered m s q)

  -- one of those whose ports aren't offered is wanted, or none is
  off_wanted : (qs : List Participant) → list_any (has_it ws) (off_among m s qs) ≡ list_any idle qs
  off_wanted [] = refl
  off_wanted (q ∷ qs) = elim (cases_Bool (offered m s q)) [
    | inl on ↦ grind (arith, on, off_wanted qs)
    | inr off ↦ grind (arith, off, off_wanted qs)
  ]

  pub none_off : (qs : List Participant) → length (off_among m s qs) ≡ 0
      → list_all (offered m s) qs ≡ true
  none_off [] none = refl
  none_off (q ∷ qs) none = elim (cases_Bool (offered m s q)) [
    | inl on ↦ rw on (none_off qs (rw on at none))
    | inr off ↦ absurd (omega (arith, rw off at none))
  ]

  none_idle : (qs : List Participant) → list_all (offered m s) qs ≡ true → list_any idle qs ≡ false
  none_idle [] all = refl
  none_idle (q ∷ qs) all =
      let both = and_parts (offered m s q) (list_all (offered m s) qs) all in
      grind (arith, both.0, none_idle qs both.1)

  module _ (b : ℕ) where
    pub covered_by_all : length (unseen_among ws (participants_of m b)) ≡ 0 → Cover m s ws b
    covered_by_all none =
        let each = AllPass-from_list_all (wanted ws) (participants_of m b)
        (none_unseen ws (participants_of m b) none) in
        inr (λ k d within. has_from_test ws (get_or (participants_of m b) k d).0.0
        (each k d within))

    pub covered_by_one : list_any (has_it ws) (off_among m s (participants_of m b)) ≡ true
        → Cover m s ws b
    covered_by_one test =
        let at = Any-from_list_any idle (participants_of m b)
        (sym (off_wanted (participants_of m b)) ∙ test) in
        let both = and_parts (has_want_of ws at.1.0.0) (not (offered m s at.1)) at.4 in
        inl (
          at.0,
          at.1,
          at.2,
          at.3,
          (
            has_from_test ws at.1.0.0 both.0,
            not-true (offered m s at.1) both.1,
          ),
        )

    uncovered : list_any idle (participants_of m b) ≡ false
        → 0 < length (unseen_among ws (participants_of m b)) → ¬ Cover m s ws b
    uncovered none some covered = elim covered [
      | inl at ↦ false≢true (sym none ∙ list_any-from_Any idle (participants_of m b)
          (at.0, at.1, at.2, at.3, rw (test_from_has ws at.1.0.0 at.4.0, at.4.1) refl))
      | inr all ↦ false≢true (sym (some_unseen ws (participants_of m b) some)
          ∙ list_all-from_AllPass (wanted ws) (participants_of m b)
          (λ k d within. test_from_has ws (get_or (participants_of m b) k d).0.0 (all k d within)))
    ]

    pub uncovered_off : list_any (has_it ws) (off_among m s (participants_of m b)) ≡ false
        → 0 < length (unseen_among ws (participants_of m b)) → ¬ Cover m s ws b
    uncovered_off none some = uncovered (sym (off_wanted (participants_of m b)) ∙ none) some

    pub uncovered_on : list_all (offered m s) (participants_of m b) ≡ true
        → 0 < length (unseen_among ws (participants_of m b)) → ¬ Cover m s ws b
    uncovered_on all some = uncovered (none_idle (participants_of m b) all) some

    -- each port of what isn't enabled is offered, so its guard is false
    pub guard_false : b < length m.interactions
        → list_all (offered m s) (participants_of m b) ≡ true → ¬ IsEnabled m s b
        → holds (guard_of m b) (values_of m s b) ≡ false
    guard_false declared all disabled = elim (cases_Bool (holds (guard_of m b) (values_of m s b))) [
      | inl on ↦ absurd (disabled (record {
        declared = declared;
        offered_all = AllPass-from_list_all (offered m s) (participants_of m b) all;
        guard =
            on;
      }))
      | inr off ↦ off
    ]

  pub few_off : (qs : List Participant) → length (off_among m s qs) ≤ length qs
  few_off [] = omega arith
  few_off (q ∷ qs) = elim (cases_Bool (offered m s q)) [
    | inl on ↦ rw on (omega (arith, few_off qs))
    | inr off ↦ rw off (omega (arith, few_off qs))
  ]

-- the participants of an interaction of a model
pub record AreOfModel (m : System) (qs : List Participant) : Type 0 where
  pub few : length qs ≤ 8
  pub ports : All (IsPortIn m.components) qs

pub of_model : (m : System) (a : ℕ) → IsSystem m → a < length m.interactions
    → AreOfModel m (participants_of m a)
of_model m a valid within =
    let there = get_there m.interactions a within in
    let i = All-slice_get (IsInteraction m.components) m.interactions a there.0
    valid.so_far.interactions there.1 in
    rw there.1 (record { few = i.few; ports = i.ports })

-- ---- the lowest above

rises : (row : List InterId) (i j : ℕ) (d : InterId)
    → IsStrictlyIncreasing (map (λ (b : InterId). b.0) row) → i < j → j < length row
    → (get_or row i d).0 < (get_or row j d).0
rises row i j d rising before within =
    let shorter : i < length row = omega arith in
    let mapped : j < length (map (λ (b : InterId). b.0) row) = simp length-map within in
    let e = get_or-map (λ (b : InterId). b.0) row i d 0 shorter in
    let f = get_or-map (λ (b : InterId). b.0) row j d 0 within in
    let g = AllPairs-from_increasing (map (λ (b : InterId). b.0) row) rising i j 0 before mapped in
    omega (arith, e, f, g)

-- what holds of those in front of a place of a row of what is above one
module _ (m : System) (a : ℕ) (row : List InterId) (i : ℕ) (is : IsListAbove m.priorities a row)
    (P : ℕ → Type 0) (earlier : (k : ℕ) (d : InterId) → k < i → P (get_or row k d).0) where
  -- holds of each lower one above
  pub holds_lower : (d : InterId) → i < length row → (c : ℕ) → c < (get_or row i d).0
      → HasAbove m.priorities a c → P c
  holds_lower d within c below above =
      let n : InterId = record { 0 = c } in
      let here : Contains row n = (is.exact c).1 above in
      let k : ℕ = here.0 in
      let inside : k < length row = here.1 in
      let at : (get_or row k d).0 ≡ c = ap (λ (b : InterId). b.0)
      (get_or_default row k d n inside ∙ here.2) in
      elim (cases_lt k i) [
        | inl before ↦ subst P at (earlier k d before)
        | inr later ↦
            elim (cases_lt i k) [
              | inl after ↦ let up = rises row i k d is.rising after inside in
                  absurd (omega (arith, up, at))
              | inr same ↦ let e : k ≡ i = omega arith in
                  absurd (omega (arith, at, ap (λ j. (get_or row j d).0) e))
            ]
      ]

  -- holds of all above at its end
  pub holds_all : length row ≤ i → (c : ℕ) → HasAbove m.priorities a c → P c
  holds_all past c above =
      let n : InterId = record { 0 = c } in
      let here : Contains row n = (is.exact c).1 above in
      subst P (ap (λ (b : InterId). b.0) here.2) (earlier here.0 n (omega (arith, past, here.1)))

-- ---- the grant of one line

plain_lines : (line : List ℕ) → is_plain line ≡ true → 0 < length line → lines line ≡ line ∷ []
plain_lines [] plain some = absurd (omega (arith, some))
plain_lines (b ∷ []) plain some = grind arith
plain_lines (b ∷ d ∷ bs) plain some = grind (arith, plain_lines (d ∷ bs))

-- a plain line, as a text, reads as its grant
pub reads_one : (m : System) (line : List ℕ) (gs : List Grant) → is_plain line ≡ true
    → grants_of m line ≡ Ok gs → (o : Option Grant) × (grant_on m line ≡ Ok o)
    × (gs ≡ one_more [] o)
reads_one m [] gs plain reads = let none : gs ≡ [] = cc in (None, refl, none)
reads_one m (b ∷ bs) gs plain reads = by_line (grant_on m (b ∷ bs)) refl
  where
    one : before_rest 1 (grant_on m (b ∷ bs)) (Ok []) ≡ Ok gs
    one = rw (plain_lines (b ∷ bs) plain (omega arith)) at reads

    by_line : (r : Result (Option Grant) LineFault) → grant_on m (b ∷ bs) ≡ r → (o : Option Grant)
        × (grant_on m (b ∷ bs) ≡ Ok o) × (gs ≡ one_more [] o)
    by_line (Err fault) is = let e : before_rest {X = Grant} 1 (Err fault) (Ok []) ≡ Ok gs =
        rw is at one in cc
    by_line (Ok None) is = let e : before_rest {X = Grant} 1 (Ok None) (Ok []) ≡ Ok gs =
        rw is at one in let none : gs ≡ [] = cc in (None, is, none)
    by_line (Ok (Some g)) is = let e : before_rest 1 (Ok (Some g)) (Ok []) ≡ Ok gs = rw is at one in
        let some : gs ≡ g ∷ [] = cc in (Some g, is, some)

pub one_reads : (m : System) (line : List ℕ) (g : Grant) → is_plain line ≡ true
    → grant_on m line ≡ Ok (Some g) → grants_of m line ≡ Ok (g ∷ [])
one_reads m [] g plain reads = cc
one_reads m (b ∷ bs) g plain reads = rw (plain_lines (b ∷ bs) plain (omega arith), reads) refl

-- what is taken from behind the grants of a plain line is its grant, if it has one
pub record IsTaken (m : System) (line : List ℕ) (o : Option Grant) : Type 0 where
  pub some : IfSome o (λ g. grant_on m line ≡ Ok (Some g))
  pub none : IfNone o ((g : Grant) → ¬ (grant_on m line ≡ Ok (Some g)))

pub taken : (m : System) (line : List ℕ) (gs : List Grant) (o : Option Grant) (n : ℕ)
    → is_plain line ≡ true → grants_of m line ≡ Ok gs → n ≡ length gs
    → ((d : Grant) → 0 < n → o ≡ Some (get_or gs (n - 1) d)) → (IsSome o ↔ (0 < n))
    → IsTaken m line o
taken m line gs o n plain reads long last variant =
    let one = reads_one m line gs plain reads in
    by_item one.0 one.1 one.2
  where
    none : (p : Option Grant) → o ≡ p → n ≡ 0 → o ≡ None
    none None is empty = is
    none (Some g) is empty = absurd (omega (arith, empty, variant.0 (rw is refl)))

    by_item : (item : Option Grant) → grant_on m line ≡ Ok item → gs ≡ one_more [] item
        → IsTaken m line o
    by_item None says are = rw (none o refl (long ∙ ap length are))
        (record { some = tt; none = λ g e. let both = sym says ∙ e in cc })
    by_item (Some g) says are =
        let count : n ≡ 1 = long ∙ ap length are in
        let same : o ≡ Some g = rw (are, count) at (last g (omega (arith, count))) in
        rw same (record { some = says; none = tt })

-- a plain line that is at fault has none
pub none_read : (m : System) (line : List ℕ) (n : ℕ) (fault : LineFault) → is_plain line ≡ true
    → grants_of m line ≡ Err (n, fault) → (g : Grant) → ¬ (grant_on m line ≡ Ok (Some g))
none_read m line n fault plain fails g reads = let both = sym fails
    ∙ one_reads m line g plain reads in cc

-- ---- what the fault says

-- the line's grant may run in the state before it, and its wants aren't enough there
pub record IsShort (m : System) (s : State) (g : Grant) : Type 0 where
  pub may : MayRun m s g.inter.0
  pub short : ¬ AreEnough m s g.inter.0 g.wants

pub parties_short : (m : System) (base : ℕ) (text : List ℕ) (number : ℕ) (s : State) (g : Grant)
    (is : IsFaultOn m base text number Parties) → s ≡ state_after m is.grants
    → grant_on m (line_at text number) ≡ Ok (Some g) → IsShort m s g
parties_short m base text number s g is there reads =
    subst (λ (u : State). IsShort m u g) (sym there)
    (subst (λ (h : Grant). IsShort m (state_after m is.grants) h) same
    (by_step is.step is.same is.why))
  where
    same : is.grant ≡ g
    same = let e = sym is.says ∙ reads in cc

    by_step : (fault : StepFault) → Parties ≡ of_step fault
        → IsFaultOf m (state_after m is.grants) (used_after base is.grants) is.grant fault
        → IsShort m (state_after m is.grants) is.grant
    by_step step.NotEnabled e why = cc
    by_step (step.Below b) e why = cc
    by_step (step.Number c next) e why = cc
    by_step step.Parties e why = record { may = why.0; short = why.2 }

pub not_blocked : (m : System) (s : State) (a : ℕ) (o : Option InterId) (some : Bool)
    → IfSome o (λ b. IsLowestAbove m s a b.0) → some ≡ is_some o → some ≡ true → MayRun m s a → ⊥
not_blocked m s a None some blocked is test may = false≢true (sym is ∙ test)
not_blocked m s a (Some b) some blocked is test may = may.clear b.0 blocked.above blocked.enabled
