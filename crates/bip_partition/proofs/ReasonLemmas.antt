-- Reasons: what the tests of them say.
use Rattle.std.proofs.Common.{◌≡◌, ℕ, ◌<◌, true, eqb, eqb-true, eq-eqb, List, [], ◌∷◌, length, map}
use Rattle.std.proofs.Common.{get_or, Option, Some, refl, sym, ap, ◌∙◌, subst, arith}
use Rattle.std.specs.Prelude.{◌↔◌, Contains, IsSomeAnd, slice_get}
use Rattle.std.specs.List.Sorted.{IsStrictlyIncreasing}
use Rattle.std.proofs.lemmas.Bool.{and_parts}
use Rattle.std.proofs.lemmas.Option.{get_or_from_slice_get, slice_get-get_or, slice_get_within}
use Rattle.std.proofs.lemmas.List.{get_or-map, length-map, map-id}
use Rattle.std.proofs.lemmas.List.Elements.{All-contains, Contains-get_or}
use Rattle.std.proofs.lemmas.List.Folds.{Any-from_list_any, list_any_at}
use Rattle.std.proofs.lemmas.List.Sums.{AllPass-from_list_all, list_all-from_AllPass}
use Rattle.bip_model.specs.Parties.{AreExplained, AreReasonsFor, HasWantOf, IsBorne, has_want_of}
use Rattle.bip_model.specs.Parts.{Participant}
use Rattle.bip_model.specs.Priorities.{HasAbove, IsListAbove, inter}
use Rattle.bip_model.specs.Reasons.{AreForEach, IsNamedBy, inters_of}
use Rattle.bip_model.specs.Steps.{moves, participants_of}
use Rattle.bip_model.specs.declared.numbering.InterId.{InterId}
use Rattle.bip_model.specs.declared.parts.System.{System}
use Rattle.bip_model.specs.declared.reasons.Cause.{Cause}
use Rattle.bip_model.specs.declared.reasons.Cause.TheVariants.{Port, Guard}
use Rattle.bip_model.specs.declared.reasons.Why.{Why}
use Rattle.bip_model.specs.declared.wants.Want.{Want}
use Rattle.bip_model.proofs.NumberingLemmas.{rises_from_increasing, same_list}
use Rattle.bip_model.proofs.PartyLemmas.{has_from_test, test_from_has}
use Rattle.bip_partition.specs.Reasons.{AreInTurn, is_cause_borne}

-- ---- what is borne

borne_from_test : (m : System) (wants : List Want) (b : ℕ) (cause : Cause)
    → is_cause_borne m wants b cause ≡ true → (c : ℕ) → IsNamedBy m b cause c → (moves m b c ≡ true)
    × HasWantOf wants c
borne_from_test m wants b (Port d) test c named =
    let both = and_parts (moves m b d.0) (has_want_of wants d.0) test in (
      subst (λ (e : ℕ). moves m b e ≡ true) named both.0,
      subst (HasWantOf wants) named (has_from_test wants d.0 both.1),
    )
borne_from_test m wants b Guard test c named =
    let at = Any-from_list_any (λ (q : Participant). eqb q.0.0 c) (participants_of m b) named in
    let has = All-contains (λ (q : Participant). has_want_of wants q.0.0 ≡ true)
    (participants_of m b) at.1 (AllPass-from_list_all
    (λ (q : Participant). has_want_of wants q.0.0) (participants_of m b) test)
    (at.0, at.2, at.3) in
    (named, subst (HasWantOf wants) (eqb-true at.1.0.0 c at.4) (has_from_test wants at.1.0.0 has))

test_from_borne : (m : System) (wants : List Want) (b : ℕ) (cause : Cause)
    → ((c : ℕ) → IsNamedBy m b cause c → (moves m b c ≡ true) × HasWantOf wants c)
    → is_cause_borne m wants b cause ≡ true
test_from_borne m wants b (Port d) borne =
    let both = borne d.0 refl in
    rw (both.0, test_from_has wants d.0 both.1) refl
test_from_borne m wants b Guard borne =
    list_all-from_AllPass (λ (q : Participant). has_want_of wants q.0.0) (participants_of m b)
    (λ k d within.
    let q = get_or (participants_of m b) k d in
    test_from_has wants q.0.0 (borne q.0.0 (list_any_at (λ (r : Participant). eqb r.0.0 q.0.0)
    (participants_of m b) k d within (eq-eqb q.0.0 q.0.0 refl))).1)

pub borne_is_tested : (m : System) (wants : List Want) (y : Why)
    → (is_cause_borne m wants y.inter.0 y.cause ≡ true) ↔ IsBorne m wants y
borne_is_tested m wants y = (
  borne_from_test m wants y.inter.0 y.cause,
  test_from_borne m wants y.inter.0 y.cause,
)

-- ---- in turn

-- of reasons in turn, the one at a place of theirs, and the interaction that it is for
record IsAt (m : System) (above : List InterId) (wants : List Want) (y : Why) : Type 0 where
  inter : Contains above y.inter
  borne : IsBorne m wants y

module _ (m : System) (a : ℕ) (wants : List Want) (reasons : List Why) (above : List InterId)
    (list : IsListAbove m.priorities a above) where
  there : AreInTurn m above wants reasons → (k : ℕ) (y : Why) → k < length reasons
      → get_or reasons k y ≡ y → IsAt m above wants y
  there are k y within is =
      let inside : k < length above = omega (arith, are.count, within) in
      let b = get_or above k y.inter in
      let at = are.each k b (slice_get-get_or above k y.inter inside) in
      let here : slice_get reasons k ≡ Some y = slice_get-get_or reasons k y within ∙ ap Some is in
      let both : (y.inter.0 ≡ b.0) × IsBorne m wants y =
      subst (λ (o : Option Why). IsSomeAnd o (λ z. (z.inter.0 ≡ b.0) × IsBorne m wants z)) here
      at in
      let same : b ≡ y.inter = ap inter (sym both.0) in
      record { inter = (k, inside, same); borne = both.1 }

  pub for_from_turn : AreInTurn m above wants reasons → AreReasonsFor m a wants reasons
  for_from_turn are = record {
    each = λ b. (
      λ at. subst (HasAbove m.priorities a) at.4
          ((list.exact at.1.inter.0).0 (there are at.0 at.1 at.2 at.3).inter),
      λ higher.
          let at = (list.exact b).1 higher in
          let within : at.0 < length reasons = omega (arith, are.count, at.1) in
          let y = get_or reasons at.0 (record { inter = inter b; cause = Guard }) in
          let same = Contains-get_or reasons at.0
          (record { inter = inter b; cause = Guard }) within in
          let both : (y.inter.0 ≡ b) × IsBorne m wants y =
          subst (λ (o : Option Why). IsSomeAnd o (λ z. (z.inter.0 ≡ b) × IsBorne m wants z))
          (slice_get-get_or reasons at.0 (record { inter = inter b; cause = Guard }) within)
          (are.each at.0 (inter b) (slice_get-get_or above at.0 (inter b) at.1
          ∙ ap Some at.2)) in
          (same.0, y, same.1, same.2, both.0),
    );
    borne = λ k d within. let at = Contains-get_or reasons k d within in
        (there are at.0 (get_or reasons k d) at.1 at.2).borne;
  }

  -- both lists rise, so they are the same
  inters_above : AreForEach m a reasons → IsStrictlyIncreasing (inters_of reasons)
      → inters_of reasons ≡ map (λ (b : InterId). b.0) above
  inters_above each rising = same_list (λ (b : ℕ). b) (inters_of reasons) numbers
      (simp map-id (rises_from_increasing (inters_of reasons) rising))
      (simp map-id (rises_from_increasing numbers list.rising)) up down
    where
      numbers : List ℕ
      numbers = map (λ (b : InterId). b.0) above

      up : (b : ℕ) → Contains (inters_of reasons) b → Contains numbers b
      up b at =
          let d : Why = record { inter = inter b; cause = Guard } in
          let inside : at.0 < length reasons = simp length-map at at.1 in
          let y = get_or reasons at.0 d in
          let same : y.inter.0 ≡ b = sym (get_or-map
          (λ (z : Why). z.inter.0) reasons at.0 d b inside) ∙ at.2 in
          let known = Contains-get_or reasons at.0 d inside in
          let found = (list.exact b).1 ((each b).0 (known.0, y, known.1, known.2, same)) in (
            found.0,
            simp length-map found.1,
            get_or-map (λ (e : InterId). e.0) above found.0 (inter
                b) b found.1 ∙ ap (λ (e : InterId). e.0) found.2,
          )

      down : (b : ℕ) → Contains numbers b → Contains (inters_of reasons) b
      down b at =
          let inside : at.0 < length above = simp length-map at at.1 in
          let e = get_or above at.0 (inter b) in
          let same : e.0 ≡ b = sym (get_or-map (λ (f : InterId). f.0) above at.0 (inter b) b inside)
          ∙ at.2 in
          let found = (each b).1 (subst (HasAbove m.priorities a) same
          ((list.exact e.0).0 (Contains-get_or above at.0 (inter b) inside))) in (
            found.0,
            simp length-map found.2,
            get_or-map (λ (z : Why).
                z.inter.0) reasons found.0 found.1 b found.2
                ∙ (ap (λ (z : Why). z.inter.0) found.3 ∙ found.4),
          )

  pub turn_from_for : IsStrictlyIncreasing (inters_of reasons) → AreReasonsFor m a wants reasons
      → AreInTurn m above wants reasons
  turn_from_for rising are =
      let same = inters_above are.each rising in
      let count : length reasons ≡ length above = sym (length-map reasons (λ (y : Why). y.inter.0))
      ∙ (ap length same ∙ length-map above (λ (b : InterId). b.0)) in
      record {
        count = count;
        each = λ k b here.
            let inside = slice_get_within above k b here in
            let within : k < length reasons = omega (arith, count, inside) in
            let d : Why = record { inter = b; cause = Guard } in
            let y = get_or reasons k d in
            let number : y.inter.0 ≡ b.0 =
            sym (get_or-map (λ (z : Why). z.inter.0) reasons k d 0 within)
            ∙ (ap (λ (ns : List ℕ). get_or ns k 0) same
            ∙ (get_or-map (λ (e : InterId). e.0) above k b 0 inside
            ∙ ap (λ (e : InterId). e.0) (get_or_from_slice_get above k b b here))) in
            subst (λ (o : Option Why). IsSomeAnd o (λ z. (z.inter.0 ≡ b.0) × IsBorne m wants z))
            (sym (slice_get-get_or reasons k d within)) (number, are.borne k d within);
      }

-- with a reason or more, they explain where they are for the interaction
pub explained_by : (m : System) (a : ℕ) (wants : List Want) (reasons : List Why) → ¬ (reasons ≡ [])
    → AreExplained m a wants reasons ↔ AreReasonsFor m a wants reasons
explained_by m a wants [] some = absurd (some refl)
explained_by m a wants (y ∷ ys) some = (λ are. are, λ are. are)

-- reasons that are for an interaction explain it, also where there are none
pub for_explains : (m : System) (a : ℕ) (wants : List Want) (reasons : List Why)
    → AreReasonsFor m a wants reasons → AreExplained m a wants reasons
for_explains m a wants [] are = λ c looked. let at = (are.each looked.higher).1 looked.above in
    absurd (omega (arith, at.2))
for_explains m a wants (y ∷ ys) are = are
