-- The tables of a plan mean what it says.
use Rattle.std.proofs.Common.{◌≡◌, ◌≢◌, ◌↔◌, ℕ, ◌<◌, List, [], ◌∷◌, length, map, get_or, ap, sym}
use Rattle.std.proofs.Common.{◌∙◌, subst, arith, inl, inr}
use Rattle.std.specs.Prelude.{All, Contains, IsTrue}
use Rattle.std.proofs.lemmas.List.{get_or_default}
use Rattle.std.proofs.lemmas.List.Elements.{Contains-get_or}
use Rattle.std.proofs.lemmas.List.Folds.{Any-from_list_any, list_any-from_Any}
use Rattle.bip_model.specs.Parts.{IsSystem}
use Rattle.bip_model.specs.Sets.{has}
use Rattle.bip_model.specs.declared.numbering.ClassId.{ClassId}
use Rattle.bip_model.specs.declared.numbering.CompId.{CompId}
use Rattle.bip_model.specs.declared.numbering.InterId.{InterId}
use Rattle.bip_model.specs.declared.parts.System.{System}
use Rattle.bip_model.proofs.NumberingLemmas.{rises_from_increasing, same_list}
use Rattle.bip_model.proofs.ListLemmas.{Contains-cases, Contains-none, below_later}
use Rattle.bip_partition.specs.Plans.{AreStations, ClassTouches, InConflict, IsListTouched}
use Rattle.bip_partition.specs.Plans.{IsReserved, IsTabled, Planned, Touches, TouchesTooMany}
use Rattle.bip_partition.specs.Plans.{beside, looked_at, of_two_classes}
use Rattle.bip_partition.specs.Tables.{AreListsTouched, AreListsTouching, AreSeedsBelow, AreTabled}
use Rattle.bip_partition.specs.Tables.{AreTouched, HaveBits, IsCountTouched, IsLinked}
use Rattle.bip_partition.specs.Tables.{IsListReservedBy, IsSeed, comp, inside, meets, shared}
use Rattle.bip_partition.proofs.TouchLemmas.{touched_known, touches_known}

-- the only one of a list
only : {X : Type 0} (x z : X) → Contains (x ∷ []) z → x ≡ z
only x z at = elim (Contains-cases x [] z at) [
  | inl same ↦ same
  | inr none ↦ absurd (Contains-none z none)
]

-- a list that has two different numbers has more than one
two_in : (list : List ClassId) (k l : ℕ) → k ≢ l → Contains list (record { 0 = k })
    → Contains list (record { 0 = l }) → 1 < length list
two_in [] k l differ first second = absurd (Contains-none _ first)
two_in (x ∷ []) k l differ first second = absurd (differ
    (ap (λ (z : ClassId). z.0) (sym (only x (record { 0 = k }) first)
    ∙ only x (record { 0 = l }) second)))
two_in (x ∷ y ∷ ys) k l differ first second = omega arith

-- an interaction has one list of what it touches
pub same_touched : (m : System) (a : ℕ) (xs ys : List CompId) → IsListTouched m a xs
    → IsListTouched m a ys → xs ≡ ys
same_touched m a xs ys h k =
    same_list (λ (c : CompId). c.0) xs ys (rises_from_increasing
    (map (λ (c : CompId). c.0) xs) h.rising)
    (rises_from_increasing (map (λ (c : CompId). c.0) ys) k.rising)
    (λ z at. (k.exact z.0).1 ((h.exact z.0).0 at)) (λ z at. (h.exact z.0).1 ((k.exact z.0).0 at))

-- an interaction touches too many where it touches more than a grant can want
pub too_many : (m : System) (a count : ℕ) → IsCountTouched m a count
    → (32 < count) ↔ TouchesTooMany m a
too_many m a count is = (
  λ more. record { list = is.list; listed = is.listed; many = rw (← is.counted) more },
  λ many. let same = same_touched m a many.list is.list many.listed is.listed in
      rw is.counted (rw same at many.many),
)

-- what touches too many is an interaction of the model
pub many_known : (m : System) (a : ℕ) → IsSystem m → TouchesTooMany m a → a < length m.interactions
many_known m a valid many =
    let first : CompId = get_or many.list 0 (comp 0) in
    touches_known m a first.0 valid ((many.listed.exact first.0).0
    (Contains-get_or many.list 0 (comp 0) (omega (arith, many.many))))

-- a component with a row is one of the model
pub tabled_known : (p : Planned) (c : ℕ) → IsSystem p.model → IsTabled p c
    → c < length p.model.components
tabled_known p c valid (looked_at {a} looked) = touched_known p.model a c valid (inr looked)
tabled_known p c valid (of_two_classes differ one other) =
    touched_known p.model one.1.0 c valid one.4
tabled_known p c valid (beside {a} own near rest) = touched_known p.model a c valid own

-- a reserved interaction is one of the model
pub reserved_known : (p : Planned) (a : ℕ) → IsSystem p.model → IsReserved p a
    → a < length p.model.interactions
reserved_known p a valid is = touches_known p.model a is.comp valid is.touched

-- what is touched has a bit
pub touched_bits : (m : System) (a : ℕ) (list : List CompId) → IsSystem m → IsListTouched m a list
    → HaveBits list
touched_bits m a list valid listed = λ k d within.
    let touched = (listed.exact (get_or list k d).0).0 (Contains-get_or list k d within) in
    omega (
      arith,
      touched_known m a (get_or list k d).0 valid touched,
      valid.so_far.few_components,
      valid.components_named,
    )

-- a list of what is touched meets the set of the components with a row where they say so
pub meets_reserved : (p : Planned) (a tabled : ℕ) (list : List CompId)
    → IsListTouched p.model a list → AreTabled p tabled
    → IsTrue (meets tabled list) ↔ IsReserved p a
meets_reserved p a tabled list listed rows = (
  λ met. let at = Any-from_list_any (λ (c : CompId). has tabled c.0) list met in
      record {
        comp = at.1.0;
        touched = (listed.exact at.1.0).0 (at.0, at.2, at.3);
        tabled = (rows at.1.0).0 at.4;
      },
  λ is. let there = (listed.exact is.comp).1 is.touched in
      list_any-from_Any (λ (c : CompId). has tabled c.0) list
      (there.0, comp is.comp, there.1, there.2, (rows is.comp).1 is.tabled),
)

-- what is in conflict with something is an interaction of the model
pub conflict_known : (m : System) (a b : ℕ) → IsSystem m → InConflict m a b
    → a < length m.interactions
conflict_known m a b valid is = touches_known m a is.0 valid is.1.0

module _ (p : Planned) (valid : IsSystem p.model) (touches : List (List CompId))
    (lists : AreListsTouched p.model (length p.model.interactions) touches) where
  -- what stands in a list is touched
  in_list : (a : ℕ) → a < length p.model.interactions → (c : ℕ)
      → Contains (get_or touches a []) (comp c) ↔ Touches p.model a c
  in_list a within c = (lists.list a within).exact c

  pub have_bits : All HaveBits touches
  have_bits = λ k d within j e below.
      let known : k < length p.model.interactions = omega (arith, within, lists.each) in
      let same : get_or touches k d ≡ get_or touches k [] = get_or_default touches k d [] within in
      let there : Contains (get_or touches k d) (get_or (get_or touches k d) j e) =
      Contains-get_or (get_or touches k d) j e below in
      let touched = (in_list k known (get_or (get_or touches k d) j e).0).0
      (subst (λ (list : List CompId). Contains list (get_or (get_or touches k d) j e)) same
      there) in
      omega (
        arith,
        touched_known p.model k (get_or (get_or touches k d) j e).0 valid touched,
        valid.so_far.few_components,
        valid.components_named,
      )

  -- two components that one list has are touched by one interaction
  both_touched : (c d : ℕ) → AreTouched touches c d → (a : ℕ) × Touches p.model a c
      × Touches p.model a d
  both_touched c d both =
      let at = both.interaction in
      let known : at.0 < length p.model.interactions = omega (arith, at.1, lists.each) in
      let list : get_or touches at.0 [] ≡ both.touched =
      get_or_default touches at.0 [] both.touched at.1 ∙ at.2 in (
        at.0,
        (in_list at.0 known c).0 (rw list both.first),
        (in_list at.0 known d).0 (rw list both.second),
      )

  one_list : (a c d : ℕ) → Touches p.model a c → Touches p.model a d → AreTouched touches c d
  one_list a c d first second =
      let known : a < length p.model.interactions = touches_known p.model a c valid first in
      record {
        touched = get_or touches a [];
        interaction = Contains-get_or touches a [] (omega (arith, known, lists.each));
        first = (in_list a known c).1 first;
        second = (in_list a known d).1 second;
      }

  module _ (touching : List (List ClassId)) (listed : AreListsTouching p
      (length p.model.components) touching) (seeds : ℕ)
      (first : AreSeedsBelow p.model touching (length p.model.components) seeds)
      (tabled : ℕ) (all : (c : ℕ) → IsTrue (has tabled c) ↔ IsLinked touches seeds c) where
    seed_tabled : (c : ℕ) → c < length p.model.components → IsSeed p.model touching c → IsTabled p c
    seed_tabled c within (inl two) =
        let list : List ClassId = get_or touching c [] in
        let none : ClassId = record { 0 = 0 } in
        let rise = below_later (λ (k : ClassId). k.0) list (listed.list c within).rising 0 1 none
        (omega arith) two in
        let touches_it : (i : ℕ) → i < length list → ClassTouches p (get_or list i none).0 c =
        λ i below. ((listed.list c within).exact (get_or list i none).0).0
        (Contains-get_or list i none below) in
        of_two_classes (λ same. omega (arith, rise, same)) (touches_it 0 (omega arith))
        (touches_it 1 two)
    seed_tabled c within (inr looked) = looked_at looked.1

    linked_tabled : (c : ℕ) → IsLinked touches seeds c → IsTabled p c
    linked_tabled c (inside set) = let is = (first c).0 set in seed_tabled c is.0 is.1
    linked_tabled c (shared {d} both rest) = let at = both_touched c d both in
        beside at.1 at.2 (linked_tabled d rest)

    class_known : (k c : ℕ) → ClassTouches p k c → c < length p.model.components
    class_known k c at = touched_known p.model at.1.0 c valid at.4

    tabled_linked : (c : ℕ) → IsTabled p c → IsLinked touches seeds c
    tabled_linked c (looked_at {a} looked) = inside
        ((first c).1 (touched_known p.model a c valid (inr looked), inr (a, looked)))
    tabled_linked c (of_two_classes {k} {l} differ one other) =
        let within : c < length p.model.components = class_known k c one in
        let exact = (listed.list c within).exact in
        inside ((first c).1 (
          within,
          inl (two_in (get_or touching c []) k l differ ((exact k).1 one)
              ((exact l).1 other)),
        ))
    tabled_linked c (beside {a} {d = d} own near rest) =
        shared (one_list a c d own near) (tabled_linked d rest)

    pub are_tabled : AreTabled p tabled
    are_tabled c = (λ in'. linked_tabled c ((all c).0 in'), λ is. (all c).1 (tabled_linked c is))

    pub are_stations : (list : List InterId) → IsListReservedBy touches tabled (length touches) list
        → AreStations p list
    are_stations list reserved = record {
      rising = reserved.rising;
      exact = λ a. (
        λ at. let both = (reserved.exact a).0 at in
            (meets_reserved p a tabled (get_or touches a [])
            (lists.list a (omega (arith, both.0, lists.each))) are_tabled).0 both.1,
        λ is. let within : a < length p.model.interactions =
            touches_known p.model a is.comp valid is.touched in
            (reserved.exact a).1 (
              omega (arith, within, lists.each),
              (meets_reserved p a tabled (get_or touches a []) (lists.list a within) are_tabled).1
                  is,
            ),
      );
    }

-- there is one list of stations
pub one_stations : (p : Planned) (xs ys : List InterId) → AreStations p xs → AreStations p ys
    → xs ≡ ys
one_stations p xs ys a b =
    same_list (λ (c : InterId). c.0) xs ys (rises_from_increasing
    (map (λ (c : InterId). c.0) xs) a.rising)
    (rises_from_increasing (map (λ (c : InterId). c.0) ys) b.rising)
    (λ z at. (b.exact z.0).1 ((a.exact z.0).0 at)) (λ z at. (a.exact z.0).1 ((b.exact z.0).0 at))
