-- What is kept of interactions and classes, and what that means.
use Rattle.std.proofs.Common.{◌≡◌, ◌⊎◌, ◌↔◌, ℕ, ◌+◌, ◌<◌, true, eqb, ◌||◌, List, [], length, take}
use Rattle.std.proofs.Common.{get_or, refl, sym, ◌∙◌, subst, inl, inr, arith}
use Rattle.std.specs.Prelude.{All, Any, Contains, slice_get}
use Rattle.std.specs.List.{list_any}
use Rattle.std.specs.Option.{option_map_or}
use Rattle.std.proofs.lemmas.Bool.{eqb-true, eq-eqb}
use Rattle.std.proofs.lemmas.List.{get_or_default}
use Rattle.std.proofs.lemmas.List.Elements.{All-contains}
use Rattle.std.proofs.lemmas.List.Folds.{Any-from_list_any, list_any-from_Any, list_any_more}
use Rattle.std.proofs.lemmas.Option.{slice_get-get_or}
use Rattle.bip_model.specs.Partitions.{AreClassesOf, IsClasses}
use Rattle.bip_model.specs.Parts.{IsSystem, Participant}
use Rattle.bip_model.specs.Sets.{has}
use Rattle.bip_model.specs.Steps.{moves, participants_of}
use Rattle.bip_model.specs.declared.numbering.CompId.{CompId}
use Rattle.bip_model.specs.declared.numbering.InterId.{InterId}
use Rattle.bip_model.specs.declared.parts.System.{System}
use Rattle.bip_partition.specs.Plans.{InConflict, IsListTouched, IsReserved, Planned, Touches}
use Rattle.bip_partition.specs.Tables.{AreClassSets, AreFootprints, AreSetsTouched, AreTabled}
use Rattle.bip_partition.specs.Tables.{IsFootprint, comp, touched_among}
use Rattle.bip_partition.specs.declared.footprints.Footprint.{Footprint}
use Rattle.bip_partition.proofs.SetLemmas.{Share}
use Rattle.bip_partition.proofs.TouchLemmas.{touched_known}

-- a list of what is touched has just that
pub listed_touches : (m : System) (a c : ℕ) (list : List CompId) → IsListTouched m a list
    → (list_any (λ (d : CompId). eqb d.0 c) list ≡ true) ↔ Touches m a c
listed_touches m a c list is = (
  λ any.
      let at = Any-from_list_any (λ (d : CompId). eqb d.0 c) list any in
      subst (Touches m a) (eqb-true at.1.0 c at.4) ((is.exact at.1.0).0 (at.0, at.2, at.3)),
  λ touches.
      let at = (is.exact c).1 touches in
      list_any-from_Any (λ (d : CompId). eqb d.0 c) list
      (at.0, comp c, at.1, at.2, eq-eqb c c refl),
)

-- a participant's component has a bit
pub participant_bits : (m : System) (a : ℕ) → IsSystem m
    → All (λ (q : Participant). q.0.0 < 64) (participants_of m a)
participant_bits m a valid = λ k d within.
    let c = (get_or (participants_of m a) k d).0.0 in
    let moved : moves m a c ≡ true = list_any-from_Any (λ (q : Participant). eqb q.0.0 c)
    (participants_of m a) (
      k,
      get_or (participants_of m a) k d,
      within,
      get_or_default (participants_of m a) k (get_or (participants_of m a) k d) d within,
      eq-eqb c c refl,
    ) in
    omega (
      arith,
      touched_known m a c valid (inl moved),
      valid.so_far.few_components,
      valid.components_named,
    )

-- two interactions are in conflict where one touches what the other moves
pub conflict_shared : (p : Planned) (a b : ℕ) (f g : Footprint) → IsFootprint p a f
    → IsFootprint p b g → InConflict p.model a b → Share f.touched g.moved ⊎ Share f.moved g.touched
conflict_shared p a b f g one other (c, (own, near, inl moved)) =
    inr (c, one.moved c ∙ moved, (other.touched c).1 near)
conflict_shared p a b f g one other (c, (own, near, inr moved)) =
    inl (c, (one.touched c).1 own, other.moved c ∙ moved)

pub shared_conflict : (p : Planned) (a b : ℕ) (f g : Footprint) → IsFootprint p a f
    → IsFootprint p b g → Share f.touched g.moved ⊎ Share f.moved g.touched → InConflict p.model a b
shared_conflict p a b f g one other (inl (c, own, near)) =
    let moved : moves p.model b c ≡ true = sym (other.moved c) ∙ near in
    (c, ((one.touched c).0 own, inl moved, inr moved))
shared_conflict p a b f g one other (inr (c, own, near)) =
    let moved : moves p.model a c ≡ true = sym (one.moved c) ∙ own in
    (c, (inl moved, (other.touched c).0 near, inl moved))

-- an interaction is reserved where it touches a component with a row
pub shared_reserved : (p : Planned) (a tabled : ℕ) (f : Footprint) → IsFootprint p a f
    → AreTabled p tabled → Share f.touched tabled ↔ IsReserved p a
shared_reserved p a tabled f one rows = (
  λ at. record { comp = at.0; touched = (one.touched at.0).0 at.1; tabled = (rows at.0).0 at.2 },
  λ is. (is.comp, (one.touched is.comp).1 is.touched, (rows is.comp).1 is.tabled),
)

-- one more member's set joins those of the first ones
pub one_more_touched : (kept : List Footprint) (members : List InterId) (i : ℕ) (d : InterId)
    (e : Footprint) (set more : ℕ) → i < length members → (get_or members i d).0 < length kept
    → ((c : ℕ) → has set c ≡ touched_among kept (take i members) c)
    → ((c : ℕ) → has more c ≡ (has set c || has
    (get_or kept (get_or members i d).0 e).touched c)) → (c : ℕ)
    → has more c ≡ touched_among kept (take (i + 1) members) c
one_more_touched kept members i d e set more within known before next c =
    let test = λ (a : InterId). has (option_map_or (λ (f : Footprint). f.touched)
    (slice_get kept a.0) 0) c in
    next c ∙ (rw (
      list_any_more test members i d within,
      before c,
      slice_get-get_or kept (get_or members i d).0 e known,
    ) refl)

module _ (p : Planned) (valid : IsClasses p.classes) (parted : AreClassesOf p.model p.classes)
    (kept : List Footprint) (each : AreFootprints p (length p.model.interactions) kept) where
  -- whether an interaction of the model touches a component
  kept_touches : (a c : ℕ) → a < length p.model.interactions
      → (has (option_map_or (λ (f : Footprint). f.touched) (slice_get kept a) 0) c ≡ true) ↔ Touches
      p.model a c
  kept_touches a c within =
      let none : Footprint = record {
        moved = 0;
        touched = 0;
        class = record { 0 = 0 };
        place = 0;
      } in
      let inside : a < length kept = omega (arith, within, each.each) in
      rw (slice_get-get_or kept a none inside) ((each.one a none within).touched c)

  pub any_touches : (members : List InterId) (c : ℕ)
      → All (λ (a : InterId). a.0 < length p.model.interactions) members
      → (touched_among kept members c ≡ true) ↔ Any (λ (a : InterId). Touches p.model a.0 c) members
  any_touches members c known =
      let test = λ (a : InterId). has (option_map_or (λ (f : Footprint). f.touched)
      (slice_get kept a.0) 0) c in
      let within : (a : InterId) → Contains members a → a.0 < length p.model.interactions =
      λ a at. All-contains (λ (b : InterId). b.0 < length p.model.interactions) members a known
      at in (
        λ any. let at = Any-from_list_any test members any in (
          at.0,
          at.1,
          at.2,
          at.3,
          (kept_touches at.1.0 c
              (within at.1 (at.0, at.2, at.3))).0 at.4,
        ),
        λ at. list_any-from_Any test members (
          at.0,
          at.1,
          at.2,
          at.3,
          (kept_touches at.1.0 c (within at.1 (at.0, at.2, at.3))).1 at.4,
        ),
      )

  pub are_class_sets : (sets : List ℕ) → AreSetsTouched kept p.classes.members
      (length p.classes.members) sets → AreClassSets p sets
  are_class_sets sets is = record {
    each = is.each;
    set = λ k within c.
        let inside : k < length p.classes.members = omega (arith, within, is.each) in
        let known : All (λ (a : InterId). a.0 < length p.model.interactions)
        (get_or p.classes.members k []) = rw (← parted) (valid.known k [] inside) in
        rw (is.set k inside c) (any_touches (get_or p.classes.members k []) c known);
  }
