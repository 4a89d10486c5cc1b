-- What wants of an interaction's parties say: what they move, and with which numbers. A grant, a
-- request and a decision on offers all speak by such wants.
use Rattle.std.proofs.Common.{◌≡◌, ℕ, List, [], ◌∷◌, Bool, true, false, refl, sym, ap, ◌∙◌, inl}
use Rattle.std.proofs.Common.{inr, arith}
use Rattle.std.proofs.lemmas.Bool.{cases_eq, false_from_ne_true}
use Rattle.bip_model.specs.Parties.{AreParties, AreWantsBy, HasWantOf}
use Rattle.bip_model.specs.Steps.{moves}
use Rattle.bip_model.specs.Wants.{is_moved, moved_in}
use Rattle.bip_model.specs.declared.messages.Offer.{Offer}
use Rattle.bip_model.specs.declared.parts.System.{System}
use Rattle.bip_model.specs.declared.reasons.Why.{Why}
use Rattle.bip_model.specs.declared.wants.Want.{Want}
use Rattle.bip_model.proofs.PartyLemmas.{moving_is_wanted, parties_have_roles}
use Rattle.bip_partition.specs.Plans.{Touches}
use Rattle.bip_core.specs.Lists.{In}
use Rattle.bip_core.proofs.ListLemmas.{All-each, Any-one, in-Contains}

-- wants have one of a component, with a number
pub record HasWant (wants : List Want) (c n : ℕ) : Type 0 where
  pub want : Want
  pub among : In want wants
  pub comp : want.comp.0 ≡ c
  pub number : want.number ≡ n

-- one of wants is one of its component
pub has_want : (wants : List Want) (w : Want) → In w wants → HasWantOf wants w.comp.0
has_want wants w at =
    let there = in-Contains wants w at in
    (there.0, w, there.1, there.2, refl)

-- a first want that moves a component with a number
moved-first : (w : Want) (ws : List Want) (c n : ℕ) → w.comp.0 ≡ c → w.number ≡ n
    → is_moved w.role ≡ true → moved_in (w ∷ ws) c ≡ n
moved-first w ws c n comp number role = grind arith

-- one of another component, or that moves with that number too
moved-later : (w : Want) (ws : List Want) (c n : ℕ) → (w.comp.0 ≡ c → w.number ≡ n)
    → moved_in ws c ≡ n → moved_in (w ∷ ws) c ≡ n
moved-later w ws c n number later = grind arith

-- wants that name a component all move it with this number
moved_with : (ws : List Want) (c n : ℕ) (w : Want) → In w ws → w.comp.0 ≡ c
    → ((v : Want) → In v ws → v.comp.0 ≡ c → v.number ≡ n)
    → ((v : Want) → In v ws → v.comp.0 ≡ c → is_moved v.role ≡ true) → moved_in ws c ≡ n
moved_with [] c n w at comp numbers roles = absurd at
moved_with (x ∷ ws) c n w at comp numbers roles = elim at [
  | inl first ↦
      let here : x.comp.0 ≡ c = ap (λ (v : Want). v.comp.0) (sym first) ∙ comp in
      moved-first x ws c n here (numbers x (inl refl) here) (roles x (inl refl) here)
  | inr later ↦
      moved-later x ws c n (numbers x (inl refl))
      (moved_with ws c n w later comp (λ v i. numbers v (inr i)) (λ v i. roles v (inr i)))
]

-- where wants that name a component all move it, it moves with the number of one of them
moved_as_one : (ws : List Want) (c : ℕ) (w : Want) → In w ws → w.comp.0 ≡ c
    → ((v : Want) → In v ws → v.comp.0 ≡ c → is_moved v.role ≡ true)
    → (x : Want) × In x ws × (x.comp.0 ≡ c) × (moved_in ws c ≡ x.number)
moved_as_one [] c w at comp roles = absurd at
moved_as_one (x ∷ xs) c w at comp roles = elim (cases_eq x.comp.0 c) [
  | inl same ↦ (x, inl refl, same, moved-first x xs c x.number same refl (roles x (inl refl) same))
  | inr other ↦ elim at [
    | inl first ↦ absurd (other (ap (λ (v : Want). v.comp.0) (sym first) ∙ comp))
    | inr later ↦
        let one = moved_as_one xs c w later comp (λ v i. roles v (inr i)) in (
          one.0,
          inr one.1,
          one.2,
          moved-later x xs c one.0.number (λ same. absurd (other same)) one.3,
        )
  ]
]

-- a component that no want moves
unmoved-first : (w : Want) (ws : List Want) (c : ℕ) → (w.comp.0 ≡ c → is_moved w.role ≡ false)
    → moved_in ws c ≡ 0 → moved_in (w ∷ ws) c ≡ 0
unmoved-first w ws c role rest = grind arith

unmoved : (ws : List Want) (c : ℕ)
    → ((w : Want) → In w ws → w.comp.0 ≡ c → is_moved w.role ≡ false) → moved_in ws c ≡ 0
unmoved [] c roles = refl
unmoved (w ∷ ws) c roles =
    unmoved-first w ws c (roles w (inl refl)) (unmoved ws c (λ v i. roles v (inr i)))

module _ {m : System} {a : ℕ} {wants : List Want} (parties : AreParties m a wants) where
  -- each want is of a component that the interaction touches
  pub touched : (w : Want) → In w wants → Touches m a w.comp.0
  touched w at = (parties_have_roles m a wants parties w (in-Contains wants w at)).party

  -- and each component that it moves is wanted
  pub wanted : (c : ℕ) → moves m a c ≡ true → (w : Want) × In w wants × (w.comp.0 ≡ c)
  wanted c on =
      Any-one (λ (w : Want). w.comp.0 ≡ c) wants (moving_is_wanted m a wants parties c on)

  role : (c : ℕ) (moved : Bool) → moves m a c ≡ moved → (w : Want) → In w wants → w.comp.0 ≡ c
      → is_moved w.role ≡ moved
  role c moved is w at comp =
      (parties_have_roles m a wants parties w (in-Contains wants w at)).role
      ∙ (ap (moves m a) comp ∙ is)

  -- what the interaction moves is moved with the number that all its wants have
  pub moved_so : (c n : ℕ) → moves m a c ≡ true
      → ((w : Want) → In w wants → w.comp.0 ≡ c → w.number ≡ n) → moved_in wants c ≡ n
  moved_so c n on numbers =
      let (w, at, comp) = wanted c on in
      moved_with wants c n w at comp numbers (role c true on)

  -- which is that of one of them
  pub moved_with_one : (c : ℕ) → moves m a c ≡ true
      → (w : Want) × In w wants × (w.comp.0 ≡ c) × (moved_in wants c ≡ w.number)
  moved_with_one c on =
      let (w, at, comp) = wanted c on in moved_as_one wants c w at comp (role c true on)

  -- and nothing else is moved
  pub unmoved_so : (c : ℕ) → moves m a c ≡ false → moved_in wants c ≡ 0
  unmoved_so c off = unmoved wants c (role c false off)

  -- least of all what the interaction does not touch
  pub untouched_so : (c : ℕ) → ¬ Touches m a c → moved_in wants c ≡ 0
  untouched_so c untouched =
      unmoved_so c (false_from_ne_true (moves m a c) (λ on. untouched (inl on)))

-- by offers, the numbers are those of the offers
module _ {m : System} {o : ℕ → Offer} {a : ℕ} {reasons : List Why} {wants : List Want}
    (by : AreWantsBy m o a reasons wants) where
  -- each want has the number of its offer
  pub offered_number : (w : Want) → In w wants → w.number ≡ (o w.comp.0).number
  offered_number = All-each (λ (w : Want). w.number ≡ (o w.comp.0).number) wants by.numbers

  offered_at : (c : ℕ) (w : Want) → In w wants → w.comp.0 ≡ c → w.number ≡ (o c).number
  offered_at c w at comp = offered_number w at ∙ ap (λ (d : ℕ). (o d).number) comp

  -- each component that is wanted has such a want
  pub want_of : (c : ℕ) → HasWantOf wants c → HasWant wants c (o c).number
  want_of c has =
      let (w, at, comp) = Any-one (λ (w : Want). w.comp.0 ≡ c) wants has in
      record { want = w; among = at; comp = comp; number = offered_at c w at comp }

  -- and what is moved is moved with that number
  pub moved_as_offered : (c : ℕ) → moves m a c ≡ true → moved_in wants c ≡ (o c).number
  moved_as_offered c on = moved_so by.parties c (o c).number on (offered_at c)
