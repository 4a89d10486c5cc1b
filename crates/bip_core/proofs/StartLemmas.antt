-- The nodes of a new world, and what they offer first.
use Rattle.std.proofs.Common.{◌≡◌, ◌⊎◌, ◌∙◌, ℕ, zero, suc, ◌+◌, ◌≤◌, List, [], ◌∷◌, ◌++◌, Option}
use Rattle.std.proofs.Common.{Some, inl, inr, length, slice_get, refl, ap, arith}
use Rattle.std.specs.Option.{option_map}
use Rattle.std.proofs.lemmas.List.{length-append}
use Rattle.std.proofs.lemmas.Option.{slice_get_cases}
use Rattle.bip_partition.specs.Plans.{Planned}
use Rattle.bip_component.specs.Components.{IsOffered, Node}
use Rattle.bip_ip.specs.Nodes.{KeptNode, node_of}
use Rattle.bip_bank.specs.Banks.{BankContent, asked_nothing}
use Rattle.bip_core.specs.Starting.{AreFirstClasses, AreFirstComponents, AreOffersBelow}
use Rattle.bip_core.specs.Starting.{IsFirstClass, IsFirstComponent, IsUnasked}
use Rattle.bip_core.specs.Worlds.{AreOffersOf}
use Rattle.bip_model.specs.declared.messages.Offer.{Offer}
use Rattle.bip_core.specs.Events.{AreKeptOf, ArePut, all_done, one_kept, one_lost}
use Rattle.bip_core.specs.declared.messages.Message.{Message}

-- so many things, of which each is so by its place
pub record AreEach {X : Type 0} (P : ℕ → X → Type 0) (n : ℕ) (xs : List X) : Type 0 where
  pub each : length xs ≡ n
  pub first : (k : ℕ) (x : X) → slice_get xs k ≡ Some x → P k x

-- what is read of a list with one more
read_push : {X : Type 0} (xs : List X) (x : X) (k : ℕ) (y : X) → slice_get (xs ++ x ∷ []) k ≡ Some y
    → ((k ≡ length xs) × (x ≡ y)) ⊎ (slice_get xs k ≡ Some y)
read_push [] x zero y is = inl (refl, cc)
read_push [] x (suc k) y is = absurd (cc)
read_push (z ∷ zs) x zero y is = inr is
read_push (z ∷ zs) x (suc k) y is = elim (read_push zs x k y is) [
  | inl here ↦ inl (ap suc here.0, here.1)
  | inr there ↦ inr there
]

pub no_more : {X : Type 0} (P : ℕ → X → Type 0) → AreEach P 0 []
no_more P = record { each = refl; first = λ k x is. absurd (cc) }

pub one_more : {X : Type 0} (P : ℕ → X → Type 0) (n : ℕ) (xs : List X) (x : X) → AreEach P n xs
    → P n x → AreEach P (n + 1) (xs ++ x ∷ [])
one_more P n xs x so is = record {
  each = length-append xs (x ∷ []) ∙ ap (λ k. k + 1) so.each;
  first = λ k y read. elim (read_push xs x k y read) [
    | inl here ↦ rw (here.0, so.each, ← here.1) is
    | inr there ↦ so.first k y there
  ];
}

-- each node of a list of a world at the start
pub component_at : (p : Planned) (base : ℕ) (nodes : List Node) (c : ℕ)
    → AreFirstComponents p base nodes → IsFirstComponent p base c (slice_get nodes c)
component_at p base nodes c first = elim (slice_get_cases nodes c).1 [
  | inl here ↦ rw here.2 (rw (← first.each) here.1, first.first c here.0 here.2)
  | inr past ↦ rw past.1 (rw (← first.each) past.0)
]

pub class_at : (p : Planned) (base : ℕ) (nodes : List KeptNode) (k : ℕ)
    → AreFirstClasses p base nodes → IsFirstClass p base k (option_map node_of (slice_get nodes k))
class_at p base nodes k first = elim (slice_get_cases nodes k).1 [
  | inl here ↦ rw here.2 (rw (← first.each) here.1, first.first k here.0 here.2)
  | inr past ↦ rw past.1 (rw (← first.each) past.0)
]

-- no more are kept than there are; and where as many are, all are
kept_few : (ps xs : List Message) → AreKeptOf ps xs → length ps ≤ length xs
kept_few [] [] all_done = omega arith
kept_few (p ∷ ps) (x ∷ xs) (one_kept kept) = omega (arith, kept_few ps xs kept)
kept_few (p ∷ ps) [] x3 = elim x3 [ ]
kept_few ps (x ∷ xs) (one_lost kept) = omega (arith, kept_few ps xs kept)

kept_whole : (ps xs : List Message) → AreKeptOf ps xs → length xs ≤ length ps → ps ≡ xs
kept_whole [] [] all_done few = refl
kept_whole (p ∷ ps) (x ∷ xs) (one_kept kept) few =
    ap (λ l. p ∷ l) (kept_whole ps xs kept (omega (arith, few)))
kept_whole (p ∷ ps) [] x3 few = elim x3 [ ]
kept_whole ps (x ∷ xs) (one_lost kept) few =
    let fewer = kept_few ps xs kept in
    let none : ⊥ = omega (arith, few, fewer) in
    absurd none

-- what is put without a loss is all that is sent
pub put_whole : (sent mail later : List Message) (lost : ℕ) → lost ≡ 0 → ArePut sent lost mail later
    → later ≡ mail ++ sent
put_whole sent mail later lost none put = put.last
    ∙ ap (λ l. mail ++ l) (kept_whole put.put sent put.kept (omega (arith, put.count, none)))

-- what one more component offers
pub offers_more : (c : ℕ) (p : Planned) (nodes : ℕ → Option Node) (node : Node) (offer : Offer)
    (before last : List Message) → nodes c ≡ Some node → IsOffered node (Some offer)
    → AreOffersOf p offer last → AreOffersBelow c p nodes before
    → AreOffersBelow (c + 1) p nodes (before ++ last)
offers_more c p nodes node offer before last is offered sent so =
    rw (succ_of c) (node, offer, before, last, is, offered, sent, so, refl)
  where
    succ_of : (n : ℕ) → n + 1 ≡ suc n
    succ_of n = omega arith

-- a bank that was asked nothing and granted nothing
pub unasked_content : (p : Planned) (base : ℕ) (b : BankContent) → IsUnasked p base b
    → b.used ≡ (λ c. b.base) → b ≡ asked_nothing p base b.sharing
unasked_content p base b is unused = rw (unused, is.plan, is.base, is.grants, is.waiting) refl
