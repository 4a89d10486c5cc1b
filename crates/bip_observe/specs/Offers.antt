-- What a class holds of the components that it touches, and what becomes of an offer that it gets.
use Rattle.std.specs.Prelude.{◌≡◌, ℕ, ◌<◌, List, Option, None, Some, length, max, slice_get}
use Rattle.std.specs.Prelude.{slice_index_or, IfSome, IsSomeAnd}
use Rattle.bip_model.specs.Messages.{IsOfferOf}
use Rattle.bip_model.specs.Numbering.{put}
use Rattle.bip_model.specs.declared.messages.Offer.{Offer}
use Rattle.bip_partition.specs.Plans.{ClassTouches, Planned}
use Rattle.bip_observe.specs.declared.offers.Receipt.{Receipt}
use Rattle.bip_observe.specs.declared.offers.Receipt.TheVariants.{Held, Old, Stranger}

-- what a class has of the components of its plan: of each the greatest used number that it knows,
-- and the offer that it holds, if any
pub record Observed : Type 0 where
  pub plan : Planned
  pub class : ℕ
  pub known : ℕ → ℕ
  pub held : ℕ → Option Offer

-- what is kept of it, component by component
pub record KeptOffers : Type 0 where
  pub plan : Planned
  pub class : ℕ
  pub base : ℕ
  pub known : List ℕ
  pub held : List (Option Offer)

-- what a class has by what is kept; of a component that isn't kept it knows the base
abbrev pub observed : KeptOffers → Observed
observed o =
    record {
      plan = o.plan;
      class = o.class;
      known = λ c. slice_index_or o.known c o.base;
      held = λ c. slice_index_or o.held c None;
    }

-- what a class has at first
abbrev pub nothing_held : Planned → ℕ → ℕ → Observed
nothing_held p class base =
    record { plan = p; class = class; known = λ c. base; held = λ c. None }

-- with one more offer held
abbrev pub with_held : Offer → Observed → Observed
with_held offer v = record v { held = put v.held offer.comp.0 (Some offer) }

-- with a used number of a component known, if it is greater than the one before
abbrev pub with_known : ℕ → ℕ → Observed → Observed
with_known c number v = record v { known = put v.known c (max (v.known c) number) }

-- an offer that a class can get: its component is one that the class touches, and can make it
pub record IsExpected (p : Planned) (class : ℕ) (offer : Offer) : Type 0 where
  pub touched : ClassTouches p class offer.comp.0
  pub made : IsSomeAnd (slice_get p.model.components offer.comp.0)
      (λ component. IsOfferOf component offer)

-- an offer that is newer than what a class has: its number is above the known used one, and above
-- that of the offer that is held
pub record IsNew (v : Observed) (offer : Offer) : Type 0 where
  pub unused : v.known offer.comp.0 < offer.number
  pub later : IfSome (v.held offer.comp.0) (λ held. held.number < offer.number)

-- what a class answers to an offer, the first that applies: it is a stranger's; it is old; it is
-- held
abbrev pub IsReceipt : Observed → Offer → Receipt → Type 0
IsReceipt v offer Stranger = ¬ IsExpected v.plan v.class offer
IsReceipt v offer Old = IsExpected v.plan v.class offer × (¬ IsNew v offer)
IsReceipt v offer Held = IsExpected v.plan v.class offer × IsNew v offer

-- what offers leave: one that is held joins those that are, and all else stays as it was
abbrev pub IsLeftBy : Offer → Receipt → KeptOffers → KeptOffers → Type 0
IsLeftBy offer Stranger o later = later ≡ o
IsLeftBy offer Old o later = later ≡ o
IsLeftBy offer Held o later = observed later ≡ with_held offer (observed o)

-- each offer that is held is one that the class can get, of its own component
abbrev pub AreOwn : Observed → Type 0
AreOwn v = (c : ℕ) (offer : Offer) → v.held c ≡ Some offer
    → (offer.comp.0 ≡ c) × IsExpected v.plan v.class offer

-- a used number and perhaps an offer are kept of each component of the plan's model
pub record AreKept (o : KeptOffers) : Type 0 where
  pub each_known : length o.known ≡ length o.plan.model.components
  pub each_held : length o.held ≡ length o.plan.model.components
  pub own : AreOwn (observed o)
