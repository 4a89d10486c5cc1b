-- Component nodes: what is kept of one, and what a notification makes of it.
use Rattle.std.specs.Prelude.{◌≡◌, ℕ, ◌+◌, ◌<◌, ◌≤◌, Bool, false, true, Option, None, Some, length}
use Rattle.std.specs.Prelude.{slice_get, IsSomeAnd, IsTrue}
use Rattle.bip_model.specs.Components.{offers_at}
use Rattle.bip_model.specs.Messages.{IsOfferIn, Shows}
use Rattle.bip_model.specs.Numbering.{last_number}
use Rattle.bip_model.specs.States.{IsLocalStateOf, with_values}
use Rattle.bip_model.specs.Steps.{led, start_of}
use Rattle.bip_model.specs.declared.messages.Notify.{Notify}
use Rattle.bip_model.specs.declared.messages.Offer.{Offer}
use Rattle.bip_model.specs.declared.states.LocalState.{LocalState}
use Rattle.bip_partition.specs.Plans.{Planned}
use Rattle.bip_component.specs.declared.components.Notified.{Notified}
use Rattle.bip_component.specs.declared.components.Notified.TheVariants.{Moved, Spent, Stale}

-- the node of a component: the number of its next move, its local state, and whether it is spent:
-- it made the last move that a number is there for
pub record Node : Type 0 where
  pub plan : Planned
  pub comp : ℕ
  pub number : ℕ
  pub local : LocalState
  pub spent : Bool

-- the node of a component of the plan's model, in a local state of that one; a spent one has the
-- last number
pub record IsNode (n : Node) : Type 0 where
  pub local : IsSomeAnd (slice_get n.plan.model.components n.comp)
      (λ component. IsLocalStateOf component n.local)
  pub low : 1 ≤ n.number
  pub high : n.number ≤ last_number
  pub spent : n.spent ≡ true → n.number ≡ last_number

-- the node of a component at the start: it is in its start, and its next move is the first one
-- above the base
pub record IsFirst (p : Planned) (c base : ℕ) (n : Node) : Type 0 where
  pub plan : n.plan ≡ p
  pub comp : n.comp ≡ c
  pub number : n.number ≡ base + 1
  pub local : start_of p.model c ≡ Some n.local
  pub unspent : n.spent ≡ false

-- a node moves by a notification: it isn't spent, and told its own number, a port that its
-- component offers where it is, and as many values as that one has
pub record CanMoveBy (n : Node) (notify : Notify) : Type 0 where
  pub unspent : n.spent ≡ false
  pub comp : notify.comp.0 ≡ n.comp
  pub number : notify.number ≡ n.number
  pub can : IsSomeAnd (slice_get n.plan.model.components n.comp) (λ component.
      IsTrue (offers_at component n.local notify.port)
      × (length notify.values ≡ length component.variables))

-- what a node offers: its next move, as its component is; a spent one offers nothing
abbrev pub IsOffered : Node → Option Offer → Type 0
IsOffered n None = n.spent ≡ true
IsOffered n (Some offer) =
    (n.spent ≡ false) × IsOfferIn n.plan.model n.comp n.number n.local offer

-- where a notification leads a node's component: by its port, from the values that it brings
abbrev pub led_by : Node → Notify → LocalState
led_by n notify = led n.plan.model n.comp notify.port (with_values notify.values n.local)

-- what a node answers to a notification: it moves by it, and offers its next move; it makes its
-- last move by it; or it doesn't move by it
abbrev pub IsNotified : Node → Notify → Notified → Type 0
IsNotified n notify (Moved offer) =
    CanMoveBy n notify × (n.number < last_number)
    × IsOfferIn n.plan.model n.comp (n.number + 1) (led_by n notify) offer
IsNotified n notify Spent = CanMoveBy n notify × (n.number ≡ last_number)
IsNotified n notify Stale = ¬ CanMoveBy n notify

-- what an answer leaves: a move leads to the local state and to the next number; the last one keeps
-- its number; otherwise all stays as it was
abbrev pub IsNodeAfter : Node → Notify → Notified → Node → Type 0
IsNodeAfter n notify (Moved offer) later =
    later ≡ record n { number = n.number + 1; local = led_by n notify }
IsNodeAfter n notify Spent later = later ≡ record n { local = led_by n notify; spent = true }
IsNodeAfter n notify Stale later = later ≡ n

-- What contracts of private functions say.

-- a component's offer in its start
pub record IsFirstOffer (p : Planned) (offer : Offer) : Type 0 where
  pub start : start_of p.model offer.comp.0
      ≡ Some (record { location = record { 0 = 0 }; values = offer.values })
  pub local : IsSomeAnd (slice_get p.model.components offer.comp.0) (λ component.
      IsLocalStateOf component (record { location = record { 0 = 0 }; values = offer.values }))
  pub shows : Shows p.model offer (record { location = record { 0 = 0 }; values = offer.values })
