-- The actor of a component: what it offers to whom.
use Rattle.std.specs.Prelude.{◌≡◌, ℕ, ◌+◌, Option, None, Some, slice_get, ⊤}
use Rattle.bip_component.specs.Components.{IsFirst, IsNodeAfter, IsNotified, IsOffered}
use Rattle.bip_component.specs.declared.components.Notified.{Notified}
use Rattle.bip_component.specs.declared.components.Notified.TheVariants.{Moved, Spent, Stale}
use Rattle.bip_host.specs.Counts.{nothing_counted, with_posted}
use Rattle.bip_host.specs.declared.actors.Step.{Step}
use Rattle.bip_host.specs.declared.actors.Step.TheVariants.{Act, Over}
use Rattle.bip_host.specs.declared.actors.Turn.TheVariants.{Done, Nothing}
use Rattle.bip_host.specs.declared.components.ComponentActor.{ComponentActor}
use Rattle.bip_host.specs.declared.components.Offering.{Offering}
use Rattle.bip_host.specs.declared.counts.Posted.{Posted}
use Rattle.bip_model.specs.declared.messages.Notify.{Notify}
use Rattle.bip_model.specs.declared.messages.Offer.{Offer}
use Rattle.bip_model.specs.declared.numbering.ClassId.{ClassId}
use Rattle.bip_partition.specs.Plans.{IsListTouching, Planned}

-- an offer is put for a class, where there are both; else the turn is over
abbrev pub offering_to : Option Offer → Option ClassId → Step Offering
offering_to (Some offer) (Some class) = Act (record { class = class; offer = offer })
offering_to (Some offer) None = Over Done
offering_to None class = Over Done

-- what an actor does next: it puts its offer for the next class of those that touch it
abbrev pub offering_next : ComponentActor → Step Offering
offering_next a = offering_to a.offer (slice_get a.classes.now a.offered)

-- an actor of a component at first: its node is at the start, it has the classes that touch the
-- component, in order of number, and offers nothing yet
pub record IsFirstComponentActor (p : Planned) (c : ℕ) (a : ComponentActor) : Type 0 where
  pub node : IsFirst p c 0 a.node
  pub classes : IsListTouching p c a.classes.now
  pub offer : a.offer ≡ None
  pub counts : a.counts ≡ nothing_counted

-- what the start makes of it: it puts what its node offers, from the first class on
abbrev pub ComponentStarts : ComponentActor → Step Offering → ComponentActor → Type 0
ComponentStarts a step later =
    IsOffered a.node later.offer × (later ≡ record a { offer = later.offer; offered = 0 })
    × (step ≡ offering_next later)

-- what comes of a notification by what its node answers: by a move the next offer is put, from the
-- first class on; else nothing is
abbrev pub IsLed : Notified → ComponentActor → Step Offering → ComponentActor → Type 0
IsLed (Moved offer) a step later =
    (later ≡ record a { node = later.node; offer = Some offer; offered = 0 })
    × (step ≡ offering_next later)
IsLed Spent a step later = (later ≡ record a { node = later.node }) × (step ≡ Over Done)
IsLed Stale a step later = (later ≡ record a { node = later.node }) × (step ≡ Over Done)

-- what a turn's first step makes of it
abbrev pub ComponentHears : ComponentActor → Option Notify → Step Offering → ComponentActor → Type 0
ComponentHears a None step later = (later ≡ a) × (step ≡ Over Nothing)
ComponentHears a (Some notify) step later =
    (did : Notified) × IsNotified a.node notify did × IsNodeAfter a.node notify did later.node
    × IsLed did a step later

-- what a later step makes of it: it goes on to the next class, and counts what is lost
abbrev pub ComponentGoesOn : ComponentActor → Posted → Step Offering → ComponentActor → Type 0
ComponentGoesOn a posted step later =
    (later ≡ record a { offered = a.offered + 1; counts = with_posted posted a.counts })
    × (step ≡ offering_next later)

-- which answers an act can have: each
abbrev pub ComponentFits : Offering → Posted → Type 0
ComponentFits offering posted = ⊤
