-- What the definitions mean, in the subject's own words: laws that a reviewer reads.
use Rattle.std.specs.Prelude.{◌≡◌, true}
use Rattle.bip_model.specs.declared.messages.Notify.{Notify}
use Rattle.bip_component.specs.Components.{IsNodeAfter, IsNotified, CanMoveBy, Node}
use Rattle.bip_component.specs.declared.components.Notified.{Notified}
use Rattle.bip_component.specs.declared.components.Notified.TheVariants.{Stale}

-- a notification that is repeated is stale
abbrev pub MovesOnce : Type 0
MovesOnce =
    (n later : Node) (notify : Notify) (did : Notified) → CanMoveBy n notify
    → IsNotified n notify did → IsNodeAfter n notify did later → IsNotified later notify Stale

-- a spent node takes no notification
abbrev pub SpentStays : Type 0
SpentStays = (n : Node) (notify : Notify) → n.spent ≡ true → IsNotified n notify Stale
