-- Messages: what components and the nodes of a distributed execution tell one another.
use Rattle.std.specs.Prelude.{◌≡◌, ◌≤◌, ◌<◌, ℕ, List, Some, length, slice_get, true, IsSomeAnd}
use Rattle.bip_model.specs.Components.{AreOffered}
use Rattle.bip_model.specs.Sets.{has}
use Rattle.bip_model.specs.States.{State}
use Rattle.bip_model.specs.declared.messages.Notify.{Notify}
use Rattle.bip_model.specs.declared.messages.Offer.{Offer}
use Rattle.bip_model.specs.declared.parts.Component.{Component}
use Rattle.bip_model.specs.declared.parts.System.{System}
use Rattle.bip_model.specs.declared.states.LocalState.{LocalState}

-- lists that can be the notifications of one grant
pub record IsNotifies (notifies : List Notify) : Type 0 where
  pub some : 1 ≤ length notifies
  pub few : length notifies ≤ 8

-- an offer that a component can make: a value for each of its variables, and on for none but its
-- ports
pub record IsOfferOf (component : Component) (offer : Offer) : Type 0 where
  pub values : length offer.values ≡ length component.variables
  pub ports : (p : ℕ) → has offer.ports p ≡ true → p < length component.ports

-- an offer shows a local state of its component: it is on for just the ports that the component
-- offers there, and has its values there
pub record Shows (m : System) (offer : Offer) (local : LocalState) : Type 0 where
  pub component : Component
  pub declared : slice_get m.components offer.comp.0 ≡ Some component
  pub ports : AreOffered component local offer.ports
  pub values : offer.values ≡ local.values

-- an offer shows a state: it shows the local state of its component there
abbrev pub ShowsState : System → State → Offer → Type 0
ShowsState m s offer = IsSomeAnd (s offer.comp.0) (Shows m offer)

-- what a component offers in a local state, as its move of a number
pub record IsOfferIn (m : System) (c n : ℕ) (local : LocalState) (offer : Offer) : Type 0 where
  pub comp : offer.comp.0 ≡ c
  pub number : offer.number ≡ n
  pub shows : Shows m offer local
