-- The world as one flat record of functions of numbers: what the simulation speaks of.
use Rattle.std.specs.Prelude.{◌≡◌, ℕ, ◌+◌, Bool, false, IsSomeAnd, IsTrue, List, Option, None}
use Rattle.std.specs.Prelude.{length, slice_get}
use Rattle.std.specs.Option.{option_map, option_map_or}
use Rattle.bip_model.specs.Components.{offers_at}
use Rattle.bip_model.specs.States.{State, with_values}
use Rattle.bip_model.specs.Steps.{led}
use Rattle.bip_model.specs.declared.grants.Grant.{Grant}
use Rattle.bip_model.specs.declared.messages.Notify.{Notify}
use Rattle.bip_model.specs.declared.messages.Offer.{Offer}
use Rattle.bip_model.specs.declared.messages.Request.{Request}
use Rattle.bip_model.specs.declared.parts.System.{System}
use Rattle.bip_model.specs.declared.states.LocalState.{LocalState}
use Rattle.bip_component.specs.Components.{Node}
use Rattle.bip_ip.specs.Nodes.{ClassNode}
use Rattle.bip_ip.specs.declared.nodes.OpenRecord.{OpenRecord}
use Rattle.bip_core.specs.Worlds.{WorldContent}
use Rattle.bip_core.specs.declared.messages.Message.{Message}

-- the world by component, by class and by interaction
pub record View : Type 0 where
  pub trace : List Grant
  -- by component
  pub state : State
  pub number : ℕ → ℕ
  pub spent : ℕ → Bool
  -- by class, then by component or interaction
  pub known : ℕ → ℕ → ℕ
  pub held : ℕ → ℕ → Option Offer
  pub pending : ℕ → ℕ → Option OpenRecord
  pub next : ℕ → ℕ
  -- messages in flight, the oldest first
  pub mail : List Message
  -- the bank: used by component, open requests by interaction
  pub used : ℕ → ℕ
  pub grants : List Grant
  pub waiting : ℕ → List Request

-- what is read of a component that there isn't, and of such a class
abbrev pub number_at : ℕ → Option Node → ℕ
number_at base node = option_map_or (λ (n : Node). n.number) node (base + 1)

abbrev pub local_at : Option Node → Option LocalState
local_at node = option_map (λ (n : Node). n.local) node

abbrev pub spent_of : Option Node → Bool
spent_of node = option_map_or (λ (n : Node). n.spent) node false

abbrev pub known_of : ℕ → Option ClassNode → ℕ → ℕ
known_of base node = option_map_or (λ (v : ClassNode). v.offers.known) node (λ c. base)

abbrev pub held_of : Option ClassNode → ℕ → Option Offer
held_of node = option_map_or (λ (v : ClassNode). v.offers.held) node (λ c. None)

abbrev pub pending_of : Option ClassNode → ℕ → Option OpenRecord
pending_of node = option_map_or (λ (v : ClassNode). v.pending) node (λ a. None)

abbrev pub next_of : Option ClassNode → ℕ
next_of node = option_map_or (λ (v : ClassNode). v.next) node 0

-- the view of a world, above a base
abbrev pub view_of : ℕ → WorldContent → View
view_of base w =
    record {
      trace = w.trace;
      state = λ c. local_at (w.components c);
      number = λ c. number_at base (w.components c);
      spent = λ c. spent_of (w.components c);
      known = λ k. known_of base (w.classes k);
      held = λ k. held_of (w.classes k);
      pending = λ k. pending_of (w.classes k);
      next = λ k. next_of (w.classes k);
      mail = w.mail;
      used = w.bank.used;
      grants = w.bank.grants;
      waiting = w.bank.waiting;
    }

-- where a notification leads its component from a local state
abbrev pub lead : System → Notify → Option LocalState → Option LocalState
lead m n place =
    option_map (λ (local : LocalState). led m n.comp.0 n.port (with_values n.values local)) place

-- a notification can be taken in a local state of its component: its port is on offer there, and it
-- has a value for each variable
abbrev pub CanBeTaken : System → Notify → Option LocalState → Type 0
CanBeTaken m n place =
    IsSomeAnd (slice_get m.components n.comp.0) (λ component. IsSomeAnd place (λ local.
    IsTrue (offers_at component local n.port)
    × (length n.values ≡ length component.variables)))

-- it can be taken in one local state, and leads to another
pub record TakesTo (m : System) (n : Notify) (here there : Option LocalState) : Type 0 where
  pub taken : CanBeTaken m n here
  pub leads : lead m n here ≡ there
