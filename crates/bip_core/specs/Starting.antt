-- How a world begins: what each component offers first is in flight.
use Rattle.std.specs.Prelude.{◌≡◌, ℕ, zero, suc, ◌<◌, ◌≤◌, List, [], ◌++◌, Option, None, Some}
use Rattle.std.specs.Prelude.{length, slice_get}
use Rattle.bip_model.specs.declared.messages.Offer.{Offer}
use Rattle.bip_partition.specs.Plans.{Planned}
use Rattle.bip_component.specs.Components.{IsFirst, IsOffered, Node}
use Rattle.bip_ip.specs.Nodes.{ClassNode, KeptNode, first_node, node_of}
use Rattle.bip_bank.specs.Banks.{BankContent, asked_nothing}
use Rattle.bip_core.specs.Worlds.{AreOffersOf, WorldContent}
use Rattle.bip_core.specs.declared.messages.Message.{Message}

-- a bank of a plan, above a base, without grants or open requests
pub record IsUnasked (p : Planned) (n : ℕ) (b : BankContent) : Type 0 where
  pub plan : b.plan ≡ p
  pub base : b.base ≡ n
  pub grants : b.grants ≡ []
  pub waiting : b.waiting ≡ (λ a. [])

-- the number of the first request of each class
abbrev pub first_request : ℕ
first_request = 1

-- the node of a component at the start, where there is such a component
abbrev pub IsFirstComponent : Planned → ℕ → ℕ → Option Node → Type 0
IsFirstComponent p base c None = length p.model.components ≤ c
IsFirstComponent p base c (Some node) =
    (c < length p.model.components) × IsFirst p c base node

-- and that of a class
abbrev pub IsFirstClass : Planned → ℕ → ℕ → Option ClassNode → Type 0
IsFirstClass p base k None = length p.classes.members ≤ k
IsFirstClass p base k (Some node) =
    (k < length p.classes.members) × (node ≡ first_node p k base first_request)

-- what the components below a number offer, by component, each to the classes that touch it
abbrev pub AreOffersBelow : ℕ → Planned → (ℕ → Option Node) → List Message → Type 0
AreOffersBelow zero p nodes messages = messages ≡ []
AreOffersBelow (suc c) p nodes messages =
    (node : Node) × (offer : Offer) × (before : List Message) × (last : List Message)
    × (nodes c ≡ Some node) × IsOffered node (Some offer) × AreOffersOf p offer last
    × AreOffersBelow c p nodes before × (messages ≡ before ++ last)

-- a world at the start: all nodes are as they begin, what each component offers is in flight, and
-- nothing else; nothing was granted, and the bank was asked nothing, whatever its stations lack
pub record IsNewWorld (p : Planned) (base : ℕ) (w : WorldContent) : Type 0 where
  pub plan : w.plan ≡ p
  pub components : (c : ℕ) → IsFirstComponent p base c (w.components c)
  pub classes : (k : ℕ) → IsFirstClass p base k (w.classes k)
  pub mail : AreOffersBelow (length p.model.components) p w.components w.mail
  pub trace : w.trace ≡ []
  pub bank : w.bank ≡ asked_nothing p base w.bank.sharing

-- What contracts of private functions say.

-- the nodes of all components of a plan at the start
pub record AreFirstComponents (p : Planned) (base : ℕ) (nodes : List Node) : Type 0 where
  pub each : length nodes ≡ length p.model.components
  pub first : (c : ℕ) (node : Node) → slice_get nodes c ≡ Some node → IsFirst p c base node

-- and of all its classes
pub record AreFirstClasses (p : Planned) (base : ℕ) (nodes : List KeptNode) : Type 0 where
  pub each : length nodes ≡ length p.classes.members
  pub first : (k : ℕ) (node : KeptNode) → slice_get nodes k ≡ Some node
      → node_of node ≡ first_node p k base first_request
