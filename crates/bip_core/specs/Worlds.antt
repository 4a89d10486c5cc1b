-- The world: the nodes of a plan, the messages in flight between them, a bank, and the grants.
use Rattle.std.specs.Prelude.{◌≡◌, ℕ, ◌<◌, ◌≤◌, List, Option, Some, length, map, slice_get, All}
use Rattle.std.specs.Option.{option_map}
use Rattle.bip_model.specs.Numbering.{put}
use Rattle.bip_model.specs.declared.grants.Grant.{Grant}
use Rattle.bip_model.specs.declared.messages.Offer.{Offer}
use Rattle.bip_model.specs.declared.numbering.ClassId.{ClassId}
use Rattle.bip_model.specs.declared.numbering.InterId.{InterId}
use Rattle.bip_model.specs.declared.parts.System.{System}
use Rattle.bip_model.specs.declared.wants.Want.{Want}
use Rattle.bip_partition.specs.Plans.{IsListTouching, Planned}
use Rattle.bip_component.specs.Components.{Node}
use Rattle.bip_ip.specs.Nodes.{ClassNode, IsOwn, KeptNode, node_of}
use Rattle.bip_ip.specs.declared.nodes.OpenRecord.{OpenRecord}
use Rattle.bip_observe.specs.Offers.{AreOwn}
use Rattle.bip_observe.specs.Verdicts.{IsLackingAbove}
use Rattle.bip_bank.specs.Banks.{BankContent, KeptBank, content_of}
use Rattle.bip_core.specs.declared.messages.Message.{Message}
use Rattle.bip_core.specs.declared.messages.Message.TheVariants.{OfferTo}
use Rattle.bip_core.specs.Letters.{CanBeHandedOn, CanBeTold, IsNumberedRequest}

-- the world: the node of each component and of each class, the messages in flight, the oldest
-- first, what the bank has, and the grants in order
pub record WorldContent : Type 0 where
  pub plan : Planned
  pub components : ℕ → Option Node
  pub classes : ℕ → Option ClassNode
  pub mail : List Message
  pub trace : List Grant
  pub bank : BankContent

-- what is kept of it, node by node, and for how many grants, in all, the world itself has room
pub record KeptWorld : Type 0 where
  pub plan : Planned
  pub components : List Node
  pub classes : List KeptNode
  pub mail : List Message
  pub trace : List Grant
  pub bank : KeptBank
  pub room : ℕ

-- the world by what is kept
abbrev pub world_of : KeptWorld → WorldContent
world_of w =
    record {
      plan = w.plan;
      components = λ c. slice_get w.components c;
      classes = λ k. option_map node_of (slice_get w.classes k);
      mail = w.mail;
      trace = w.trace;
      bank = content_of w.bank;
    }

-- with another node of a component, and of a class
abbrev pub with_component_node : ℕ → Node → WorldContent → WorldContent
with_component_node c node w = record w { components = put w.components c (Some node) }

abbrev pub with_class_node : ℕ → ClassNode → WorldContent → WorldContent
with_class_node k node w = record w { classes = put w.classes k (Some node) }

-- the interaction above another for whose sake that one isn't ready in its class, if it is for the
-- sake of one: by the offers that the class holds
abbrev pub IsLackingIn : WorldContent → ℕ → ℕ → Option InterId → Type 0
IsLackingIn w k a b =
    (node : ClassNode) → w.classes k ≡ Some node → IsOwn node a → IsLackingAbove node.offers a b

-- no class of this number has the interaction
abbrev pub IsNoneOf : WorldContent → ℕ → ℕ → Type 0
IsNoneOf w k a = (node : ClassNode) → w.classes k ≡ Some node → ¬ IsOwn node a

-- the messages that offer to each class that touches the offer's component, by class
pub record AreOffersOf (p : Planned) (offer : Offer) (messages : List Message) : Type 0 where
  pub classes : List ClassId
  pub touching : IsListTouching p offer.comp.0 classes
  pub each : messages ≡ map (λ k. OfferTo k offer) classes

-- a grant names an interaction and components of the model
pub record IsKnownGrant (m : System) (g : Grant) : Type 0 where
  pub inter : g.inter.0 < length m.interactions
  pub wants : All (λ (w : Want). w.comp.0 < length m.components) g.wants

-- what the node of a class has, and may send: the offers that it holds are of their components,
-- which can make them; what its records tell can be told; and request numbers begin at 1
pub record KeepsWhatFits (p : Planned) (v : ClassNode) : Type 0 where
  pub held : AreOwn v.offers
  pub told : (a : ℕ) (e : OpenRecord) → v.pending a ≡ Some e → All (CanBeTold p) e.notifies
  pub next : 1 ≤ v.next

-- what is kept of any world: a node of each component and each class of the plan, and its bank;
-- what is in flight is accepted, requests that are open fit the plan, and grants are of its model
pub record IsKeptWorld (w : KeptWorld) : Type 0 where
  pub each_component : length w.components ≡ length w.plan.model.components
  pub each_class : length w.classes ≡ length w.plan.classes.members
  pub components : (c : ℕ) (node : Node) → slice_get w.components c ≡ Some node
      → (node.plan ≡ w.plan) × (node.comp ≡ c)
  pub classes : (k : ℕ) (node : KeptNode) → slice_get w.classes k ≡ Some node
      → (node.offers.plan ≡ w.plan) × (node.offers.class ≡ k)
  pub fits : (k : ℕ) (node : KeptNode) → slice_get w.classes k ≡ Some node
      → KeepsWhatFits w.plan (node_of node)
  pub bank : (content_of w.bank).plan ≡ w.plan
  pub mail : All (CanBeHandedOn w.plan) w.mail
  pub waiting : (a : ℕ) → All (IsNumberedRequest w.plan) ((content_of w.bank).waiting a)
  pub grants : All (IsKnownGrant w.plan.model) w.trace
