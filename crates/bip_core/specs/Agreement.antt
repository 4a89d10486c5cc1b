-- That a world agrees with its trace: what holds of it whatever events it did, with messages
-- delayed, reordered or lost. It is kept in three passes, each of which stands on those before it:
-- books (used numbers, records and requests), numbers (the components' own) and local states.
use Rattle.std.specs.Prelude.{◌≡◌, ℕ, Some}
use Rattle.bip_model.specs.States.{State}
use Rattle.bip_partition.specs.Laws.{IsPlanned}
use Rattle.bip_partition.specs.Plans.{Planned}
use Rattle.bip_replay.specs.Runs.{state_after, used_after}
use Rattle.bip_component.specs.Components.{Node}
use Rattle.bip_ip.specs.Nodes.{ClassNode}
use Rattle.bip_core.specs.Books.{BooksAgree}
use Rattle.bip_core.specs.Locals.{LocalsAgree}
use Rattle.bip_core.specs.Numbers.{NumbersAgree}
use Rattle.bip_core.specs.Views.{View, view_of}
use Rattle.bip_core.specs.Worlds.{WorldContent}

-- a world agrees with its trace, which has these used numbers above the base, and leads to this
-- state
pub record AgreeAt (p : Planned) (base : ℕ) (u : ℕ → ℕ) (s : State) (w : View) : Type 0 where
  pub books : BooksAgree p base u w
  pub numbers : NumbersAgree p.model u w
  pub locals : LocalsAgree p.model base u s w

abbrev pub Agree : Planned → ℕ → View → Type 0
Agree p base w = AgreeAt p base (used_after base w.trace) (state_after p.model w.trace) w

-- each node is that of its place in the plan, and the bank is one of the plan
pub record AreOfPlan (w : WorldContent) : Type 0 where
  pub components : (c : ℕ) (node : Node) → w.components c ≡ Some node
      → (node.plan ≡ w.plan) × (node.comp ≡ c)
  pub classes : (k : ℕ) (node : ClassNode) → w.classes k ≡ Some node
      → (node.offers.plan ≡ w.plan) × (node.offers.class ≡ k)
  pub bank : w.bank.plan ≡ w.plan

-- a world agrees with its trace above its bank's base: its plan is a model with a partition, its
-- nodes are those of the plan, and they, the messages in flight and the bank agree with the trace
pub record Agrees (w : WorldContent) : Type 0 where
  pub planned : IsPlanned w.plan
  pub nodes : AreOfPlan w
  pub all : Agree w.plan w.bank.base (view_of w.bank.base w)
