-- What no event changes: the plan, the bank's base, and which node stands where. So an agreeing
-- world agrees above the same base, with nodes of the same plan, whatever it did.
use Rattle.std.proofs.Common.{◌≡◌, ℕ, List, Some, refl, sym, ap, ◌∙◌, subst, inl, inr}
use Rattle.bip_model.specs.declared.grants.Grant.{Grant}
use Rattle.bip_bank.specs.Decisions.Decision.TheVariants as decision
use Rattle.bip_component.specs.Components.{Node}
use Rattle.bip_ip.specs.Nodes.{ClassNode, after_offer, after_try}
use Rattle.bip_bank.specs.Banks.{BankContent, IsActed, with_request}
use Rattle.bip_bank.specs.declared.banks.Acted.{Acted}
use Rattle.bip_bank.specs.declared.banks.Acted.TheVariants as acted
use Rattle.bip_core.specs.Events.{IsMailHandedOn, IsDone, IsHandedOn, IsStep, class_named}
use Rattle.bip_core.specs.Laws.{KeepsThePlan}
use Rattle.bip_core.specs.Worlds.{WorldContent, with_class_node, with_component_node}
use Rattle.bip_core.specs.declared.events.Did.{Did}
use Rattle.bip_core.specs.declared.events.Event.{Event}
use Rattle.bip_core.specs.declared.events.Event.TheVariants.{Bank, Mail, Try}
use Rattle.bip_core.specs.declared.events.What.{What}
use Rattle.bip_core.specs.declared.events.What.TheVariants.{Acts, Hears, Learns, Moves, Nothing}
use Rattle.bip_core.specs.declared.events.What.TheVariants.{Submits, Tries}
use Rattle.bip_core.specs.declared.messages.Message.{Message}
use Rattle.bip_core.specs.declared.messages.Message.TheVariants.{NotifyComponent, OfferTo}
use Rattle.bip_core.specs.declared.messages.Message.TheVariants.{ReplyToClass, RequestToBank}
use Rattle.bip_core.proofs.PutLemmas.{put_cases}
use Rattle.bip_core.proofs.WorldLemmas.{heard_same, notified_same, replied_same, tried_same}

module _ {w : WorldContent} where
  -- all of it stays where nothing changes
  stays : KeepsThePlan w w
  stays = record { plan = refl; base = refl; nodes = λ of_plan. of_plan }

  stays_by : {v x : WorldContent} → x ≡ v → KeepsThePlan w v → KeepsThePlan w x
  stays_by same kept = subst (KeepsThePlan w) (sym same) kept

  -- another node of a class, of the same plan and class
  class_stays : (k : ℕ) {node : ClassNode} (later : ClassNode) → w.classes k ≡ Some node
      → (later.offers.plan ≡ node.offers.plan) × (later.offers.class ≡ node.offers.class)
      → KeepsThePlan w (with_class_node k later w)
  class_stays k {node} later at same = record {
    plan = refl;
    base = refl;
    nodes = λ of_plan. record {
      components = of_plan.components;
      bank = of_plan.bank;
      classes = λ j found is. elim (put_cases w.classes k later j found is) [
        | inl new ↦
            let before = of_plan.classes k node at in
            subst (λ (x : ClassNode). (x.offers.plan ≡ w.plan) × (x.offers.class ≡ j)) new.1
            (same.0 ∙ before.0, same.1 ∙ (before.1 ∙ sym new.0))
        | inr old ↦ of_plan.classes j found old
      ];
    };
  }

  -- another node of a component, of the same plan and component
  component_stays : (c : ℕ) {node : Node} (later : Node) → w.components c ≡ Some node
      → (later.plan ≡ node.plan) × (later.comp ≡ node.comp)
      → KeepsThePlan w (with_component_node c later w)
  component_stays c {node} later at same = record {
    plan = refl;
    base = refl;
    nodes = λ of_plan. record {
      classes = of_plan.classes;
      bank = of_plan.bank;
      components = λ j found is. elim (put_cases w.components c later j found is) [
        | inl new ↦
            let before = of_plan.components c node at in
            subst (λ (x : Node). (x.plan ≡ w.plan) × (x.comp ≡ j)) new.1
            (same.0 ∙ before.0, same.1 ∙ (before.1 ∙ sym new.0))
        | inr old ↦ of_plan.components j found old
      ];
    };
  }

  -- another bank, of the same plan and base
  bank_stays : (later : BankContent) → (later.plan ≡ w.bank.plan) × (later.base ≡ w.bank.base)
      → KeepsThePlan w (record w { bank = later })
  bank_stays later same = record {
    plan = refl;
    base = same.1;
    nodes = λ of_plan. record {
      classes = of_plan.classes;
      components = of_plan.components;
      bank = same.0 ∙ of_plan.bank;
    };
  }

  -- messages and trace do not count
  rest_stays : {v : WorldContent} {mail : List Message} {trace : List Grant} → KeepsThePlan w v
      → KeepsThePlan w (record v { mail = mail; trace = trace })
  rest_stays kept = record {
    plan = kept.plan;
    base = kept.base;
    nodes = λ of_plan.
        let later = kept.nodes of_plan in
        record { components = later.components; classes = later.classes; bank = later.bank };
  }

  -- a message is handed on
  handed_stays : (m : Message) (what : What) (v : WorldContent) → IsHandedOn w m what v
      → KeepsThePlan w v
  handed_stays (OfferTo k o) (Hears receipt) v (node, at, hears, is) =
      let later = after_offer o receipt node in
      stays_by is (class_stays k.0 later at (heard_same o receipt node later refl))
  handed_stays (RequestToBank q) Submits v is =
      stays_by is (bank_stays (with_request q w.bank) (refl, refl))
  handed_stays (ReplyToClass r) (Learns did) v (node, later, at, answers, leaves, is) =
      let same = replied_same r did node later answers leaves in
      stays_by is (class_stays (class_named r) later at same)
  handed_stays (NotifyComponent n) (Moves did) v (node, later, at, answers, leaves, is) =
      let same = notified_same node later n did leaves in
      stays_by is (component_stays n.comp.0 later at same)
  handed_stays m what v none = absurd none

bank_same : (b later : BankContent) (did : Acted) → IsActed did b later
    → (later.plan ≡ b.plan) × (later.base ≡ b.base)
bank_same b later (acted.Answered q (decision.Granted serial)) is =
    (ap (λ (x : BankContent). x.plan) is.after, ap (λ (x : BankContent). x.base) is.after)
bank_same b later (acted.Answered q (decision.Refused c used)) is =
    (ap (λ (x : BankContent). x.plan) is.after, ap (λ (x : BankContent). x.base) is.after)
bank_same b later did is =
    (ap (λ (x : BankContent). x.plan) is, ap (λ (x : BankContent). x.base) is)

module _ (w : WorldContent) where
  -- a message is delivered
  delivered_stays : (place : ℕ) (what : What) (v : WorldContent) → IsMailHandedOn place w what v
      → KeepsThePlan w v
  delivered_stays place what v d =
      let kept = handed_stays d.message what v d.on in
      record {
        plan = kept.plan;
        base = kept.base;
        nodes = λ of_plan. kept.nodes (record {
          components = of_plan.components;
          classes = of_plan.classes;
          bank = of_plan.bank;
        });
      }

  -- any event does what it does
  done_stays : (event : Event) (what : What) (v : WorldContent) → IsDone w event what v
      → KeepsThePlan w v
  done_stays (Mail place) Nothing v (past, is) = stays_by is stays
  done_stays (Mail place) what v delivered = delivered_stays place what v delivered
  done_stays (Try k a) (Tries did) v (node, at, tries, is) =
      let later = after_try a.0 did node in
      stays_by is (class_stays k.0 later at (tried_same a.0 did node later refl))
  done_stays (Try k a) Nothing v (absent, is) = stays_by is stays
  done_stays (Bank step) (Acts did) v (later, does, acts, is) =
      stays_by is (bank_stays later (bank_same w.bank later did acts))
  done_stays event what v none = absurd none

  -- one event changes none of it
  pub step_stays : (v : WorldContent) (event : Event) (did : Did) → IsStep w event did v
      → KeepsThePlan w v
  step_stays v event did step =
      let done = done_stays event did.what step.acted.middle step.acted.done in
      stays_by step.others (rest_stays (stays_by step.acted.after (rest_stays done)))
