-- A world agrees with its trace from the start, and after each event: so `World` keeps its
-- invariant, and every run of it is one of the model.
use Rattle.std.proofs.Common.{◌≡◌, ℕ, ◌<◌, List, [], ◌∷◌, Option, Some, None, refl, sym, ap, ◌∙◌}
use Rattle.std.proofs.Common.{subst}
use Rattle.std.specs.Prelude.{Err, IfOk, Ok, OnErr, Result}
use Rattle.std.specs.declared.alloc.AllocError.{AllocError}
use Rattle.bip_core.specs.Runs.{AreSteps}
use Rattle.bip_model.specs.Numbering.{last_number}
use Rattle.bip_partition.specs.Laws.{IsPlanned}
use Rattle.bip_partition.specs.Plans.{Planned}
use Rattle.bip_component.specs.Components.{Node}
use Rattle.bip_ip.specs.Nodes.{ClassNode}
use Rattle.bip_bank.specs.Banks.{BankContent}
use Rattle.bip_model.specs.Steps.{start_of}
use Rattle.bip_replay.specs.Runs.{state_after, used_after}
use Rattle.bip_core.specs.Agreement.{Agree, AgreeAt, Agrees}
use Rattle.bip_core.specs.Events.{IsCounted, IsStep}
use Rattle.bip_core.specs.declared.events.What.{What}
use Rattle.bip_core.specs.declared.outcomes.Outcome.{Outcome}
use Rattle.bip_core.specs.Starting.{IsFirstClass, IsFirstComponent, IsNewWorld}
use Rattle.bip_core.specs.Views.{view_of}
use Rattle.bip_core.specs.Worlds.{WorldContent}
use Rattle.bip_core.specs.declared.events.Did.{Did}
use Rattle.bip_core.specs.declared.events.Event.{Event}
use Rattle.bip_core.proofs.BeginLemmas.{begins}
use Rattle.bip_core.proofs.DeliveryLemmas.{asked, granted, moved_last, moved_on, offered, refused}
use Rattle.bip_core.proofs.DeliveryLemmas.{was_wanted}
use Rattle.bip_core.proofs.MailLemmas.{fewer}
use Rattle.bip_core.proofs.ServeLemmas.{refuses, serves}
use Rattle.bip_core.proofs.StepLemmas.{KeepsSteps}
use Rattle.bip_core.proofs.TryLemmas.{asks, grants}
use Rattle.bip_core.proofs.StayLemmas.{step_stays}
use Rattle.bip_core.proofs.EventLemmas.{at_its_trace, step_keeps}

-- the agreement keeps the small steps
agreement_keeps : {p : Planned} (base : ℕ) → IsPlanned p → KeepsSteps p base (AgreeAt p base)
agreement_keeps base planned = record {
  used_is = λ u s w h. h.books.used_is;
  end_is = λ u s w h. h.locals.end_is;
  fewer = λ u s w h mail among less. fewer h among less;
  offered = λ u s w h front back k o whole. offered h front back k o whole;
  asked = λ u s w h front back q whole. asked h front back q whole;
  moved_on = λ u s w h front back n whole unspent own ks o room comp number shows.
      moved_on h front back n whole ks o room comp number shows;
  moved_last = λ u s w h front back n whole unspent own last. moved_last h front back n whole last;
  granted = λ u s w h front back k number a serial whole e at named.
      granted h front back k number a serial whole e at;
  was_wanted = λ u s w h front back k number a c used whole e at named.
      was_wanted h front back k number a c used whole e at;
  refused = λ u s w h front back k number a c used whole e learnt taught.
      refused h front back k number a c used whole e taught.is learnt taught.more taught.taught;
  grants = λ u s w h k o g takes counts by local. grants planned h takes counts by local;
  asks = λ u s w h o q takes counts by so explained is_reserved number.
      asks planned h q takes counts by so explained is_reserved number;
  serves = λ u s w h q later oldest fresh serial. serves planned h oldest fresh serial;
  refuses = λ u s w h q later oldest c used v among used_up is.
      refuses planned h oldest c used v among used_up is;
}

first_component : {p : Planned} (base c : ℕ) (found : Option Node) (node : Node)
    → found ≡ Some node → IsFirstComponent p base c found → (node.plan ≡ p) × (node.comp ≡ c)
first_component {p} base c found node is first =
    let its = (subst (IsFirstComponent p base c) is first).1 in (its.plan, its.comp)

first_class : {p : Planned} (base k : ℕ) (found : Option ClassNode) (node : ClassNode)
    → found ≡ Some node → IsFirstClass p base k found
    → (node.offers.plan ≡ p) × (node.offers.class ≡ k)
first_class {p} base k found node is first =
    let its = (subst (IsFirstClass p base k) is first).1 in
    (ap (λ (v : ClassNode). v.offers.plan) its, ap (λ (v : ClassNode). v.offers.class) its)

-- the same agreement, where plan and base are the same
agree_at : {p q : Planned} {n m : ℕ} (w : WorldContent) → q ≡ p → m ≡ n
    → Agree p n (view_of n w) → Agree q m (view_of m w)
agree_at {p} {n = n} {m = m} w plan base agree =
    subst (λ (x : Planned). Agree x m (view_of m w)) (sym plan)
    (subst (λ (b : ℕ). Agree p b (view_of b w)) (sym base) agree)

-- a new world agrees
pub new_agrees : (p : Planned) (base : ℕ) (w : WorldContent) → IsPlanned p → base < last_number
    → IsNewWorld p base w → Agrees w
new_agrees p base w planned room new = record {
  planned = subst IsPlanned (sym new.plan) planned;
  nodes = record {
    components = λ c node is.
        let its = first_component base c (w.components c) node is (new.components c) in
        (its.0 ∙ sym new.plan, its.1);
    classes = λ k node is.
        let its = first_class base k (w.classes k) node is (new.classes k) in
        (its.0 ∙ sym new.plan, its.1);
    bank = ap (λ (b : BankContent). b.plan) new.bank ∙ sym new.plan;
  };
  all =
      agree_at w new.plan (ap (λ (b : BankContent). b.base) new.bank)
      (at_its_trace (agreement_keeps base planned) (λ c. base) (start_of p.model) (view_of base w)
      (begins p base w room new));
}

-- a world agrees after an event, if it did before
pub step_agrees : (w v : WorldContent) (event : Event) (did : Did) → Agrees w
    → IsStep w event did v → Agrees v
step_agrees w v event did agrees step =
    let same = step_stays w v event did step in
    record {
      planned = subst IsPlanned (sym same.plan) agrees.planned;
      nodes = same.nodes agrees.nodes;
      all =
          agree_at v same.plan same.base
          (step_keeps (agreement_keeps w.bank.base agrees.planned) refl agrees.nodes
          (used_after w.bank.base w.trace) (state_after w.plan.model w.trace) agrees.all event did v
          step);
    }

-- and after each event that a call answers, or that want of memory leaves out
pub counted_agrees : (saw : What → Type 0) {w v : WorldContent} (event : Event)
    (r : Result Outcome AllocError) → Agrees w → IfOk r (λ outcome. IsCounted saw w event outcome v)
    → OnErr r (v ≡ w) → Agrees v
counted_agrees saw {w} {v} event (Ok outcome) agrees counted same =
    let did : Did = record { what = counted.what; lost = outcome.lost } in
    step_agrees w v event did agrees counted.step
counted_agrees saw event (Err e) agrees counted same = subst Agrees (sym same) agrees

-- and after any events
pub steps_agree : (events : List Event) (dids : List (Option Did)) (w v : WorldContent) → Agrees w
    → AreSteps events dids w v → Agrees v
steps_agree [] [] w v agrees is = subst Agrees (sym is) agrees
steps_agree (event ∷ events) (None ∷ dids) w v agrees (skipped, rest) =
    steps_agree events dids w v agrees rest
steps_agree (event ∷ events) (Some did ∷ dids) w v agrees (middle, step, rest) =
    steps_agree events dids middle v (step_agrees w middle event did agrees step) rest
steps_agree events dids w v agrees none = absurd none
