-- An event that has something to do isn't idle, and one that has nothing to do is.
use Rattle.std.proofs.Common.{◌≡◌, ◌⊎◌, ℕ, ◌<◌, ◌≤◌, false, true, refl, sym, ap, ◌∙◌, inl, inr}
use Rattle.std.proofs.Common.{Bool, IfSome, IsFalse, None, Option, Some, arith, is_some, length}
use Rattle.std.proofs.Common.{not, subst}
use Rattle.std.proofs.Common.{◌+◌, ◌∷◌, [], List}
use Rattle.std.proofs.lemmas.Bool.{true≢false}
use Rattle.std.proofs.lemmas.List.{length-append}
use Rattle.bip_model.specs.declared.grants.Grant.{Grant}
use Rattle.bip_model.specs.Numbering.{last_number}
use Rattle.bip_bank.proofs.IdlenessLemmas.{reasons_are_all, reasons_are_true}
use Rattle.bip_bank.specs.Banks.{BankContent, CanWantMemory, DoesStep, IsActed}
use Rattle.bip_bank.specs.Decisions.Decision.TheVariants.{Granted, Refused}
use Rattle.bip_bank.specs.Decisions.{grant_of}
use Rattle.bip_bank.specs.Idleness.{IsIdleBecause}
use Rattle.bip_bank.specs.Laws.{MovesInOneWay}
use Rattle.bip_bank.specs.declared.banks.Acted.TheVariants as acted
use Rattle.bip_bank.specs.declared.banks.Acted.{Acted}
use Rattle.bip_bank.specs.declared.banks.BankStep.{BankStep}
use Rattle.bip_bank.specs.declared.idleness.WhyIdle.{WhyIdle}
use Rattle.bip_ip.proofs.LawLemmas.{asked_alone}
use Rattle.bip_ip.specs.Nodes.{CanBeTried, ClassNode, IsTried}
use Rattle.bip_ip.specs.declared.nodes.Tried.TheVariants as tried
use Rattle.bip_ip.specs.declared.nodes.Tried.{Tried}
use Rattle.bip_core.proofs.RepeatLemmas.{IsActedIn, IsTriedIn, bank_done, mail_done, past_mail}
use Rattle.bip_core.proofs.RepeatLemmas.{try_done}
use Rattle.bip_core.specs.Events.{HasNoWork, HasWork, IsMailHandedOn, IsDone, IsHandedOn, IsStep}
use Rattle.bip_core.specs.Laws.{NoWorkIsIdle, WorkIsDone}
use Rattle.bip_core.specs.Runs.{is_idle}
use Rattle.bip_core.specs.Worlds.{WorldContent}
use Rattle.bip_core.specs.declared.events.Did.{Did}
use Rattle.bip_core.specs.declared.events.Event.TheVariants.{Bank, Mail, Try}
use Rattle.bip_core.specs.declared.events.Event.{Event}
use Rattle.bip_core.specs.declared.events.What.TheVariants.{Acts, Hears, Learns, Moves, Nothing}
use Rattle.bip_core.specs.declared.events.What.TheVariants.{Submits, Tries}
use Rattle.bip_core.specs.declared.events.What.{What}
use Rattle.bip_core.specs.declared.messages.Message.TheVariants.{NotifyComponent, OfferTo}
use Rattle.bip_core.specs.declared.messages.Message.TheVariants.{ReplyToClass, RequestToBank}
use Rattle.bip_core.specs.declared.messages.Message.{Message}

-- what hands a message on isn't idle
handed_busy : (w v : WorldContent) (place : ℕ) (what : What) → IsMailHandedOn place w what v
    → is_idle what ≡ false
handed_busy w v place what is = by_answer is.message what is.on
  where
    by_answer : (m : Message) (what : What)
        → IsHandedOn (record w { mail = is.rest }) m what v → is_idle what ≡ false
    by_answer m (Hears receipt) on = refl
    by_answer m Submits on = refl
    by_answer m (Learns did) on = refl
    by_answer m (Moves did) on = refl
    by_answer (OfferTo k o) Nothing on = absurd on
    by_answer (RequestToBank q) Nothing on = absurd on
    by_answer (ReplyToClass r) Nothing on = absurd on
    by_answer (NotifyComponent n) Nothing on = absurd on
    by_answer (OfferTo k o) (Tries did) on = absurd on
    by_answer (RequestToBank q) (Tries did) on = absurd on
    by_answer (ReplyToClass r) (Tries did) on = absurd on
    by_answer (NotifyComponent n) (Tries did) on = absurd on
    by_answer (OfferTo k o) (Acts did) on = absurd on
    by_answer (RequestToBank q) (Acts did) on = absurd on
    by_answer (ReplyToClass r) (Acts did) on = absurd on
    by_answer (NotifyComponent n) (Acts did) on = absurd on

-- a try that would do something is granted at once, or asks
tries_busy : (node : ClassNode) (a : ℕ) (did : Tried) → CanBeTried node a → IsTried node a did
    → is_idle (Tries did) ≡ false
tries_busy node a tried.Foreign can is = absurd (is can.asked.own)
tries_busy node a (tried.Pending b) can is = absurd (can.asked.free b.0 is.1.here)
tries_busy node a (tried.Not verdict) can is = absurd (asked_alone node a verdict can.asked is)
tries_busy node a (tried.Local g notifies) can is = refl
tries_busy node a tried.Ended can is = absurd (omega (arith, can.numbered is.1, is.2))
tries_busy node a (tried.Sent q) can is = refl

tries_idle : (node : ClassNode) (a : ℕ) (did : Tried) → ¬ CanBeTried node a → IsTried node a did
    → is_idle (Tries did) ≡ true
tries_idle node a tried.Foreign not is = refl
tries_idle node a (tried.Pending b) not is = refl
tries_idle node a (tried.Not verdict) not is = refl
tries_idle node a (tried.Local g notifies) not is =
    absurd (not (record { asked = is.0; numbered = λ reserved. absurd (is.1 reserved) }))
tries_idle node a tried.Ended not is = refl
tries_idle node a (tried.Sent q) not is =
    absurd (not (record { asked = is.0; numbered = λ reserved. is.2 }))

-- a step that decides or moves something isn't idle
acts_busy : (b later : BankContent) (step : BankStep) (did : Acted) → MovesInOneWay b.sharing
    → length b.grants < last_number → CanWantMemory b step → DoesStep b step did later
    → is_idle (Acts did) ≡ false
acts_busy b later step acted.Nothing way left can does =
    absurd (omega (arith, left, reasons_are_all b later step way can does))
acts_busy b later step acted.Moved way left can does = refl
acts_busy b later step (acted.Answered q d) way left can does = refl

-- the node of a class is one
same_node : (w : WorldContent) (k : ℕ) (m n : ClassNode) → w.classes k ≡ Some m
    → w.classes k ≡ Some n → m ≡ n
same_node w k m n one other = cc

no_class : (w : WorldContent) (k : ℕ) (n : ClassNode) → w.classes k ≡ None → w.classes k ≡ Some n
    → ⊥
no_class w k n none some = cc

work_done : (w v : WorldContent) (event : Event) (what : What) → MovesInOneWay w.bank.sharing
    → length w.bank.grants < last_number → HasWork w event → IsDone w event what v
    → is_idle what ≡ false
work_done w v (Mail place) what way left work is = by_view (mail_done w v place what is)
  where
    by_view : ((length w.mail ≤ place) × (what ≡ Nothing) × (v ≡ w)) ⊎ IsMailHandedOn place w what v
        → is_idle what ≡ false
    by_view (inl none) = absurd (omega (arith, work, none.0))
    by_view (inr here) = handed_busy w v place what here
work_done w v (Try k a) what way left (node, at, can) is = by_view (try_done w v k a what is)
  where
    by_view : IsTriedIn w k.0 a.0 what v → is_idle what ≡ false
    by_view (inl none) = absurd (no_class w k.0 node none.0 at)
    by_view (inr here) =
        ap is_idle here.4
        ∙ tries_busy here.0 a.0 here.1
        (subst (λ (n : ClassNode). CanBeTried n a.0) (same_node w k.0 node here.0 at here.2) can)
        here.3
work_done w v (Bank step) what way left work is =
    let here : IsActedIn w step what v = bank_done w v step what is in
    ap is_idle here.4 ∙ acts_busy w.bank here.1 step here.0 way left work here.2

no_work : (w v : WorldContent) (event : Event) (what : What) → MovesInOneWay w.bank.sharing
    → HasNoWork w event → IsDone w event what v → is_idle what ≡ true
no_work w v (Mail place) what way past is = by_view (mail_done w v place what is)
  where
    by_view : ((length w.mail ≤ place) × (what ≡ Nothing) × (v ≡ w)) ⊎ IsMailHandedOn place w what v
        → is_idle what ≡ true
    by_view (inl none) = ap is_idle none.1
    by_view (inr here) = absurd (past_mail place here.message w.mail here.rest here.taken past)
no_work w v (Try k a) what way not is = by_view (try_done w v k a what is)
  where
    by_view : IsTriedIn w k.0 a.0 what v → is_idle what ≡ true
    by_view (inl none) = ap is_idle none.1
    by_view (inr here) = ap is_idle here.4 ∙ tries_idle here.0 a.0 here.1 (not here.0 here.2) here.3
no_work w v (Bank step) what way (why, because) is =
    let here : IsActedIn w step what v = bank_done w v step what is in
    let none : here.0 ≡ acted.Nothing =
    reasons_are_true w.bank here.1 step why here.0 way because here.2 here.3 in
    ap is_idle here.4 ∙ ap (λ (did : Acted). is_idle (Acts did)) none

pub work_is_done : WorkIsDone
work_is_done w v event did way left work step =
    work_done w step.acted.middle event did.what way left work step.acted.done

pub no_work_is_idle : NoWorkIsIdle
no_work_is_idle w v event did way none step =
    no_work w step.acted.middle event did.what way none step.acted.done

-- the reason that a bank gives for a step to do nothing
pub idle_by : (b : BankContent) (step : BankStep) (why : Option WhyIdle) (none : Bool)
    → is_some why ≡ not none → IfSome why (IsIdleBecause b step) → IsFalse none
    → (x : WhyIdle) × IsIdleBecause b step x
idle_by b step None none is so lies = absurd (true≢false (sym (is ∙ ap not lies)))
idle_by b step (Some x) none is so lies = (x, so)

-- The bank's grants are one more behind an event, or as many.

abbrev grants_of : WorldContent → List Grant
grants_of w = w.bank.grants

handed_grants : (w v : WorldContent) (m : Message) (what : What) → IsHandedOn w m what v
    → v.bank.grants ≡ w.bank.grants
handed_grants w v (OfferTo k o) (Hears receipt) on = ap grants_of on.3
handed_grants w v (RequestToBank q) Submits on = ap grants_of on
handed_grants w v (ReplyToClass r) (Learns did) on = ap grants_of on.5
handed_grants w v (NotifyComponent n) (Moves did) on = ap grants_of on.5
handed_grants w v (OfferTo k o) Nothing on = absurd on
handed_grants w v (OfferTo k o) Submits on = absurd on
handed_grants w v (OfferTo k o) (Learns did) on = absurd on
handed_grants w v (OfferTo k o) (Moves did) on = absurd on
handed_grants w v (OfferTo k o) (Tries did) on = absurd on
handed_grants w v (OfferTo k o) (Acts did) on = absurd on
handed_grants w v (RequestToBank q) Nothing on = absurd on
handed_grants w v (RequestToBank q) (Hears receipt) on = absurd on
handed_grants w v (RequestToBank q) (Learns did) on = absurd on
handed_grants w v (RequestToBank q) (Moves did) on = absurd on
handed_grants w v (RequestToBank q) (Tries did) on = absurd on
handed_grants w v (RequestToBank q) (Acts did) on = absurd on
handed_grants w v (ReplyToClass r) Nothing on = absurd on
handed_grants w v (ReplyToClass r) (Hears receipt) on = absurd on
handed_grants w v (ReplyToClass r) Submits on = absurd on
handed_grants w v (ReplyToClass r) (Moves did) on = absurd on
handed_grants w v (ReplyToClass r) (Tries did) on = absurd on
handed_grants w v (ReplyToClass r) (Acts did) on = absurd on
handed_grants w v (NotifyComponent n) Nothing on = absurd on
handed_grants w v (NotifyComponent n) (Hears receipt) on = absurd on
handed_grants w v (NotifyComponent n) Submits on = absurd on
handed_grants w v (NotifyComponent n) (Learns did) on = absurd on
handed_grants w v (NotifyComponent n) (Tries did) on = absurd on
handed_grants w v (NotifyComponent n) (Acts did) on = absurd on

acted_grants : (b later : BankContent) (did : Acted) → IsActed did b later
    → length later.grants ≤ length b.grants + 1
acted_grants b later acted.Nothing is =
    omega (arith, ap (λ (x : BankContent). length x.grants) is)
acted_grants b later acted.Moved is = omega (arith, ap (λ (x : BankContent). length x.grants) is)
acted_grants b later (acted.Answered q (Granted serial)) is =
    omega (
      arith,
      ap (λ (x : BankContent). length x.grants) is.after,
      length-append b.grants (grant_of q ∷ []),
    )
acted_grants b later (acted.Answered q (Refused c used)) is =
    omega (arith, ap (λ (x : BankContent). length x.grants) is.after)

done_grants : (w v : WorldContent) (event : Event) (what : What) → IsDone w event what v
    → length v.bank.grants ≤ length w.bank.grants + 1
done_grants w v (Mail place) what is = by_view (mail_done w v place what is)
  where
    by_view : ((length w.mail ≤ place) × (what ≡ Nothing) × (v ≡ w)) ⊎ IsMailHandedOn place w what v
        → length v.bank.grants ≤ length w.bank.grants + 1
    by_view (inl none) = omega (arith, ap (λ (u : WorldContent). length u.bank.grants) none.2)
    by_view (inr here) =
        omega (
          arith,
          ap length (handed_grants (record w { mail = here.rest }) v here.message what
              here.on),
        )
done_grants w v (Try k a) what is = by_view (try_done w v k a what is)
  where
    by_view : IsTriedIn w k.0 a.0 what v → length v.bank.grants ≤ length w.bank.grants + 1
    by_view (inl none) = omega (arith, ap (λ (u : WorldContent). length u.bank.grants) none.2)
    by_view (inr here) = omega (arith, ap (λ (u : WorldContent). length u.bank.grants) here.5)
done_grants w v (Bank step) what is =
    let here : IsActedIn w step what v = bank_done w v step what is in
    omega (
      arith,
      ap (λ (u : WorldContent). length u.bank.grants) here.5,
      acted_grants w.bank here.1 here.0 here.3,
    )

pub bank_grows : (w v : WorldContent) (event : Event) (did : Did) → IsStep w event did v
    → length v.bank.grants ≤ length w.bank.grants + 1
bank_grows w v event did step =
    omega (
      arith,
      done_grants w step.acted.middle event did.what step.acted.done,
      ap (λ (u : WorldContent). length u.bank.grants) step.acted.after,
      ap (λ (u : WorldContent). length u.bank.grants) step.others,
    )
