-- Worlds in which messages are doubled: each event keeps the agreement with copies, and so do runs
-- of events with copies between them.
use Rattle.std.proofs.Common.{◌≡◌, ◌∙◌, ℕ, List, [], ◌∷◌, ◌++◌, Some, None, refl, sym, ap, subst}
use Rattle.std.proofs.Common.{inl, inr}
use Rattle.bip_model.proofs.HistoryLemmas.{moves_once}
use Rattle.bip_model.specs.declared.messages.Request.{Request}
use Rattle.bip_partition.specs.Laws.{IsPlanned}
use Rattle.bip_partition.specs.Plans.{Planned}
use Rattle.bip_replay.specs.Runs.{IsModelRun, state_after, used_after}
use Rattle.bip_bank.specs.Decisions.{grant_of}
use Rattle.bip_bank.specs.Decisions.Decision.TheVariants as decision
use Rattle.bip_core.specs.Doubled.{AgreeWithCopies, AgreeWithCopiesAt, AgreementAllowsCopies}
use Rattle.bip_core.specs.Doubled.{AgreesWithCopies, AreStepsWithCopies, CopiesAreRefused}
use Rattle.bip_core.specs.Doubled.{DoublingKeeps, EachMayBeDoubled, EventsKeepWithCopies}
use Rattle.bip_core.specs.Doubled.{NoneNeedBeDoubled, RequestHolds, RunsWithCopiesAreRuns}
use Rattle.bip_core.specs.Doubled.{with_copy, with_event, with_nothing, with_skip}
use Rattle.bip_core.specs.Lists.{In}
use Rattle.bip_core.specs.Views.{view_of}
use Rattle.bip_core.specs.Worlds.{WorldContent}
use Rattle.bip_core.specs.declared.events.Event.{Event}
use Rattle.bip_core.specs.declared.messages.Message.{Message}
use Rattle.bip_core.proofs.DoubledAskLemmas.{asks_too}
use Rattle.bip_core.proofs.DoubledGrantLemmas.{grants_too, not_granted, serves_too}
use Rattle.bip_core.proofs.DoubledLemmas.{among, asked_too, offered_too, refuses_too, with_copies}
use Rattle.bip_core.proofs.DoubledMoveLemmas.{moved_last_too, moved_on_too}
use Rattle.bip_core.proofs.DoubledReplyLemmas.{granted_too, refused_too, was_wanted_too}
use Rattle.bip_core.proofs.EventLemmas.{step_keeps}
use Rattle.bip_core.proofs.ListLemmas.{Contains-in, in-one, in-split}
use Rattle.bip_core.proofs.StayLemmas.{step_stays}
use Rattle.bip_core.proofs.StepLemmas.{KeepsSteps}

-- the agreement with copies keeps the small steps
copies_keep : {p : Planned} (base : ℕ) → IsPlanned p → KeepsSteps p base (AgreeWithCopiesAt p base)
copies_keep base planned = record {
  used_is = λ u s w h. h.rest.books.used_is;
  end_is = λ u s w h. h.rest.locals.end_is;
  fewer = λ u s w h mail those less. among h mail those;
  offered = λ u s w h front back k o whole. offered_too h front back k o whole;
  asked = λ u s w h front back q whole. asked_too h front back q whole;
  moved_on = λ u s w h front back n whole unspent own ks o room comp number shows.
      moved_on_too h front back n whole unspent own ks o room comp number shows;
  moved_last = λ u s w h front back n whole unspent own last.
      moved_last_too h front back n whole unspent own last;
  granted = λ u s w h front back k number a serial whole e at named.
      granted_too planned h front back k number a serial whole e at named;
  was_wanted = λ u s w h front back k number a c used whole e at named.
      was_wanted_too h front back k number a c used whole e at named;
  refused = λ u s w h front back k number a c used whole e learnt taught.
      refused_too h front back k number a c used whole e learnt taught;
  grants = λ u s w h k o g takes counts by local. grants_too planned h k o g takes counts by local;
  asks = λ u s w h o q takes counts by so explained is_reserved number.
      asks_too planned h o q takes counts by number so explained is_reserved;
  serves = λ u s w h q later oldest fresh serial. serves_too planned h q later oldest fresh serial;
  refuses = λ u s w h q later oldest c used v wants low is.
      refuses_too h q later oldest c used v wants low is;
}

-- the same agreement, where plan and base are the same
agree_at : {p q : Planned} {n m : ℕ} (w : WorldContent) → q ≡ p → m ≡ n
    → AgreeWithCopies p n (view_of n w) → AgreeWithCopies q m (view_of m w)
agree_at {p} {n = n} {m = m} w plan base agree =
    subst (λ (x : Planned). AgreeWithCopies x m (view_of m w)) (sym plan)
    (subst (λ (b : ℕ). AgreeWithCopies p b (view_of b w)) (sym base) agree)

pub each_may_be_doubled : EachMayBeDoubled
each_may_be_doubled w m at = record { message = m; in_flight = at; again = refl }

pub none_need_be_doubled : NoneNeedBeDoubled
none_need_be_doubled w v [] [] is = with_nothing is
none_need_be_doubled w v (event ∷ events) (Some did ∷ dids) (next, step, rest) =
    with_event step (none_need_be_doubled next v events dids rest)
none_need_be_doubled w v (event ∷ events) (None ∷ dids) (can, rest) =
    with_skip can (none_need_be_doubled w v events dids rest)
none_need_be_doubled w v events dids none = absurd none

pub agreement_allows_copies : AgreementAllowsCopies
agreement_allows_copies w agrees = record {
  planned = agrees.planned;
  nodes = agrees.nodes;
  all = with_copies agrees.planned agrees.all;
}

pub doubling_keeps : DoublingKeeps
doubling_keeps w v agrees is =
    subst AgreesWithCopies (sym is.again) (record {
      planned = agrees.planned;
      nodes = record {
        components = agrees.nodes.components;
        classes = agrees.nodes.classes;
        bank = agrees.nodes.bank;
      };
      all =
          among agrees.all (w.mail ++ is.message ∷ [])
          (λ m at. elim (in-split m w.mail (is.message ∷ []) at) [
            | inl old ↦ old
            | inr new ↦
                subst (λ (x : Message). In x w.mail) (sym (in-one m is.message new))
                (Contains-in w.mail is.message is.in_flight)
          ]);
    })

pub events_keep : EventsKeepWithCopies
events_keep w v event did agrees step =
    let same = step_stays w v event did step in
    record {
      planned = subst IsPlanned (sym same.plan) agrees.planned;
      nodes = same.nodes agrees.nodes;
      all =
          agree_at v same.plan same.base
          (step_keeps (copies_keep w.bank.base agrees.planned) refl agrees.nodes
          (used_after w.bank.base w.trace) (state_after w.plan.model w.trace) agrees.all event did v
          step);
    }

-- what is granted is fresh, and what was granted isn't
pub copies_are_refused : CopiesAreRefused
copies_are_refused w q (decision.Refused c used) later agrees at is = (c, used, refl)
copies_are_refused w q (decision.Granted serial) later agrees at is =
    absurd
    (not_granted agrees.planned agrees.all q holds is.decision
    (Contains-in w.trace (grant_of q) at))
  where
    holds : RequestHolds w.plan (used_after w.bank.base w.trace) (view_of w.bank.base w) q
    holds =
        (agrees.all.waiting q.inter.0 q
        (subst (λ (qs : List Request). In q qs) (sym is.oldest) (inl refl))).0

-- a run with copies keeps plan and base, and the agreement
record Goes (w v : WorldContent) : Type 0 where
  plan : v.plan ≡ w.plan
  base : v.bank.base ≡ w.bank.base
  agrees : AgreesWithCopies v

steps_keep : {events : List Event} {w v : WorldContent} → AreStepsWithCopies events w v
    → AgreesWithCopies w → Goes w v
steps_keep (with_nothing {w = w} same) agrees =
    subst (Goes w) (sym same) (record { plan = refl; base = refl; agrees = agrees })
steps_keep (with_copy {w = w} {x = x} is rest) agrees =
    let goes = steps_keep rest (doubling_keeps w x agrees is) in
    record {
      plan = goes.plan ∙ ap (λ (y : WorldContent). y.plan) is.again;
      base = goes.base ∙ ap (λ (y : WorldContent). y.bank.base) is.again;
      agrees = goes.agrees;
    }
steps_keep (with_event {event = event} {did = did} {w = w} {x = x} step rest) agrees =
    let goes = steps_keep rest (events_keep w x event did agrees step) in
    let same = step_stays w x event did step in
    record {
      plan = goes.plan ∙ same.plan;
      base = goes.base ∙ same.base;
      agrees = goes.agrees;
    }
steps_keep (with_skip can rest) agrees = steps_keep rest agrees

pub runs_with_copies : RunsWithCopiesAreRuns
runs_with_copies w v events agrees steps =
    let goes = steps_keep steps (agreement_allows_copies w agrees) in
    let rest = goes.agrees.all.rest in
    let run = rest.locals.run in (
      subst (λ (p : Planned). IsModelRun p.model w.bank.base v.trace) goes.plan
          (subst (λ (b : ℕ). IsModelRun v.plan.model b v.trace) goes.base run),
      moves_once (λ c. v.bank.base) v.trace rest.books.history,
    )
