-- Events one after another, and their sums.
use Rattle.std.proofs.Common.{◌≡◌, ◌∙◌, ℕ, suc, ◌+◌, ◌<◌, List, [], ◌∷◌, ◌++◌, Bool, false, true}
use Rattle.std.proofs.Common.{Option, Some, None, length, refl, sym, ap, subst, arith, ◌≤◌}
use Rattle.std.proofs.Common.{slice_get}
use Rattle.std.specs.Prelude.{IfNone, IfSome}
use Rattle.std.specs.Prelude.{count_by, cond, is_some}
use Rattle.std.proofs.lemmas.List.{append_assoc, append-nil, length-append}
use Rattle.std.specs.Option.{option_to_list}
use Rattle.std.proofs.lemmas.List.Sums.{sum_by-append, sum_by-cons, sum_by_push}
use Rattle.std.proofs.lemmas.Option.{slice_get_past}
use Rattle.bip_model.specs.declared.grants.Grant.{Grant}
use Rattle.bip_core.specs.Events.{AreKeptOf, AreSent, CanBeSkipped, IsMailHandedOn, IsCounted}
use Rattle.bip_core.specs.Events.{IsDone}
use Rattle.bip_core.specs.Events.{IsHandedOn, IsStep, TakesOut, all_done, grant_in, effect_of}
use Rattle.bip_core.specs.Events.{one_kept, one_lost, trace_with}
use Rattle.bip_core.specs.Laws.{handed_out}
use Rattle.bip_core.specs.Runs.{AreSteps, IsEventCounted, IsRunOfEvents, did_so, is_grant, is_idle}
use Rattle.bip_core.specs.Runs.{is_effect_granted, is_effect_idle, is_effect_refused, is_refusal}
use Rattle.bip_core.specs.Runs.{lost_by, number_if, report_counted, report_of, report_with}
use Rattle.bip_core.specs.Runs.{was_skipped}
use Rattle.bip_core.specs.Worlds.{WorldContent}
use Rattle.bip_core.specs.declared.events.Did.{Did}
use Rattle.bip_core.specs.declared.events.Event.{Event}
use Rattle.bip_core.specs.declared.events.Event.TheVariants.{Bank, Mail, Try}
use Rattle.bip_core.specs.declared.events.What.{What}
use Rattle.bip_core.specs.declared.events.What.TheVariants.{Acts, Hears, Learns, Moves, Nothing}
use Rattle.bip_core.specs.declared.events.What.TheVariants.{Submits, Tries}
use Rattle.bip_core.specs.declared.messages.Message.{Message}
use Rattle.bip_core.specs.declared.messages.Message.TheVariants.{NotifyComponent, OfferTo}
use Rattle.bip_core.specs.declared.messages.Message.TheVariants.{ReplyToClass, RequestToBank}
use Rattle.bip_core.specs.declared.outcomes.Outcome.{Outcome}
use Rattle.bip_core.specs.declared.runs.Report.{Report}
use Rattle.bip_bank.specs.Decisions.Decision.TheVariants as decision
use Rattle.bip_ip.specs.declared.nodes.Tried.TheVariants as tried
use Rattle.bip_bank.specs.declared.banks.Acted.TheVariants as acted

-- one more event
steps_more : (es : List Event) (ds : List (Option Did)) (w v x : WorldContent) (e : Event) (d : Did)
    → AreSteps es ds w v → IsStep v e d x → AreSteps (es ++ e ∷ []) (ds ++ Some d ∷ []) w x
steps_more [] [] w v x e d so step = (x, subst (λ (u : WorldContent). IsStep u e d x) so step, refl)
steps_more [] (o ∷ ds) w v x e d so step = absurd so
steps_more (f ∷ es) [] w v x e d so step = absurd so
steps_more (f ∷ es) (Some o ∷ ds) w v x e d so step =
    (so.0, so.1, steps_more es ds so.0 v x e d so.2 step)
steps_more (f ∷ es) (None ∷ ds) w v x e d so step = (so.0, steps_more es ds w v x e d so.1 step)

-- one more that is skipped
steps_skip : (es : List Event) (ds : List (Option Did)) (w v x : WorldContent) (e : Event)
    → AreSteps es ds w v → CanBeSkipped v e → x ≡ v → AreSteps (es ++ e ∷ []) (ds ++ None ∷ []) w x
steps_skip [] [] w v x e so can same = (
  subst (λ (u : WorldContent). CanBeSkipped u e) so can,
  same ∙ so,
)
steps_skip [] (o ∷ ds) w v x e so can same = absurd so
steps_skip (f ∷ es) [] w v x e so can same = absurd so
steps_skip (f ∷ es) (Some o ∷ ds) w v x e so can same =
    (so.0, so.1, steps_skip es ds so.0 v x e so.2 can same)
steps_skip (f ∷ es) (None ∷ ds) w v x e so can same = (so.0, steps_skip es ds w v x e so.1 can same)

-- as many outcomes as events
pub steps_length : (es : List Event) (ds : List (Option Did)) (w v : WorldContent)
    → AreSteps es ds w v → length ds ≡ length es
steps_length [] [] w v so = refl
steps_length [] (o ∷ ds) w v so = absurd so
steps_length (f ∷ es) [] w v so = absurd so
steps_length (f ∷ es) (Some o ∷ ds) w v so = ap suc (steps_length es ds so.0 v so.2)
steps_length (f ∷ es) (None ∷ ds) w v so = ap suc (steps_length es ds w v so.1)

-- counts with one more
number_is : (b : Bool) → number_if b ≡ cond b 1 0
number_is false = refl
number_is true = refl

count_push : (f : Option Did → Bool) (ds : List (Option Did)) (d : Option Did)
    → count_by f ds + number_if (f d) ≡ count_by f (ds ++ d ∷ [])
count_push f ds d = ap (λ n. count_by f ds + n) (number_is (f d))
    ∙ sym (sum_by_push (λ x. cond (f x) 1 0) ds d)

-- a report by its sums
report_by : ℕ → ℕ → ℕ → ℕ → ℕ → ℕ → Report
report_by lost events grants refusals idle skipped =
    record {
      lost = lost;
      events = events;
      grants = grants;
      refusals = refusals;
      idle = idle;
      skipped = skipped;
    }

pub report_more : (ds : List (Option Did)) (d : Option Did)
    → report_with (report_of ds) d ≡ report_of (ds ++ d ∷ [])
report_more ds d = rw (
  ← sum_by_push lost_by ds d,
  length-append ds (d ∷ []),
  ← count_push (did_so is_grant) ds d,
  ← count_push (did_so is_refusal) ds d,
  ← count_push
      (did_so is_idle) ds d,
  ← count_push was_skipped ds d,
) refl

-- an event counts as what it did says
effect_counts : (what : What) → (is_effect_granted (effect_of what) ≡ is_grant what)
    × (is_effect_refused (effect_of what) ≡ is_refusal what)
    × (is_effect_idle (effect_of what) ≡ is_idle what)
effect_counts Nothing = (refl, refl, refl)
effect_counts (Hears r) = (refl, refl, refl)
effect_counts Submits = (refl, refl, refl)
effect_counts (Learns r) = (refl, refl, refl)
effect_counts (Moves r) = (refl, refl, refl)
effect_counts (Tries tried.Foreign) = (refl, refl, refl)
effect_counts (Tries (tried.Pending b)) = (refl, refl, refl)
effect_counts (Tries (tried.Not x)) = (refl, refl, refl)
effect_counts (Tries (tried.Local g notifies)) = (refl, refl, refl)
effect_counts (Tries tried.Ended) = (refl, refl, refl)
effect_counts (Tries (tried.Sent q)) = (refl, refl, refl)
effect_counts (Acts acted.Nothing) = (refl, refl, refl)
effect_counts (Acts acted.Moved) = (refl, refl, refl)
effect_counts (Acts (acted.Answered q (decision.Granted serial))) = (refl, refl, refl)
effect_counts (Acts (acted.Answered q (decision.Refused c used))) = (refl, refl, refl)

counted_same : (report : Report) (what : What) (outcome : Outcome) → outcome.effect ≡ effect_of what
    → report_counted report outcome ≡ report_with report
    (Some (record { what = what; lost = outcome.lost }))
counted_same report what outcome is =
    let counts = effect_counts what in
    let skipped : report.skipped + 0 ≡ report.skipped = omega arith in
    rw (is, counts.0, counts.1, counts.2, skipped) refl

-- none so far
pub no_steps : (w : WorldContent) (report : Report) → report ≡ report_of []
    → IsRunOfEvents [] w w report
no_steps w report is = record { dids = []; steps = refl; sums = is }

-- a run counts its events
pub events_counted : (es : List Event) (w v : WorldContent) (report : Report)
    → IsRunOfEvents es w v report → report.events ≡ length es
events_counted es w v report run = ap (λ (r : Report). r.events) run.sums
    ∙ steps_length es run.dids w v run.steps

-- an event that is done is counted
pub event_counted : {saw : What → Type 0} (v x : WorldContent) (report later : Report) (e : Event)
    (outcome : Outcome) → IsCounted saw v e outcome x → later ≡ report_counted report outcome
    → IsEventCounted e v x report later
event_counted v x report later e outcome counted is = record {
  did = Some (record { what = counted.what; lost = outcome.lost });
  steps = (x, counted.step, refl);
  sums = is ∙ counted_same report counted.what outcome counted.effect;
}

-- an event that was counted, or skipped
pub event_counted_or_skipped : (saw : What → Type 0) (v x : WorldContent) (report later : Report)
    (e : Event) (o : Option Outcome) → IfSome o (λ outcome. IsCounted saw v e outcome x)
    → IfSome o (λ outcome. later ≡ report_counted report outcome)
    → IfNone o (AreSteps (e ∷ []) (None ∷ []) v x) → IfNone o (later ≡ report_with report None)
    → IsEventCounted e v x report later
event_counted_or_skipped saw v x report later e (Some outcome) counted is none skipped =
    event_counted v x report later e outcome counted is
event_counted_or_skipped saw v x report later e None counted is none skipped =
    record { did = None; steps = none; sums = skipped }

-- events and one more
pub steps_one : (es : List Event) (ds : List (Option Did)) (w v x : WorldContent) (e : Event)
    (d : Option Did) → AreSteps es ds w v → AreSteps (e ∷ []) (d ∷ []) v x
    → AreSteps (es ++ e ∷ []) (ds ++ d ∷ []) w x
steps_one es ds w v x e None so one = steps_skip es ds w v x e so one.0 one.1
steps_one es ds w v x e (Some d) so one = subst (λ (u : WorldContent). AreSteps (es ++ e ∷ [])
    (ds ++ Some d ∷ []) w u) (sym one.2) (steps_more es ds w v one.0 e d so one.1)

pub run_more : (es : List Event) (w v x : WorldContent) (report later : Report) (e : Event)
    → IsRunOfEvents es w v report → IsEventCounted e v x report later
    → IsRunOfEvents (es ++ e ∷ []) w x later
run_more es w v x report later e run one = record {
  dids = run.dids ++ one.did ∷ [];
  steps = steps_one es run.dids w v x e one.did run.steps one.steps;
  sums = one.sums ∙ (ap (λ (r : Report). report_with r one.did) run.sums
      ∙ report_more run.dids one.did);
}

-- trace, plan and messages of a world that is another one but for its nodes or its bank
same_as : (v u : WorldContent) → v ≡ u → (v.trace ≡ u.trace) × (v.plan ≡ u.plan) × (v.mail ≡ u.mail)
same_as v u is = (
  ap (λ (w : WorldContent). w.trace) is,
  ap (λ (w : WorldContent). w.plan) is,
  ap (λ (w : WorldContent). w.mail) is,
)

-- a message that is handed on leaves them
handed_same : (w : WorldContent) (m : Message) (what : What) (v : WorldContent)
    → IsHandedOn w m what v → (v.trace ≡ w.trace) × (v.plan ≡ w.plan) × (v.mail ≡ w.mail)
handed_same w (OfferTo k o) Nothing v on = absurd on
handed_same w (OfferTo k o) (Hears r) v on = same_as v _ on.3
handed_same w (OfferTo k o) Submits v on = absurd on
handed_same w (OfferTo k o) (Learns r) v on = absurd on
handed_same w (OfferTo k o) (Moves r) v on = absurd on
handed_same w (OfferTo k o) (Tries r) v on = absurd on
handed_same w (OfferTo k o) (Acts r) v on = absurd on
handed_same w (RequestToBank q) Nothing v on = absurd on
handed_same w (RequestToBank q) (Hears r) v on = absurd on
handed_same w (RequestToBank q) Submits v on = same_as v _ on
handed_same w (RequestToBank q) (Learns r) v on = absurd on
handed_same w (RequestToBank q) (Moves r) v on = absurd on
handed_same w (RequestToBank q) (Tries r) v on = absurd on
handed_same w (RequestToBank q) (Acts r) v on = absurd on
handed_same w (ReplyToClass x) Nothing v on = absurd on
handed_same w (ReplyToClass x) (Hears r) v on = absurd on
handed_same w (ReplyToClass x) Submits v on = absurd on
handed_same w (ReplyToClass x) (Learns r) v on = same_as v _ on.5
handed_same w (ReplyToClass x) (Moves r) v on = absurd on
handed_same w (ReplyToClass x) (Tries r) v on = absurd on
handed_same w (ReplyToClass x) (Acts r) v on = absurd on
handed_same w (NotifyComponent n) Nothing v on = absurd on
handed_same w (NotifyComponent n) (Hears r) v on = absurd on
handed_same w (NotifyComponent n) Submits v on = absurd on
handed_same w (NotifyComponent n) (Learns r) v on = absurd on
handed_same w (NotifyComponent n) (Moves r) v on = same_as v _ on.5
handed_same w (NotifyComponent n) (Tries r) v on = absurd on
handed_same w (NotifyComponent n) (Acts r) v on = absurd on

-- counts of a list with one more in front, and of two lists
count_cons : (f : Message → Bool) (x : Message) (xs : List Message)
    → count_by f (x ∷ xs) ≡ cond (f x) 1 0 + count_by f xs
count_cons f x xs = sum_by-cons (λ y. cond (f y) 1 0) x xs

count_append : (f : Message → Bool) (xs ys : List Message)
    → count_by f (xs ++ ys) ≡ count_by f xs + count_by f ys
count_append f xs ys = sum_by-append (λ y. cond (f y) 1 0) xs ys

-- a delivery leaves all messages but the one that it hands on
delivered_mail : (place : ℕ) (w : WorldContent) (what : What) (v : WorldContent)
    (d : IsMailHandedOn place w what v) (f : Message → Bool)
    → count_by f v.mail + count_by f (d.message ∷ []) ≡ count_by f w.mail
delivered_mail place w what v d f =
    let same = handed_same (record w { mail = d.rest }) d.message what v d.on in
    let rest = same.2 ∙ d.taken.others in
    let left = ap (λ (l : List Message). count_by f l) rest
    ∙ count_append f d.taken.front d.taken.back in
    let whole = ap (λ (l : List Message). count_by f l) d.taken.whole
    ∙ count_append f d.taken.front (d.message ∷ d.taken.back) in
    let one = count_cons f d.message d.taken.back in
    let alone = count_cons f d.message [] in
    omega (arith, left, whole, one, alone)

-- what stands at the place of one that is taken out
read_middle : (front : List Message) (m : Message) (back : List Message)
    → slice_get (front ++ m ∷ back) (length front) ≡ Some m
read_middle [] m back = refl
read_middle (x ∷ front) m back = read_middle front m back

read_taken : (place : ℕ) (m : Message) (mail left : List Message) → TakesOut place m mail left
    → slice_get mail place ≡ Some m
read_taken place m mail left taken = subst (λ (k : ℕ). slice_get mail k ≡ Some m) taken.before
    (subst (λ (l : List Message). slice_get l (length taken.front) ≡ Some m) (sym taken.whole)
    (read_middle taken.front m taken.back))

-- so an event leaves all messages but those that it hands on, until its grant joins the trace
record IsLeft (w : WorldContent) (e : Event) (v : WorldContent) : Type 0 where
  pub trace : v.trace ≡ w.trace
  pub plan : v.plan ≡ w.plan
  pub mail : (f : Message → Bool) → count_by f v.mail + count_by f (handed_out e w.mail)
      ≡ count_by f w.mail

left_as : (w : WorldContent) (e : Event) (v : WorldContent) → handed_out e w.mail ≡ []
    → (v.trace ≡ w.trace) × (v.plan ≡ w.plan) × (v.mail ≡ w.mail) → IsLeft w e v
left_as w e v none same = record {
  trace = same.0;
  plan = same.1;
  mail = λ f.
      let counted = ap (λ (l : List Message). count_by f l) same.2 in
      let nothing = ap (λ (l : List Message). count_by f l) none in
      omega (arith, counted, nothing);
}

left_by : (place : ℕ) (w : WorldContent) (what : What) (v : WorldContent)
    → IsMailHandedOn place w what v → IsLeft w (Mail place) v
left_by place w what v d =
    let same = handed_same (record w { mail = d.rest }) d.message what v d.on in
    let here = ap option_to_list (read_taken place d.message w.mail d.rest d.taken) in
    record {
      trace = same.0;
      plan = same.1;
      mail = λ f.
          let counted = delivered_mail place w what v d f in
          let one = ap (λ (l : List Message). count_by f l) here in
          omega (arith, counted, one);
    }

done_left : (w : WorldContent) (e : Event) (what : What) (v : WorldContent) → IsDone w e what v
    → IsLeft w e v
done_left w (Mail place) Nothing v done = left_as w (Mail place) v
    (ap option_to_list (slice_get_past w.mail place done.0)) (same_as v w done.1)
done_left w (Mail place) (Hears r) v done = left_by place w (Hears r) v done
done_left w (Mail place) Submits v done = left_by place w Submits v done
done_left w (Mail place) (Learns r) v done = left_by place w (Learns r) v done
done_left w (Mail place) (Moves r) v done = left_by place w (Moves r) v done
done_left w (Mail place) (Tries r) v done = left_by place w (Tries r) v done
done_left w (Mail place) (Acts r) v done = left_by place w (Acts r) v done
done_left w (Try k a) Nothing v done = left_as w (Try k a) v refl (same_as v _ done.1)
done_left w (Try k a) (Hears r) v done = absurd done
done_left w (Try k a) Submits v done = absurd done
done_left w (Try k a) (Learns r) v done = absurd done
done_left w (Try k a) (Moves r) v done = absurd done
done_left w (Try k a) (Tries r) v done = left_as w (Try k a) v refl (same_as v _ done.3)
done_left w (Try k a) (Acts r) v done = absurd done
done_left w (Bank s) Nothing v done = absurd done
done_left w (Bank s) (Hears r) v done = absurd done
done_left w (Bank s) Submits v done = absurd done
done_left w (Bank s) (Learns r) v done = absurd done
done_left w (Bank s) (Moves r) v done = absurd done
done_left w (Bank s) (Tries r) v done = absurd done
done_left w (Bank s) (Acts r) v done = left_as w (Bank s) v refl (same_as v _ done.3)

-- the trace after an event has the grant that it gave, and no other
pub step_trace : (w : WorldContent) (e : Event) (d : Did) (v : WorldContent) → IsStep w e d v
    → v.trace ≡ trace_with w.trace (grant_in d.what)
step_trace w e d v step =
    let left = done_left w e d.what step.acted.middle step.acted.done in
    ap (λ (u : WorldContent). u.trace) step.others
    ∙ (ap (λ (u : WorldContent). u.trace) step.acted.after
    ∙ ap (λ (t : List Grant). trace_with t (grant_in d.what)) left.trace)

-- what a trace grows by with a grant, if there is one
grown_by : (trace : List Grant) (given : Option Grant) → (gs : List Grant)
    × (trace_with trace given ≡ trace ++ gs) × (length gs ≡ cond (is_some given) 1 0)
grown_by trace None = ([], sym (append-nil trace), refl)
grown_by trace (Some g) = (g ∷ [], refl, refl)

from_zero : (a b : ℕ) → a ≡ b → 0 + a ≡ b
from_zero a b is = omega (arith, is)

-- the grants that events give join the trace, as many as are counted
pub steps_grow : (es : List Event) (ds : List (Option Did)) (w v : WorldContent)
    → AreSteps es ds w v → (gs : List Grant) × (v.trace ≡ w.trace ++ gs)
    × (count_by (did_so is_grant) ds ≡ length gs)
steps_grow [] [] w v so = (
  [],
  ap (λ (u : WorldContent). u.trace) so ∙ sym (append-nil w.trace),
  refl,
)
steps_grow [] (o ∷ ds) w v so = absurd so
steps_grow (f ∷ es) [] w v so = absurd so
steps_grow (f ∷ es) (Some d ∷ ds) w v so =
    let one = grown_by w.trace (grant_in d.what) in
    let more = steps_grow es ds so.0 v so.2 in
    let here = step_trace w f d so.0 so.1 ∙ one.1 in (
      one.0 ++ more.0,
      more.1 ∙ (ap (λ (t : List Grant). t ++ more.0) here ∙ append_assoc w.trace one.0 more.0),
      sum_by-cons (λ x. cond (did_so is_grant x) 1 0) (Some d) ds
          ∙ rw (length-append one.0 more.0, one.2, ← more.2) refl,
    )
steps_grow (f ∷ es) (None ∷ ds) w v so =
    let more = steps_grow es ds w v so.1 in
    (more.0, more.1, sum_by-cons (λ x. cond (did_so is_grant x) 1 0) None ds ∙ from_zero _ _ more.2)

-- no more of a kind are kept than there are
kept_counted : (f : Message → Bool) (ps xs : List Message) → AreKeptOf ps xs
    → count_by f ps ≤ count_by f xs
kept_counted f [] [] all_done = omega arith
kept_counted f (p ∷ ps) (x ∷ xs) (one_kept kept) =
    let less = kept_counted f ps xs kept in
    let first = count_cons f p ps in
    let second = count_cons f p xs in
    omega (arith, less, first, second)
kept_counted f (p ∷ ps) [] x3 = elim x3 [ ]
kept_counted f ps (x ∷ xs) (one_lost kept) =
    let less = kept_counted f ps xs kept in
    let second = count_cons f x xs in
    omega (arith, less, second)

-- and no more are lost of a kind than are lost
few : (b : Bool) → cond b 1 0 ≤ 1
few true = omega arith
few false = omega arith

lost_counted : (f : Message → Bool) (ps xs : List Message) → AreKeptOf ps xs
    → count_by f xs + length ps ≤ count_by f ps + length xs
lost_counted f [] [] all_done = omega arith
lost_counted f (p ∷ ps) (x ∷ xs) (one_kept kept) =
    let less = lost_counted f ps xs kept in
    let first = count_cons f p ps in
    let second = count_cons f p xs in
    omega (arith, less, first, second)
lost_counted f (p ∷ ps) [] x3 = elim x3 [ ]
lost_counted f ps (x ∷ xs) (one_lost kept) =
    let less = lost_counted f ps xs kept in
    let second = count_cons f x xs in
    omega (arith, less, second, few (f x))

-- what is in flight after a step
step_mail : (w v : WorldContent) (e : Event) (d : Did) (step : IsStep w e d v) (f : Message → Bool)
    → count_by f v.mail ≡ count_by f step.acted.middle.mail + count_by f step.put.put
step_mail w v e d step f =
    let last = ap (λ (l : List Message). count_by f l) step.put.last
    ∙ count_append f step.middle.mail step.put.put in
    let middle = ap (λ (u : WorldContent). count_by f u.mail) step.acted.after in
    omega (arith, last, middle)

step_counted : (w v : WorldContent) (e : Event) (d : Did) (step : IsStep w e d v)
    (f : Message → Bool) → count_by f v.mail ≤ count_by f step.acted.middle.mail + count_by f
    step.sent
step_counted w v e d step f =
    let last = step_mail w v e d step f in
    let kept = kept_counted f step.put.put step.sent step.put.kept in
    omega (arith, last, kept)

pub messages_sent : (w v : WorldContent) (e : Event) (d : Did) → IsStep w e d v
    → (sent : List Message) × AreSent w.plan d.what sent
    × ((f : Message → Bool) → count_by f v.mail ≤ count_by f w.mail + count_by f sent)
messages_sent w v e d step = (
  step.sent,
  step.sends,
  λ f.
      let counted = step_counted w v e d step f in
      let left = (done_left w e d.what step.acted.middle step.acted.done).mail f in
      omega (arith, counted, left),
)

-- where there is a message it is handed on
at_place : (w : WorldContent) (place : ℕ) (what : What) (v : WorldContent)
    → IsDone w (Mail place) what v → place < length w.mail → IsMailHandedOn place w what v
at_place w place Nothing v done within =
    let far = done.0 in
    let never : ⊥ = omega (arith, far, within) in
    absurd never
at_place w place (Hears r) v done within = done
at_place w place Submits v done within = done
at_place w place (Learns r) v done within = done
at_place w place (Moves r) v done within = done
at_place w place (Tries r) v done within = done
at_place w place (Acts r) v done within = done

pub messages_once : (w v : WorldContent) (place : ℕ) (d : Did) → IsStep w (Mail place) d v
    → place < length w.mail
    → (m : Message) × (slice_get w.mail place ≡ Some m) × (sent : List Message)
    × AreSent w.plan d.what sent × ((f : Message → Bool)
    → count_by f v.mail + count_by f (m ∷ []) ≤ count_by f w.mail + count_by f sent)
messages_once w v place d step within =
    let here = at_place w place d.what step.acted.middle step.acted.done within in (
      here.message,
      read_taken place here.message w.mail here.rest here.taken,
      step.sent,
      step.sends,
      λ f.
          let counted = step_counted w v (Mail place) d step f in
          let left = delivered_mail place w d.what step.acted.middle here f in
          omega (arith, counted, left),
    )

-- all are counted, whatever they are
abbrev every : Message → Bool
every m = true

counts_all : (xs : List Message) → count_by every xs ≡ length xs
counts_all [] = refl
counts_all (x ∷ xs) =
    let more = count_cons every x xs in
    let rest = counts_all xs in
    omega (arith, more, rest)

pub messages_counted : (w v : WorldContent) (e : Event) (d : Did) → IsStep w e d v
    → (sent : List Message) × AreSent w.plan d.what sent
    × ((f : Message → Bool) → count_by f w.mail + count_by f sent
    ≤ count_by f v.mail + count_by f (handed_out e w.mail) + d.lost)
    × (length w.mail + length sent ≡ length v.mail + length (handed_out e w.mail) + d.lost)
messages_counted w v e d step =
    let left = (done_left w e d.what step.acted.middle step.acted.done).mail in
    let last = step_mail w v e d step in
    let before = counts_all w.mail in
    let after = counts_all v.mail in
    let gone = counts_all (handed_out e w.mail) in
    let put = counts_all step.put.put in (
      step.sent,
      step.sends,
      λ f.
          let lost = lost_counted f step.put.put step.sent step.put.kept in
          omega (arith, left f, last f, lost, step.put.count),
      omega (arith, left every, last every, before, after, gone, put, step.put.count),
    )
