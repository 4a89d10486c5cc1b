-- The laws of schedules and seeds: one reading, one trace.
use Rattle.std.proofs.lemmas.Bool.{cases_lt}
use Rattle.std.proofs.Common.{◌≡◌, ◌≢◌, ◌<◌, ◌≤◌, ℕ, List, [], ◌∷◌, ◌++◌, Option, Some, None}
use Rattle.std.proofs.Common.{Result, Ok, Err}
use Rattle.std.proofs.Common.{Bool, false, length, refl, sym, ap, ◌∙◌, subst, inl, inr, arith, true}
use Rattle.std.specs.Prelude.{◌↔◌, ◌⊎◌}
use Rattle.std.proofs.lemmas.List.{length-append}
use Rattle.rand_pcg.specs.Lcg.{Lcg}
use Rattle.rand_pcg.specs.Pcg.{pcg32}
use Rattle.bip_bank.specs.Laws.{MovesInOneWay}
use Rattle.bip_bank.specs.Sharing.{in_flight}
use Rattle.bip_core.proofs.RepeatLemmas.{same_lengths, step_once}
use Rattle.bip_core.proofs.RepeatRunLemmas.{one_new_world, one_run}
use Rattle.bip_core.specs.Repeats.{AreAlike}
use Rattle.bip_core.specs.Runs.{AreSteps, IsEventCounted, IsLossless, IsRunOfEvents, report_with}
use Rattle.bip_core.specs.Worlds.{WorldContent}
use Rattle.bip_core.specs.declared.events.Did.{Did}
use Rattle.bip_core.specs.declared.events.Event.{Event}
use Rattle.bip_core.specs.declared.runs.Report.{Report}
use Rattle.bip_model.specs.declared.grants.Grant.{Grant}
use Rattle.bip_model.specs.declared.numbering.InterId.{InterId}
use Rattle.bip_partition.specs.Plans.{AreStations, Planned}
use Rattle.bip_replay.specs.Items.{IsTextFault, items_of}
use Rattle.bip_replay.specs.declared.faults.LineFault.{LineFault}
use Rattle.bip_replay.specs.declared.faults.LineFault.TheVariants as line_fault
use Rattle.bip_replay.specs.declared.faults.TraceFault.{TraceFault}
use Rattle.bip_replay.specs.declared.faults.TraceFault.TheVariants.{Memory, Syntax, Unknown}
use Rattle.bip_schedule.proofs.BusyRepeatLemmas.{busy_alike, one_busy, quiet_alike, quiet_or_drawn}
use Rattle.bip_schedule.proofs.DrawLemmas.{seeded_run}
use Rattle.bip_partition.proofs.TableLemmas.{one_stations}
use Rattle.bip_schedule.specs.Drawing.{IsDrawn}
use Rattle.bip_schedule.specs.Exploring.{SeedRun}
use Rattle.bip_schedule.specs.Laws.{EventsOrFault, IsFault, EventsHaveNoFault, OneSchedule}
use Rattle.bip_schedule.specs.Laws.{OneScheduleFault, OneSeedTrace}
use Rattle.bip_schedule.specs.Lines.{event_on}
use Rattle.bip_schedule.specs.Schedules.{IsEventText}
use Rattle.bip_replay.specs.Runs.{NothingMayRun, state_after}
use Rattle.bip_walk.specs.Chance.{generator_of}
use Rattle.bip_walk.specs.Tallies.{Traced}
use Rattle.bip_schedule.specs.Seeding.{AreDrawn, EndsDraws, IsDrawnIn, none_drawn, one_drawn}
use Rattle.bip_schedule.specs.declared.drawing.Draw.TheVariants.{Busy, Table}
use Rattle.bip_schedule.specs.declared.drawing.Draw.{Draw}
use Rattle.bip_schedule.specs.declared.drawing.Draws.{Draws}

-- Schedules.

abbrev Reading : Type 0
Reading = Result (List Event) (ℕ × LineFault)

abbrev read_as : List Event → Reading
read_as events = Ok events

abbrev wrong_at : ℕ → LineFault → Reading
wrong_at n fault = Err (n, fault)

abbrev read_by : Planned → List InterId → List ℕ → Reading
read_by p stations text = items_of (event_on p stations) text

same_events : (xs ys : List Event) (r : Reading) → r ≡ Ok xs → r ≡ Ok ys → xs ≡ ys
same_events xs ys r one other =
    let both : read_as xs ≡ read_as ys = sym one ∙ other in
    cc

pub one_schedule : OneSchedule
one_schedule p text xs ys one other =
    same_events xs ys (read_by p other.stations text)
    (ap (λ (s : List InterId). read_by p s text)
    (sym (one_stations p one.stations other.stations one.are other.are)) ∙ one.reads)
    other.reads

-- the fault of a line as one of a text
abbrev fault_of : LineFault → TraceFault
fault_of line_fault.Syntax = Syntax
fault_of line_fault.Unknown = Unknown

told_fault : (p : Planned) (stations : List InterId) (text : List ℕ) (n : ℕ) (fault : TraceFault)
    → IsTextFault (event_on p stations) text n fault → (fault ≢ Memory)
    → (line : LineFault) × (read_by p stations text ≡ Err (n, line)) × (fault ≡ fault_of line)
told_fault p stations text n Syntax is other = (line_fault.Syntax, is, refl)
told_fault p stations text n Unknown is other = (line_fault.Unknown, is, refl)
told_fault p stations text n Memory is other = absurd (other refl)

same_fault : (n k : ℕ) (x y : LineFault) (r : Reading) → r ≡ Err (n, x) → r ≡ Err (k, y) → (n ≡ k)
    × (x ≡ y)
same_fault n k x y r one other =
    let both : wrong_at n x ≡ wrong_at k y = sym one ∙ other in
    let parts : (n, x) ≡ (k, y) = cc in
    (ap (λ (at : ℕ × LineFault). at.0) parts, ap (λ (at : ℕ × LineFault). at.1) parts)

pub one_schedule_fault : OneScheduleFault
one_schedule_fault p text n k x y one other =
    let here = told_fault p one.0.stations text n x one.0.why one.1 in
    let there = told_fault p other.0.stations text k y other.0.why other.1 in
    let both = same_fault n k here.0 there.0 (read_by p other.0.stations text)
    (ap (λ (s : List InterId). read_by p s text)
    (sym (one_stations p one.0.stations other.0.stations one.0.are other.0.are)) ∙ here.1)
    there.1 in
    (both.0, here.2 ∙ (ap fault_of both.1 ∙ sym there.2))

never_both : (xs : List Event) (n : ℕ) (x : LineFault) (r : Reading) → r ≡ Ok xs → r ≡ Err (n, x)
    → ⊥
never_both xs n x r one other =
    let both : read_as xs ≡ wrong_at n x = sym one ∙ other in
    cc

pub not_both : EventsHaveNoFault
not_both p text events n fault is wrong =
    let there = told_fault p wrong.0.stations text n fault wrong.0.why wrong.1 in
    never_both events n there.0 (read_by p wrong.0.stations text)
    (ap (λ (s : List InterId). read_by p s text)
    (sym (one_stations p is.stations wrong.0.stations is.are wrong.0.are)) ∙ is.reads) there.1

pub events_or_fault : EventsOrFault
events_or_fault p text stations are = by_reading (read_by p stations text) refl
  where
    by_reading : (r : Reading) → read_by p stations text ≡ r
        → ((events : List Event) × IsEventText p text events)
        ⊎ ((n : ℕ) × (fault : TraceFault) × IsFault p text n fault)
    by_reading (Ok events) is = inl (events, record { stations = stations; are = are; reads = is })
    by_reading (Err (n, line_fault.Syntax)) is =
        inr (n, Syntax, (record { stations = stations; are = are; why = is }, λ same. cc))
    by_reading (Err (n, line_fault.Unknown)) is =
        inr (n, Unknown, (record { stations = stations; are = are; why = is }, λ same. cc))

-- Seeds.

table_alike : (w x : WorldContent) (word : ℕ) (e f : Event) → AreAlike w x
    → IsDrawn w.plan word (length w.mail) (in_flight w.bank.sharing) e
    → IsDrawn x.plan word (length x.mail) (in_flight x.bank.sharing) f → e ≡ f
table_alike w x word e f alike one other =
    let plan : w.plan ≡ x.plan = ap (λ (u : WorldContent). u.plan) alike in
    let flight : in_flight w.bank.sharing ≡ in_flight x.bank.sharing =
    ap (λ (u : WorldContent). in_flight u.bank.sharing) alike in
    let stations : one.stations ≡ other.stations =
    one_stations x.plan one.stations other.stations
    (subst (λ (p : Planned). AreStations p one.stations) plan one.are) other.are in
    one.drawn ∙ (rw (plan, flight, stations, same_lengths w x alike) refl ∙ sym other.drawn)

ways_alike : (w x : WorldContent) → AreAlike w x → MovesInOneWay w.bank.sharing
    → MovesInOneWay x.bank.sharing
ways_alike w x alike way =
    subst MovesInOneWay (ap (λ (u : WorldContent). u.bank.sharing) alike) way

drawn_alike : (by : Draw) (w x : WorldContent) (word : ℕ) (e f : Event) → AreAlike w x
    → MovesInOneWay w.bank.sharing → IsDrawnIn by w word e → IsDrawnIn by x word f → e ≡ f
drawn_alike Table w x word e f alike way one other = table_alike w x word e f alike one other
drawn_alike Busy w x word e f alike way one other =
    let there = ways_alike w x alike way in
    one_busy x there word e f (busy_alike w x word e alike (one way)) (other there)

-- where no word is an event, none is in a world that is alike
ends_alike : (by : Draw) (w x : WorldContent) (word : ℕ) (f : Event) → AreAlike w x
    → MovesInOneWay w.bank.sharing → EndsDraws by w → IsDrawnIn by x word f → ⊥
ends_alike Table w x word f alike way ends drawn = ends
ends_alike Busy w x word f alike way ends drawn =
    let there = ways_alike w x alike way in
    quiet_or_drawn x there word f (quiet_alike w x alike (ends way)) (drawn there)

abbrev one_done : Event → WorldContent → WorldContent → Type 0
one_done e v w = (did : Did) × AreSteps (e ∷ []) (Some did ∷ []) v w × (did.lost ≡ 0)

pub whole_before : (r : Report) (did : Option Did) → IsLossless (report_with r did) → IsLossless r
whole_before r did whole = record {
  done = omega (arith, whole.done);
  sent = omega (arith, whole.sent);
}

done_whole : (e : Event) (v w : WorldContent) (r later : Report) → IsEventCounted e v w r later
    → IsLossless later → one_done e v w × IsLossless r
done_whole e v w r later is whole = by_did is.did is.steps is.sums
  where
    by_did : (did : Option Did) → AreSteps (e ∷ []) (did ∷ []) v w → later ≡ report_with r did
        → one_done e v w × IsLossless r
    by_did None steps sums = absurd (let none = subst IsLossless sums whole in
        omega (arith, none.done))
    by_did (Some did) steps sums =
        let sent = subst IsLossless sums whole in
        ((did, steps, omega (arith, sent.sent)), whole_before r (Some did) sent)

abbrev AreOneDrawing : WorldContent → WorldContent → Lcg → Lcg → List Event → List Event → Type 0
AreOneDrawing v u ws xs es fs = AreAlike v u × MovesInOneWay v.bank.sharing × (ws ≡ xs) × (es ≡ fs)

once_more : (e f : Event) (v u next after : WorldContent) → e ≡ f → AreAlike v u
    → MovesInOneWay v.bank.sharing → one_done e v next → one_done f u after → AreAlike next after
    × MovesInOneWay next.bank.sharing
once_more e f v u next after same alike way one other =
    let there : AreSteps (e ∷ []) (Some other.0 ∷ []) u after =
    subst (λ (x : Event). AreSteps (x ∷ []) (Some other.0 ∷ []) u after) (sym same) other.1 in
    let once = step_once v u one.1.0 there.0 e one.0 other.0 alike way one.1.1 there.1 one.2
    other.2 in (
      subst (λ (y : WorldContent). AreAlike y after) (sym one.1.2) (subst (λ (y : WorldContent).
          AreAlike one.1.0 y) (sym there.2) once.1),
      subst (λ (y : WorldContent). MovesInOneWay y.bank.sharing) (sym one.1.2) once.2,
    )

same_ends : (xs ys : List Event) (e f : Event) → length (xs ++ e ∷ []) ≡ length (ys ++ f ∷ [])
    → length xs ≡ length ys
same_ends xs ys e f same = omega (arith, same, length-append xs (e ∷ []), length-append ys (f ∷ []))

not_ended : (xs : List Event) (e : Event) → length (xs ++ e ∷ []) ≡ 0 → ⊥
not_ended xs e none = omega (arith, none, length-append xs (e ∷ []))

drawn_once : (by : Draw) (start : Lcg) (w x : WorldContent) (es fs : List Event)
    (v u : WorldContent)
    (ws xs : Lcg) (r s : Report) → AreAlike w x → MovesInOneWay w.bank.sharing
    → AreDrawn by start w es v ws r → AreDrawn by start x fs u xs s → length es ≡ length fs
    → IsLossless r
    → IsLossless s
    → AreOneDrawing v u ws xs es fs
drawn_once by start w x _ _ _ _ _ _ _ _ alike way none_drawn none_drawn same whole so =
    (alike, way, refl, refl)
drawn_once by start w x _ _ _ _ _ _ _ _ alike way none_drawn
    (one_drawn fs u xs s f after t drawn is counted) same whole so =
    absurd (not_ended fs f (sym same))
drawn_once by start w x _ _ _ _ _ _ _ _ alike way
    (one_drawn es v ws r e next later drawn is counted) none_drawn same whole so =
    absurd (not_ended es e same)
drawn_once by start w x _ _ _ _ _ _ _ _ alike way
    (one_drawn es v ws r e next later drawn is counted)
    (one_drawn fs u xs s f after t drew was count) same whole so =
    let here = done_whole e v next r later counted whole in
    let there = done_whole f u after s t count so in
    let before = drawn_once by start w x es fs v u ws xs r s alike way drawn drew
    (same_ends es fs e f same) here.1 there.1 in
    let event : e ≡ f = drawn_alike by v u (pcg32 xs).0 e f before.0 before.1
    (subst (λ (words : Lcg). IsDrawnIn by v (pcg32 words).0 e) before.2 is) was in
    let once = once_more e f v u next after event before.0 before.1 here.0 there.0 in (
      once.0,
      once.1,
      ap (λ (words : Lcg). (pcg32 words).1) before.2,
      ap (λ (ds : List Event). ds ++ e ∷ []) before.3 ∙ ap (λ (d : Event). fs ++ d ∷ []) event,
    )

-- of more events the first so many were drawn, and one behind them
pub record AreDrawnOn (by : Draw) (start : Lcg) (w : WorldContent) (count : ℕ) : Type 0 where
  pub events : List Event
  pub world : WorldContent
  pub words : Lcg
  pub report : Report
  pub drawn : AreDrawn by start w events world words report
  pub each : length events ≡ count
  pub whole : IsLossless report
  pub next : Event
  pub on : IsDrawnIn by world (pcg32 words).0 next

first_drawn : (by : Draw) (start : Lcg) (w : WorldContent) (es : List Event) (v : WorldContent)
    (ws : Lcg) (r : Report) (count : ℕ) → AreDrawn by start w es v ws r → IsLossless r
    → count < length es → AreDrawnOn by start w count
first_drawn by start w _ _ _ _ count none_drawn whole more = absurd (omega (arith, more))
first_drawn by start w _ _ _ _ count
    (one_drawn es v ws r e next later drawn is counted) whole more =
    let before = done_whole e v next r later counted whole in
    elim (cases_lt count (length es)) [
      | inl inside ↦ first_drawn by start w es v ws r count drawn before.1 inside
      | inr past ↦ record {
        events = es;
        world = v;
        words = ws;
        report = r;
        drawn = drawn;
        each = omega (arith, past, more, length-append es (e ∷ []));
        whole = before.1;
        next = e;
        on = is;
      }
    ]

-- so none ends before the other
not_longer : (by : Draw) (start : Lcg) (w x : WorldContent) (es fs : List Event)
    (v u : WorldContent) (ws xs : Lcg) (r s : Report) → AreAlike w x → MovesInOneWay w.bank.sharing
    → AreDrawn by start w es v ws r → AreDrawn by start x fs u xs s → IsLossless r → IsLossless s
    → EndsDraws by v → length es < length fs → ⊥
not_longer by start w x es fs v u ws xs r s alike way drawn drew whole so ends longer =
    let on = first_drawn by start x fs u xs s (length es) drew so longer in
    let here = drawn_once by start w x es on.events v on.world ws on.words r on.report alike way
    drawn
    on.drawn (sym on.each) whole on.whole in
    ends_alike by v on.world (pcg32 on.words).0 on.next here.0 here.1 ends on.on

same_count : (draws : Draws) (start : Lcg) (w x : WorldContent) (es fs : List Event)
    (v u : WorldContent) (ws xs : Lcg) (r s : Report) → AreAlike w x → MovesInOneWay w.bank.sharing
    → AreDrawn draws.by start w es v ws r → AreDrawn draws.by start x fs u xs s → IsLossless r
    → IsLossless s → length es ≤ draws.count → length fs ≤ draws.count
    → (length es < draws.count → EndsDraws draws.by v)
    → (length fs < draws.count → EndsDraws draws.by u) → length es ≡ length fs
same_count draws start w x es fs v u ws xs r s alike way drawn drew whole so few also ends end =
    elim (cases_lt (length es) (length fs)) [
      | inl longer ↦ absurd (not_longer draws.by start w x es fs v u ws xs r s alike way drawn drew
          whole so (ends (omega (arith, longer, also))) longer)
      | inr past ↦ elim (cases_lt (length fs) (length es)) [
        | inl longer ↦ absurd (not_longer draws.by start x w fs es u v xs ws s r (sym alike)
            (ways_alike w x alike way) drew drawn so whole (end (omega
            (arith, longer, few))) longer)
        | inr here ↦ omega (arith, past, here)
      ]
    ]

-- a trace has one end
same_end : (A : Type 0) (a b : Bool) → (a ≡ true) ↔ A → (b ≡ true) ↔ A → a ≡ b
same_end A true b one other = sym (other.1 (one.0 refl))
same_end A false true one other = one.1 (other.0 refl)
same_end A false false one other = refl

abbrev came_to : Traced → Report → SeedRun
came_to traced report = record { traced = traced; report = report }

abbrev traced : ℕ → List Grant → Bool → Traced
traced seed grants is_stuck = record { seed = seed; grants = grants; is_stuck = is_stuck }

pub one_seed_trace : OneSeedTrace
one_seed_trace sharing p base draws seed m n way one other =
    let a = one.of_seed in
    let b = other.of_seed in
    let worlds : a.first ≡ b.first = one_new_world p base a.first b.first a.new b.new
    (a.shared ∙ sym b.shared) in
    let start = generator_of seed in
    let there : MovesInOneWay b.first.bank.sharing = subst MovesInOneWay (sym b.shared) way in
    let drew : AreDrawn draws.by start b.first a.events a.last a.seeded.words a.report =
    subst (λ (w : WorldContent). AreDrawn draws.by start w a.events a.last a.seeded.words a.report)
    worlds a.seeded.drawn in
    let whole : IsLossless a.report = subst IsLossless one.reported one.whole in
    let also : IsLossless b.report = subst IsLossless other.reported other.whole in
    let each = same_count draws start b.first b.first a.events b.events a.last b.last a.seeded.words
    b.seeded.words a.report b.report refl there drew b.seeded.drawn whole also a.seeded.few
    b.seeded.few a.seeded.ended b.seeded.ended in
    let drawn = drawn_once draws.by start b.first b.first a.events b.events a.last b.last
    a.seeded.words b.seeded.words a.report b.report refl there drew b.seeded.drawn each whole also
    in
    let ran : IsRunOfEvents b.events b.first a.last a.report =
    subst (λ (w : WorldContent). IsRunOfEvents b.events w a.last a.report) worlds
    (subst (λ (es : List Event). IsRunOfEvents es a.first a.last a.report) drawn.3
    (seeded_run seed draws a.events a.first a.last a.report a.seeded)) in
    let same = one_run b.events b.first a.last b.last a.report b.report
    (subst MovesInOneWay (sym b.shared) way) ran
    (seeded_run seed draws b.events b.first b.last b.report b.seeded)
    (subst IsLossless one.reported one.whole) (subst IsLossless other.reported other.whole) in
    let report : m.report ≡ n.report = one.reported ∙ same.reports ∙ sym other.reported in
    let grants : m.traced.grants ≡ n.traced.grants = a.is ∙ same.traces ∙ sym b.is in
    let stuck : m.traced.is_stuck ≡ n.traced.is_stuck =
    same_end (NothingMayRun p.model (state_after p.model n.traced.grants)) m.traced.is_stuck
    n.traced.is_stuck
    (subst (λ (gs : List Grant).
    (m.traced.is_stuck ≡ true) ↔ NothingMayRun p.model (state_after p.model gs)) grants one.stuck)
    other.stuck in (
      drawn.3,
      ap (λ (s : ℕ). came_to (traced s m.traced.grants m.traced.is_stuck) m.report)
          (one.named ∙ sym other.named)
          ∙ (ap (λ (gs : List Grant). came_to (traced n.traced.seed gs m.traced.is_stuck) m.report)
          grants
          ∙ (ap (λ (b : Bool). came_to (traced n.traced.seed n.traced.grants b) m.report) stuck
          ∙ ap (came_to n.traced) report)),
    )
