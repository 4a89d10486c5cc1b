-- Events that are drawn, as runs of events.
use Rattle.std.proofs.Common.{◌≡◌, ◌∙◌, ℕ, List, [], ◌++◌, ◌∷◌, ◌+◌, ◌≤◌, length, refl, ap, arith}
use Rattle.std.proofs.Common.{subst, sym}
use Rattle.std.proofs.lemmas.List.{length-append}
use Rattle.std.proofs.lemmas.List.Sums.{count_by-le-length}
use Rattle.rand_pcg.specs.Lcg.{Lcg}
use Rattle.rand_pcg.specs.Pcg.{pcg32}
use Rattle.bip_model.specs.declared.grants.Grant.{Grant}
use Rattle.bip_core.specs.Runs.{AddsUp, IsEventCounted, IsRunOfEvents, did_so, is_grant, report_of}
use Rattle.bip_core.specs.Worlds.{WorldContent}
use Rattle.bip_core.specs.declared.events.Event.{Event}
use Rattle.bip_core.specs.declared.runs.Report.{Report}
use Rattle.bip_core.proofs.RunLemmas.{events_counted, no_steps, run_more, steps_grow, steps_length}
use Rattle.bip_core.specs.Laws.{KeepsThePlan}
use Rattle.bip_core.proofs.KeepLemmas.{worlds_keep_their_plan}
use Rattle.bip_model.specs.declared.parts.System.{System}
use Rattle.bip_replay.specs.Runs.{IsModelRun, state_after, used_after}
use Rattle.bip_replay.proofs.RunLemmas.{next_at, not_next}
use Rattle.bip_walk.specs.Chance.{generator_of}
use Rattle.bip_schedule.specs.Exploring.{IsCheckFault}
use Rattle.bip_schedule.specs.declared.exploring.ExploreFault.{ExploreFault}
use Rattle.bip_schedule.specs.declared.exploring.ExploreFault.TheVariants.{Memory, NotARun}
use Rattle.bip_schedule.specs.Seeding.{AreDrawn, AreSeeded, EndsDraws, IsDrawnIn, none_drawn}
use Rattle.bip_schedule.specs.Seeding.{one_drawn}
use Rattle.bip_schedule.specs.declared.drawing.Draw.{Draw}
use Rattle.bip_schedule.specs.declared.drawing.Draws.{Draws}

-- what is drawn is a run of events
drawn_run : (by : Draw) (start : Lcg) (w : WorldContent) (es : List Event) (v : WorldContent)
    (words : Lcg)
    (report : Report)
    → AreDrawn by start w es v words report → IsRunOfEvents es w v report
drawn_run by start w es v words report none_drawn = no_steps w (report_of []) refl
drawn_run by start w es v words report
    (one_drawn before u g earlier e next later drawn is counted) =
    run_more before w u next earlier later e (drawn_run by start w before u g earlier drawn) counted

-- so many events are drawn by a generator, and lead here
pub record IsDrawing (by : Draw) (start : Lcg) (w : WorldContent) (events : List Event)
    (v : WorldContent)
    (words : Lcg) (report : Report) (count : ℕ) : Type 0 where
  pub drawn : AreDrawn by start w events v words report
  pub each : length events ≡ count
  pub adds_up : AddsUp report

pub drawing_none : (by : Draw) (start : Lcg) (w : WorldContent) (words : Lcg) (report : Report)
    → words ≡ start → report ≡ report_of [] → AddsUp report
    → IsDrawing by start w [] w words report 0
drawing_none by start w words report first is adds_up = record {
  drawn = subst (λ (g : Lcg). AreDrawn by start w [] w g report) (sym first)
      (subst (λ (r : Report). AreDrawn by start w [] w start r) (sym is) none_drawn);
  each = refl;
  adds_up = adds_up;
}

pub drawing_more : (by : Draw) (start : Lcg) (w : WorldContent) (es : List Event)
    (v x : WorldContent)
    (words more : Lcg) (report later : Report) (count : ℕ) (e : Event)
    → IsDrawing by start w es v words report count → IsDrawnIn by v (pcg32 words).0 e
    → more ≡ (pcg32 words).1 → IsEventCounted e v x report later → AddsUp later
    → IsDrawing by start w (es ++ e ∷ []) x more later (count + 1)
drawing_more by start w es v x words more report later count e so drawn word counted adds_up =
    record {
      drawn = subst (λ (g : Lcg). AreDrawn by start w (es ++ e ∷ []) x g later) (sym word)
          (one_drawn es v words report e x later so.drawn drawn counted);
      each = length-append es (e ∷ []) ∙ ap (λ (n : ℕ). n + 1) so.each;
      adds_up = adds_up;
    }

pub drawing_run : (by : Draw) (start : Lcg) (w : WorldContent) (es : List Event) (v : WorldContent)
    (words : Lcg) (report : Report) (count : ℕ)
    → IsDrawing by start w es v words report count → IsRunOfEvents es w v report
drawing_run by start w es v words report count so = drawn_run by start w es v words report so.drawn

-- their report counts them
pub drawing_counted : (by : Draw) (start : Lcg) (w : WorldContent) (es : List Event)
    (v : WorldContent)
    (words : Lcg) (report : Report) (count : ℕ)
    → IsDrawing by start w es v words report count → report.events ≡ count
drawing_counted by start w es v words report count so =
    events_counted es w v report (drawing_run by start w es v words report count so) ∙ so.each

-- and they keep the plan
pub drawing_keeps : (by : Draw) (start : Lcg) (w : WorldContent) (es : List Event)
    (v : WorldContent)
    (words : Lcg) (report : Report) (count : ℕ)
    → IsDrawing by start w es v words report count → v.plan ≡ w.plan
drawing_keeps by start w es v words report count so =
    let run = drawing_run by start w es v words report count so in
    (worlds_keep_their_plan w v es run.dids run.steps).plan

-- all that were asked for are drawn from a seed
pub seeded_whole : (seed : ℕ) (draws : Draws) (es : List Event) (w v : WorldContent) (words : Lcg)
    (report : Report) (count : ℕ)
    → IsDrawing draws.by (generator_of seed) w es v words report count → count ≡ draws.count
    → AreSeeded seed draws es w v report
seeded_whole seed draws es w v words report count so all = record {
  words = words;
  drawn = so.drawn;
  few = omega (arith, so.each, all);
  ended = λ fewer. absurd (omega (arith, so.each, all, fewer));
}

-- or fewer, where no word is one
pub seeded_ended : (seed : ℕ) (draws : Draws) (es : List Event) (w v : WorldContent) (words : Lcg)
    (report : Report) (count : ℕ)
    → IsDrawing draws.by (generator_of seed) w es v words report count → count ≤ draws.count
    → EndsDraws draws.by v → AreSeeded seed draws es w v report
seeded_ended seed draws es w v words report count so few ends = record {
  words = words;
  drawn = so.drawn;
  few = omega (arith, so.each, few);
  ended = λ fewer. ends;
}

-- and so is what is drawn from a seed
pub seeded_run : (seed : ℕ) (draws : Draws) (es : List Event) (w v : WorldContent) (report : Report)
    → AreSeeded seed draws es w v report → IsRunOfEvents es w v report
seeded_run seed draws es w v report so = drawn_run _ _ w es v so.words report so.drawn

-- a trace has no more grants than there are events
pub seeded_few : (seed : ℕ) (draws : Draws) (es : List Event) (w v : WorldContent) (report : Report)
    → AreSeeded seed draws es w v report → w.trace ≡ [] → length v.trace ≤ draws.count
seeded_few seed draws es w v report so fresh =
    let run = drawn_run _ _ w es v so.words report so.drawn in
    let grown = steps_grow es run.dids w v run.steps in
    let few = count_by-le-length (did_so is_grant) run.dids in
    let each = steps_length es run.dids w v run.steps in
    let whole : v.trace ≡ grown.0 = grown.1 ∙ ap (λ (t : List Grant). t ++ grown.0) fresh in
    let counted = ap (λ (t : List Grant). length t) whole in
    omega (arith, few, each, counted, grown.2, so.few)

-- what is drawn keeps the plan, and the bank's base
pub seeded_keeps : (seed : ℕ) (draws : Draws) (es : List Event) (w v : WorldContent)
    (report : Report)
    → AreSeeded seed draws es w v report → KeepsThePlan w v
seeded_keeps seed draws es w v report so =
    let run = drawn_run _ _ w es v so.words report so.drawn in
    worlds_keep_their_plan w v es run.dids run.steps

-- of a run the check finds no fault
pub run_checks : (m : System) (base seed : ℕ) (trace : List Grant) (fault : ExploreFault)
    → IsModelRun m base trace → IsCheckFault m base seed trace fault → fault ≡ Memory
run_checks m base seed trace Memory run is = refl
run_checks m base seed trace (NotARun number why) run (same, is) =
    absurd (not_next m (state_after m is.front) (used_after base is.front) is.grant why is.why
    (next_at m base is.front is.rest is.grant (subst (IsModelRun m base) is.whole run)))
