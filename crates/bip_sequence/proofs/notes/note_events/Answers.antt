use Rattle.std.proofs.Common.{◌≡◌, ◌∙◌, ◌++◌, ◌∷◌, [], List, ap, arith, rules, subst, sym}
use Rattle.std.proofs.lemmas.List.{append-nil}
use Rattle.bip_core.specs.Worlds.{world_of}
use Rattle.bip_core.specs.declared.events.Event.{Event}
use Rattle.bip_schedule.proofs.ScheduleLemmas.{parts_next, room_next, spelled_next}
use Rattle.bip_sequence.proofs.RunLemmas.{all_noted, noted_count, noted_on}
use Rattle.bip_sequence.specs.Notes.{AreNoted, none_noted}
use Rattle.bip_sequence.proofs.notes.note_events.Goals as goal

pub loop-event-init : goal.loop-event-init
loop-event-init g c = record {
  done = [];
  dids = [];
  noted = none_noted;
  sums = c.empty-report.ensures.sums;
  adds_up = c.empty-report.ensures.adds_up;
  parts = search rules;
  plan = search rules;
  kept = search rules;
}

pub note_event-requires-clause-plan : goal.note_event-requires-clause-plan
note_event-requires-clause-plan g c =
    let so = c.loop-event.invariant in
    so.kept ∙ (c.requires.plan ∙ sym so.plan)

pub note_event-requires-clause-spelled : goal.note_event-requires-clause-spelled
note_event-requires-clause-spelled g c =
    let so = c.loop-event.invariant in
    spelled_next c.args.notes.now.plan c.loop-event.notes.plan c.args.events so.done
    c.loop-event.event-iterator c.next.new.self c.in-Some.event c.requires.spelled so.parts
    c.in-Some.ensures.steps so.kept

pub note_event-requires-clause-room : goal.note_event-requires-clause-room
note_event-requires-clause-room g c =
    let so = c.loop-event.invariant in
    let counted = noted_count so.noted so.sums in
    let room = room_next c.args.events so.done c.loop-event.event-iterator c.next.new.self
    c.in-Some.event c.loop-event.report.events so.parts c.in-Some.ensures.steps counted in
    omega (arith, room, c.requires.few)

pub note_event-requires-clause-adds_up : goal.note_event-requires-clause-adds_up
note_event-requires-clause-adds_up g c = c.loop-event.invariant.adds_up

pub loop-event-preserved : goal.loop-event-preserved
loop-event-preserved g c =
    let so = c.loop-event.invariant in
    let e = c.in-Some.event in
    let said = c.in_ok-note_event.ensures.noted in
    let on = noted_on so.noted so.sums said.1 said.2 in
    record {
      done = so.done ++ e ∷ [];
      dids = so.dids ++ said.0 ∷ [];
      noted = on.0;
      sums = on.1;
      adds_up = c.in_ok-note_event.ensures.adds_up;
      parts =
          parts_next c.args.events so.done c.loop-event.event-iterator c.next.new.self e so.parts
          c.in-Some.ensures.steps;
      plan = c.in_ok-note_event.ensures.plan ∙ so.plan;
      kept = c.in_ok-note_event.ensures.kept ∙ so.kept;
    }

pub returns-in_err-note_event-clause-plan : goal.returns-in_err-note_event-clause-plan
returns-in_err-note_event-clause-plan g c =
    c.in_err-note_event.ensures.plan ∙ c.loop-event.invariant.plan

pub returns-clause-noted : goal.returns-clause-noted
returns-clause-noted g c =
    let so = c.loop-event.invariant in
    let whole : so.done ≡ c.args.events =
    sym (append-nil so.done) ∙ (ap (λ (es : List Event). so.done ++ es)
    (sym c.in-None.ensures.steps.0) ∙ sym so.parts) in (
      so.dids,
      subst (λ (es : List Event).
          AreNoted (world_of c.args.world.now) c.args.notes.now es so.dids
          (world_of c.loop-event.world) c.loop-event.notes) whole so.noted,
      so.sums,
    )

pub returns-clause-run : goal.returns-clause-run
returns-clause-run g c =
    let so = c.loop-event.invariant in
    let whole : so.done ≡ c.args.events =
    sym (append-nil so.done) ∙ (ap (λ (es : List Event). so.done ++ es)
    (sym c.in-None.ensures.steps.0) ∙ sym so.parts) in
    all_noted so.noted so.sums whole

pub returns-clause-plan : goal.returns-clause-plan
returns-clause-plan g c = c.loop-event.invariant.plan
