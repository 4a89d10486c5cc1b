use Rattle.std.proofs.Common.{◌≡◌, ◌∙◌, ◌+◌, ◌++◌, ◌∷◌, [], Bool, List, Option, ℕ, ap, arith}
use Rattle.std.proofs.Common.{false, refl, rules, subst, sym, true}
use Rattle.std.proofs.lemmas.List.{append-nil}
use Rattle.std.proofs.lemmas.List.Elements.{All-cons, All-nil}
use Rattle.bip_core.specs.Worlds.{WorldContent, world_of}
use Rattle.bip_core.specs.declared.events.Did.{Did}
use Rattle.bip_core.specs.declared.events.Event.{Event}
use Rattle.bip_tell.specs.Lines.{AreTold, AreToldFrom, first_lines, none_told}
use Rattle.bipr.specs.Scheduled.{all_told, nothing_told, one_unheard, some_told}
use Rattle.bipr.specs.Streams.{AreOut, Put, Puts, PutsEach, none_put, one_put, texts}
use Rattle.bipr.proofs.StreamLemmas.{puts_each_append, puts_each_one}
use Rattle.bip_schedule.proofs.ScheduleLemmas.{parts_next, room_next, spelled_next}
use Rattle.bipr.proofs.TellingLemmas.{err_telling, next_untold, out_more, told_count, told_on}
use Rattle.bipr.proofs.scheduled.tell_events.Goals as goal

-- what is told at first
abbrev begins : WorldContent → Bool → Put
begins w is_out = record { text = first_lines w.plan w.mail; is_out = is_out }

told_from : (w v : WorldContent) (es : List Event) (ds : List (Option Did)) (told : List Put)
    (is_out : Bool) → AreTold w es ds (texts told) v
    → AreToldFrom w es ds (texts (begins w is_out ∷ told)) v
told_from w v es ds told is_out lines =
    record { lines = texts told; begun = refl; each = lines }

all_out : (w : WorldContent) (told : List Put) → AreOut told → AreOut (begins w true ∷ told)
all_out w told heard = All-cons (λ (x : Put). x.is_out ≡ true) (begins w true) told refl heard

-- it is put before what is told on the way
put_first : {S : Type 0} (writes : S → List ℕ → Bool → S → Type 0) (before middle after : S)
    (w : WorldContent) (is_out : Bool) (told : List Put) → is_out ≡ true
    → Puts writes before middle (first_lines w.plan w.mail) is_out
    → PutsEach writes middle told after → PutsEach writes before (begins w true ∷ told) after
put_first writes before middle after w is_out told out first rest =
    puts_each_append writes before middle after (begins w true ∷ []) told
    (puts_each_one writes before middle (first_lines w.plan w.mail) true
    (subst (Puts writes before middle (first_lines w.plan w.mail)) out first)) rest

pub returns-in_err-tell_beginning-clause-told : goal.returns-in_err-tell_beginning-clause-told
returns-in_err-tell_beginning-clause-told g c = (
  [],
  rw c.in_err-tell_beginning.ensures.err none_put,
  err_telling c.from_residual.result (search rules) (λ e. nothing_told e refl refl),
)

pub returns-then-not-branch-clause-told : goal.returns-then-not-branch-clause-told
returns-then-not-branch-clause-told g c =
    let w = world_of c.args.world.now in (
      begins w false ∷ [],
      puts_each_one g.E.Stream.writes c.args.errors.now c.tell_beginning.new.errors
          (first_lines w.plan w.mail) false
          (rw c.if-not-branch.true at c.in_ok-tell_beginning.ensures.told),
      one_unheard [] c.args.events [] refl (told_from w w [] [] [] false none_told)
          (record {
            front = [];
            text = first_lines w.plan w.mail;
            heard = All-nil (λ (x : Put). x.is_out ≡ true);
            whole = refl;
          }),
    )

pub loop-event-init : goal.loop-event-init
loop-event-init g c = record {
  so =
      record {
        done = [];
        dids = [];
        told = [];
        puts = none_put;
        lines = none_told;
        heard = All-nil (λ (x : Put). x.is_out ≡ true);
        sums = c.empty-report.ensures.sums;
        adds_up = c.empty-report.ensures.adds_up;
        parts = search rules;
      };
  plan = refl;
}

pub tell_event-requires-clause-spelled : goal.tell_event-requires-clause-spelled
tell_event-requires-clause-spelled g c =
    let so = c.loop-event.invariant.so in
    spelled_next c.args.world.now.plan c.loop-event.world.plan c.args.events so.done
    c.loop-event.event-iterator c.next.new.self c.in-Some.event c.requires.spelled so.parts
    c.in-Some.ensures.steps c.loop-event.invariant.plan

pub tell_event-requires-clause-room : goal.tell_event-requires-clause-room
tell_event-requires-clause-room g c =
    let so = c.loop-event.invariant.so in
    let counted =
    told_count (world_of c.args.world.now) (world_of c.loop-event.world) so.done so.dids
    (texts so.told) c.loop-event.report so.lines so.sums in
    let room = room_next c.args.events so.done c.loop-event.event-iterator c.next.new.self
    c.in-Some.event c.loop-event.report.events so.parts c.in-Some.ensures.steps counted in
    omega (arith, room, c.requires.few)

pub tell_event-requires-clause-adds_up : goal.tell_event-requires-clause-adds_up
tell_event-requires-clause-adds_up g c = c.loop-event.invariant.so.adds_up

pub returns-in_err-tell_event-clause-plan : goal.returns-in_err-tell_event-clause-plan
returns-in_err-tell_event-clause-plan g c =
    c.in_err-tell_event.ensures.plan ∙ c.loop-event.invariant.plan

pub returns-in_err-tell_event-clause-told : goal.returns-in_err-tell_event-clause-told
returns-in_err-tell_event-clause-told g c =
    let so = c.loop-event.invariant.so in
    let left =
    next_untold c.loop-event.event-iterator c.next.new.self c.in-Some.event
    (world_of c.loop-event.world) (world_of c.tell_event.new.world) _ _ c.in-Some.ensures.steps
    c.in_err-tell_event.ensures.untold in (
      begins (world_of c.args.world.now) true ∷ so.told,
      put_first g.E.Stream.writes c.args.errors.now c.tell_beginning.new.errors _
          (world_of c.args.world.now) _ so.told c.if-not-branch.false
          c.in_ok-tell_beginning.ensures.told so.puts,
      err_telling c.from_residual-in_err-tell_event.result (search rules)
          (λ e. some_told so.done c.loop-event.event-iterator so.dids (world_of c.loop-event.world)
          e so.parts (told_from _ _ _ _ so.told true so.lines)
          (all_out (world_of c.args.world.now) so.told so.heard) left),
    )

pub returns-then-not-put-clause-plan : goal.returns-then-not-put-clause-plan
returns-then-not-put-clause-plan g c =
    c.in_ok-tell_event.ensures.plan ∙ c.loop-event.invariant.plan

pub returns-then-not-put-clause-told : goal.returns-then-not-put-clause-told
returns-then-not-put-clause-told g c =
    let so = c.loop-event.invariant.so in
    let e = c.in-Some.event in
    let said = c.in_ok-tell_event.ensures.told in
    let line = said.1 in
    let spelled : c.as_slice.result.now ≡ line =
    c.as_slice.ensures.value ∙ (said.3 ∙ ap (λ (t : List ℕ). t ++ line) c.clear.ensures.items) in
    let out : c.put.result ≡ false = search rules in
    let on =
    told_on (world_of c.args.world.now) (world_of c.loop-event.world)
    (world_of c.tell_event.new.world) so.done so.dids so.told c.loop-event.report
    c.tell_event.new.report e said.0 line false so.lines so.sums said.2 said.4 in (
      begins (world_of c.args.world.now) true ∷ so.told
          ++ record { text = line; is_out = false } ∷ [],
      put_first g.E.Stream.writes c.args.errors.now c.tell_beginning.new.errors _
          (world_of c.args.world.now) _ (so.told ++ record { text = line; is_out = false } ∷ [])
          c.if-not-branch.false c.in_ok-tell_beginning.ensures.told
          (one_put so.told (record { text = line; is_out = false }) c.loop-event.errors
          c.put.new.stream so.puts
          (subst (λ (t : List ℕ).
          Puts g.E.Stream.writes c.loop-event.errors c.put.new.stream t false) spelled
          (rw out at c.put.ensures))),
      one_unheard (so.done ++ e ∷ []) c.next.new.self _
          (parts_next c.args.events so.done c.loop-event.event-iterator c.next.new.self e so.parts
          c.in-Some.ensures.steps)
          (told_from _ _ _ _ (so.told ++ record { text = line; is_out = false } ∷ []) true on.0)
          (record {
            front = begins (world_of c.args.world.now) true ∷ so.told;
            text = line;
            heard = all_out (world_of c.args.world.now) so.told so.heard;
            whole = refl;
          }),
    )

pub loop-event-preserved : goal.loop-event-preserved
loop-event-preserved g c =
    let so = c.loop-event.invariant.so in
    let e = c.in-Some.event in
    let said = c.in_ok-tell_event.ensures.told in
    let line = said.1 in
    let spelled : c.as_slice.result.now ≡ line =
    c.as_slice.ensures.value ∙ (said.3 ∙ ap (λ (t : List ℕ). t ++ line) c.clear.ensures.items) in
    let out : c.put.result ≡ true = search rules in
    let on =
    told_on (world_of c.args.world.now) (world_of c.loop-event.world)
    (world_of c.tell_event.new.world) so.done so.dids so.told c.loop-event.report
    c.tell_event.new.report e said.0 line true so.lines so.sums said.2 said.4 in
    record {
      so =
          record {
            done = so.done ++ e ∷ [];
            dids = so.dids ++ said.0 ∷ [];
            told = so.told ++ record { text = line; is_out = true } ∷ [];
            puts =
                one_put so.told (record { text = line; is_out = true }) c.loop-event.errors
                c.put.new.stream so.puts
                (subst (λ (t : List ℕ).
                Puts g.E.Stream.writes c.loop-event.errors c.put.new.stream t true) spelled
                (rw out at c.put.ensures));
            lines = on.0;
            heard = out_more so.told (record { text = line; is_out = true }) so.heard refl;
            sums = on.1;
            adds_up = c.in_ok-tell_event.ensures.adds_up;
            parts =
                parts_next c.args.events so.done c.loop-event.event-iterator c.next.new.self e
                so.parts c.in-Some.ensures.steps;
          };
      plan = c.in_ok-tell_event.ensures.plan ∙ c.loop-event.invariant.plan;
    }

pub returns-clause-plan : goal.returns-clause-plan
returns-clause-plan g c = c.loop-event.invariant.plan

pub returns-clause-told : goal.returns-clause-told
returns-clause-told g c =
    let so = c.loop-event.invariant.so in
    let whole : so.done ≡ c.args.events =
    sym (append-nil so.done) ∙ (ap (λ (es : List Event). so.done ++ es)
    (sym c.in-None.ensures.steps.0) ∙ sym so.parts) in (
      begins (world_of c.args.world.now) true ∷ so.told,
      put_first g.E.Stream.writes c.args.errors.now c.tell_beginning.new.errors _
          (world_of c.args.world.now) _ so.told c.if-not-branch.false
          c.in_ok-tell_beginning.ensures.told so.puts,
      all_told so.dids c.loop-event.report
          (told_from _ _ _ _ so.told true (subst (λ (es : List Event).
          AreTold (world_of c.args.world.now) es so.dids (texts so.told)
          (world_of c.loop-event.world)) whole so.lines))
          (all_out (world_of c.args.world.now) so.told so.heard) so.sums,
    )
