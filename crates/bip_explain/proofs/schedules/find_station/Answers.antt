use Rattle.std.proofs.Common.{refl, ◌∙◌}
use Rattle.std.proofs.lemmas.List.Elements.{All-cons, All-nil}
use Rattle.bip_model.specs.Naming.{IsName}
use Rattle.bip_model.specs.Texts.{words}
use Rattle.bip_explain.specs.Schedules.{HasStation}
use Rattle.bip_explain.proofs.FrontLemmas.{NameStations, left_more, left_there, stations_more}
use Rattle.bip_explain.proofs.schedules.find_station.Goals as goal

pub loop-placed-init : goal.loop-placed-init
loop-placed-init c =
    let r = c.requires in
    rw c.into_iter-placed-iterator.ensures.into_iter_gives (record {
      line = refl;
      known = λ all. all;
      left = record { front = r.0; such = r.1; split = r.2 };
    })

pub returns-in-Some-reason_of_station-clause-some : goal.returns-in-Some-reason_of_station-clause-some
returns-in-Some-reason_of_station-clause-some c =
    let l = c.loop-placed in
    let step = rw l.invariant.line at c.in-Some.ensures.steps.1 in
    c.in-Some-reason_of_station.ensures.some c.args.left.line.now (
      step.1,
      left_there NameStations c.args.left.line.now c.in-Some.placed c.next.new.self.rest.now
          (words l.placed-iterator.rest.now) l.invariant.left step.0 step.1 step.2,
    )

pub loop-placed-preserved : goal.loop-placed-preserved
loop-placed-preserved c =
    let l = c.loop-placed in
    let one = c.in_default.ensures.none in
    record {
      line = c.in-Some.ensures.steps.0 ∙ l.invariant.line;
      known = λ all. l.invariant.known (rw c.in-Some.ensures.steps.1.0
          (All-cons (λ word. IsName word → HasStation c.args.plan.now word)
          c.in-Some.placed.word.now _ one all));
      left = left_more NameStations NameStations c.args.left.line.now c.in-Some.placed.word.now
          (words l.placed-iterator.rest.now) (words c.next.new.self.rest.now)
          (stations_more c.in-Some.placed.word.now) l.invariant.left c.in-Some.ensures.steps.1.0;
    }

pub returns-clause-none : goal.returns-clause-none
returns-clause-none c = c.loop-placed.invariant.known (rw c.in-None.ensures.steps.1.0 (All-nil _))
