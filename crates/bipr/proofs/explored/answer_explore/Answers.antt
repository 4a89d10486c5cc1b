use Rattle.std.proofs.Common.{◌≡◌, ◌∙◌, ◌+◌, ◌++◌, ◌≤◌, ℕ, [], Err, Result, ap, arith, length}
use Rattle.std.proofs.Common.{subst, sym}
use Rattle.bip_model.specs.declared.parts.System.{System}
use Rattle.bip_schedule.specs.Exploring.{AreSeedFigures, seed_figures}
use Rattle.bipr.specs.Explored.{IsExploreAnswer, IsProgressUntil, ends_without_memory, no_progress}
use Rattle.bipr.specs.Explored.{stop_of_fault}
use Rattle.bipr.specs.Resolvers.{IsSharedAtFirst}
use Rattle.bipr.specs.Streams.{none_put, texts}
use Rattle.bip_answers.specs.declared.answers.Answer.{Answer}
use Rattle.bipr.specs.declared.stops.Stop.{Stop}
use Rattle.bipr.proofs.AheadLemmas.{explored_until, none_ahead, none_explored}
use Rattle.bipr.proofs.EndingLemmas.{outcome_answered, outcome_lacking}
use Rattle.bipr.proofs.ExploredLemmas.{explored_said, told_more}
use Rattle.bipr.proofs.StreamLemmas.{puts_each_append, texts_append}
use Rattle.bipr.proofs.explored.answer_explore.Goals as goal

pub loop-done-init : goal.loop-done-init
loop-done-init g c =
    let none = none_explored c.args.plan.now c.args.asked.now 0 c.none-all.result
    (c.none-all.ensures
    ∙ ap (λ (m : System). seed_figures (length m.interactions) []) c.model.ensures) in (
      none.0,
      ([], none_put, no_progress),
      none_ahead c.args.plan.now c.args.asked.now c.nothing-ahead.result
          c.nothing-ahead.ensures.none c.nothing-ahead.ensures.sized c.nothing-ahead.ensures.first
          (rw c.nothing-ahead.ensures.last (omega arith)),
      omega arith,
      rw none.1 (omega arith),
    )

pub loop-done-preserved : goal.loop-done-preserved
loop-done-preserved g c =
    let writes = g.E.Stream.writes in
    let so = c.loop-done.invariant in
    let before = so.1 in
    let more = c.in_ok-tell.ensures.ok in
    let further = c.in_default.ensures.further in (
      c.in_default.ensures.explored,
      (
        before.0 ++ more.0,
        puts_each_append writes c.args.errors.now c.loop-done.errors c.tell.new.errors _ _ before.1
            more.1,
        subst (IsProgressUntil c.args.asked.now (c.loop-done.done + 1))
            (sym (texts_append before.0 more.0))
            (told_more c.args.asked.now c.loop-done.done _ _ before.2 more.2),
      ),
      c.keep_ahead.ensures.ahead,
      omega (arith, further),
      c.in_default.ensures.kept so.4,
    )

pub returns-in-Err : goal.returns-in-Err
returns-in-Err g c =
    let so = c.loop-done.invariant in
    let few : c.loop-done.done ≤ c.args.asked.now.seeds = omega arith in
    let front = explored_until c.args.plan.now c.args.asked.now c.loop-done.done c.loop-done.all
    so.0 so.3 in
    let given : Result Answer Stop = Err c.stop_of_fault.result in
    record {
      told = so.1.0;
      on_the_way = so.1.1;
      outcomes =
          outcome_lacking given (IsExploreAnswer c.args.plan.now c.args.asked.now so.1.0)
          (c.stop_of_fault.ensures ∙ ap stop_of_fault c.in-Err.ensures.fault)
          (ends_without_memory c.loop-done.done front.0 so.1.0 few front.1 so.1.2);
    }

pub returns-in_err-tell : goal.returns-in_err-tell
returns-in_err-tell g c =
    let so = c.loop-done.invariant in
    let few : c.loop-done.done ≤ c.args.asked.now.seeds = omega arith in
    let front = explored_until c.args.plan.now c.args.asked.now c.loop-done.done c.loop-done.all
    so.0 so.3 in
    record {
      told = so.1.0;
      on_the_way = rw c.in_err-tell.ensures.err so.1.1;
      outcomes =
          outcome_lacking c.from_residual.result
          (IsExploreAnswer c.args.plan.now c.args.asked.now so.1.0) c.from_residual.ensures.1
          (ends_without_memory c.loop-done.done front.0 so.1.0 few front.1 so.1.2);
    }

pub returns-in_err-answer_checked : goal.returns-in_err-answer_checked
returns-in_err-answer_checked g c =
    let so = c.loop-done.invariant in
    let few : c.loop-done.done ≤ c.args.asked.now.seeds = omega arith in
    let front = explored_until c.args.plan.now c.args.asked.now c.loop-done.done c.loop-done.all
    so.0 so.3 in
    record {
      told = so.1.0;
      on_the_way = so.1.1;
      outcomes =
          outcome_lacking c.from_residual-in_err-answer_checked.result
          (IsExploreAnswer c.args.plan.now c.args.asked.now so.1.0)
          c.from_residual-in_err-answer_checked.ensures.1
          (ends_without_memory c.loop-done.done front.0 so.1.0 few front.1 so.1.2);
    }

pub returns : goal.returns
returns g c =
    let p = c.args.plan.now in
    let asked = c.args.asked.now in
    let so = c.loop-done.invariant in
    let done : c.loop-done.done ≡ asked.seeds = omega (arith, c.loop-done-test.false) in
    let all : c.loop-done.all.tally.traces ≡ asked.seeds = omega (arith, done, so.3, so.4) in
    record {
      told = so.1.0;
      on_the_way = so.1.1;
      outcomes =
          outcome_answered (IsExploreAnswer p asked so.1.0) _
          (explored_said p asked c.loop-done.all so.1.0 _
          (subst (λ (n : ℕ). AreSeedFigures (IsSharedAtFirst asked.resolver p) p 0 asked.draws 1 n
          c.loop-done.all) all so.0)
          (subst (λ (n : ℕ). IsProgressUntil asked n (texts so.1.0)) done so.1.2)
          c.in_ok-answer_checked.ensures);
    }
