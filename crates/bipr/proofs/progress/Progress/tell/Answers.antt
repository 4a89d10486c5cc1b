use Rattle.std.proofs.Common.{◌∙◌, [], ℕ, List, subst}
use Rattle.bipr.specs.Streams.{Puts, none_put}
use Rattle.bipr.proofs.ExploredLemmas.{told_here, untold, untold_yet}
use Rattle.bipr.proofs.StreamLemmas.{puts_each_one}
use Rattle.bipr.proofs.progress.Progress.tell.Goals as goal

pub returns-then-not-asked-clause-ok : goal.returns-then-not-asked-clause-ok
returns-then-not-asked-clause-ok g c =
    ([], none_put, untold c.args.asked.now c.args.done c.if-not-asked.true)

pub returns-in_ok-text-clause-ok : goal.returns-in_ok-text-clause-ok
returns-in_ok-text-clause-ok g c =
    let writes = g.E.Stream.writes in (
      _,
      puts_each_one writes c.args.errors.now c.put.new.stream _ c.put.result
          (subst (λ (text : List ℕ).
          Puts writes c.args.errors.now c.put.new.stream text c.put.result)
          (c.as_slice.ensures.value ∙ c.in_ok-text.ensures) c.put.ensures),
      told_here c.args.asked.now c.args.done c.if-not-asked.false c.if-ends_hundredth.ensures,
    )

pub returns-else-is_next_open-clause-ok : goal.returns-else-is_next_open-clause-ok
returns-else-is_next_open-clause-ok g c = (
  [],
  none_put,
  untold_yet c.args.asked.now c.args.done c.if-not-asked.false c.if-ends_hundredth.ensures,
)
