use Rattle.std.proofs.Common.{◌∙◌, [], ℕ, List, subst, sym}
use Rattle.bipr.specs.Explored.{by_time}
use Rattle.bipr.specs.Streams.{Puts, none_put}
use Rattle.bipr.proofs.ExploredLemmas.{untold_yet}
use Rattle.bipr.proofs.StreamLemmas.{puts_each_one}
use Rattle.bipr.proofs.progress.Progress.tell_time.Goals as goal

pub returns-then-saturating_sub-le-QUIET : goal.returns-then-saturating_sub-le-QUIET
returns-then-saturating_sub-le-QUIET g c =
    ([], none_put, untold_yet c.args.asked.now c.args.done c.requires.told (sym c.requires.between))

pub returns-in-Ok : goal.returns-in-Ok
returns-in-Ok g c =
    let writes = g.E.Stream.writes in
    let text = rw (c.from.ensures, c.from-2.ensures) at c.in-Ok.ensures in (
      _,
      puts_each_one writes c.args.errors.now c.put.new.stream _ c.put.result
          (subst (λ (put : List ℕ). Puts writes c.args.errors.now c.put.new.stream put c.put.result)
          (c.as_slice.ensures.value ∙ text) c.put.ensures),
      by_time c.pace_of-pace.result.rate c.pace_of-pace.result.left c.requires.told
          c.requires.between,
    )

pub returns-in_default : goal.returns-in_default
returns-in_default g c =
    ([], none_put, untold_yet c.args.asked.now c.args.done c.requires.told (sym c.requires.between))
