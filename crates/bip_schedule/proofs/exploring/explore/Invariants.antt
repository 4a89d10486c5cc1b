use Rattle.bip_schedule.specs.Exploring.{AreSeedFigures, IsSharedBy}
use Rattle.bip_schedule.proofs.exploring.explore.Given as goal

abbrev pub invariant-loop-done : goal.invariant-loop-done
invariant-loop-done g l =
    AreSeedFigures (IsSharedBy g.B.Bank.kept (g.F.Fn.post l.make tt)) l.plan l.base l.draws 1 l.done
    l.all
