use Rattle.std.proofs.Common.{sym, ◌∙◌}
use Rattle.bip_replay.proofs.ReadingLemmas.{first_line-fault, first_line-reads}
use Rattle.bip_replay.proofs.replays.told_without_memory.Goals as goal

pub returns-in-Err : goal.returns-in-Err
returns-in-Err c = λ base. rw c.from.ensures (first_line-fault _ base _ c.in-Some.line.now _ _
    c.in-Err.fault (sym c.of.ensures ∙ c.in-Some.ensures.steps) (sym c.in-Err.ensures))

pub returns-in-Ok : goal.returns-in-Ok
returns-in-Ok c = λ base. first_line-reads c.args.model.now base _ c.in-Some.line.now _ _ _
    (sym c.of.ensures ∙ c.in-Some.ensures.steps) (sym c.in-Ok.ensures)
