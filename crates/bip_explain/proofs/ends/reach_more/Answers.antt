use Rattle.std.proofs.Common.{arith}
use Rattle.std.specs.Prelude.{IfSome}
use Rattle.std.proofs.lemmas.List.Elements.{All-push}
use Rattle.bip_explain.specs.Ends.{IsPathFrom}
use Rattle.bip_explain.proofs.ends.reach_more.Goals as goal
use Rattle.bip_explain.proofs.ends.reach_more.Goals.{in-Some+in_ok-push, in_default}

pub returns-in_err-push : goal.returns-in_err-push
returns-in_err-push c = λ text said all.
    rw c.in_err-push.ensures.items (c.loop-priority.invariant text said all)

pub loop-priority-preserved : goal.loop-priority-preserved
loop-priority-preserved c = λ text said all.
    let l = c.loop-priority in
    let IsPath = IsPathFrom text c.args.from.now in
    let paths = l.invariant text said all in
    let found : IfSome c.in_ok-path.field-0 IsPath
    = c.in_ok-path.ensures text (said l.priority-index _ (omega arith))
    (rw c.as_slice.ensures.value paths) in
    elim c.match-branch-2.branch [
      | in-Some+in_ok-push w ↦ rw (w.paths-is, w.in_ok-push.ensures.items)
          (All-push IsPath l.paths.items w.in-Some.path paths (rw w.in-Some.is at found))
      | in_default w ↦ rw w.paths-is paths
    ]
