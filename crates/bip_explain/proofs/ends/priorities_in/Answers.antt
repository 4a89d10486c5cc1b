use Rattle.std.proofs.Common.{◌+◌}
use Rattle.std.proofs.lemmas.List.Elements.{All-push}
use Rattle.bip_explain.specs.Ends.{IsSaidIn}
use Rattle.bip_explain.proofs.LineLemmas.{at_next}
use Rattle.bip_explain.proofs.ends.priorities_in.Goals as goal

pub loop-number-preserved-in-Continue-1 : goal.loop-number-preserved-in-Continue-1
loop-number-preserved-in-Continue-1 c =
    let l = c.loop-number in
    let next = at_next _ _ _ _ _ _ l.invariant.at.1 c.in-Some.ensures.steps in
    record {
      at = (l.invariant.at.0 + 1, next.later);
      all = rw c.in_ok-push.ensures.items (All-push
          (IsSaidIn c.args.text.now) l.said.items c.in-Some-priority_on.priority l.invariant.all
          (rw (c.in-Some-priority_on.ensures.number, next.line_is)
          c.in-Some-priority_on.ensures.says));
    }

pub loop-number-preserved : goal.loop-number-preserved
loop-number-preserved c =
    let l = c.loop-number in
    let next = at_next _ _ _ _ _ _ l.invariant.at.1 c.in-Some.ensures.steps in
    record { at = (l.invariant.at.0 + 1, next.later); all = l.invariant.all }
