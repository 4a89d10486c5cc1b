use Rattle.bip_explain.proofs.ends.find_cycle.Goals as goal

pub returns-in-Some-clause-is : goal.returns-in-Some-clause-is
returns-in-Some-clause-is c = rw c.in-Some.is at (c.in_ok-lines.ensures c.args.text.now
    (rw c.as_slice.ensures.value c.loop-name.invariant))
