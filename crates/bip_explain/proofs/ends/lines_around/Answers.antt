use Rattle.bip_explain.proofs.ends.lines_around.Goals as goal

pub returns : goal.returns
returns c = λ text said. c.lines_to.ensures text c.args.name.now
    (rw c.as_slice.ensures.value (c.in_ok-paths.ensures text said))
