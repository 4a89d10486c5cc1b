use Rattle.std.proofs.Common.{◌∙◌}
use Rattle.bip_explain.proofs.EndLemmas.{path_more}
use Rattle.bip_explain.proofs.ends.path_by.Goals as goal

pub returns-in_ok-path_on-in-Some-2 : goal.returns-in_ok-path_on-in-Some-2
returns-in_ok-path_on-in-Some-2 c = λ text said all.
    let leads = rw c.in-Some-2.is at (c.in_ok-lines_below.ensures text all) in
    let on = c.in_ok-path_on-in-Some-2 in
    path_more text c.args.from.now c.args.priority.low.now c.args.priority.line
    c.args.priority.high.now c.in-Some-2.lines.items on.field-0 on.ensures.lines
    (on.ensures.high ∙ c.in-Some.ensures.high) (rw c.in-Some.ensures.low at leads) said
