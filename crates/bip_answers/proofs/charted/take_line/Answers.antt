use Rattle.std.proofs.Common.{sym}
use Rattle.bip_answers.proofs.ChartLemmas.{none_said, nothing_said, one_refused, one_said}
use Rattle.bip_answers.proofs.ChartLemmas.{shows_itself}
use Rattle.bip_answers.proofs.charted.take_line.Goals as goal

pub returns-in-Ok-None-clause-drawn : goal.returns-in-Ok-None-clause-drawn
returns-in-Ok-None-clause-drawn c = λ base gs drawn.
    nothing_said base gs c.args.line.now c.args.chart.now drawn
    (rw (c.model.ensures, c.position.ensures, c.in-Ok-None.field-0-is) at
    (sym c.in-Ok-None.ensures))

pub returns-in-Err-clause-drawn : goal.returns-in-Err-clause-drawn
returns-in-Err-clause-drawn c = λ base gs drawn.
    rw c.from.ensures
    (none_said base gs c.args.line.now c.args.chart.now drawn c.in-Err.fault
    (rw (c.model.ensures, c.position.ensures) at (sym c.in-Err.ensures)))

pub returns-in-Ok-clause-drawn : goal.returns-in-Ok-clause-drawn
returns-in-Ok-clause-drawn c = λ base gs drawn.
    one_said base gs c.args.line.now c.args.chart.now drawn c.in-Ok-Some.grant c.add.new.self
    (rw (c.model.ensures, c.position.ensures, c.in-Ok-Some.field-0-is) at
    (sym c.in-Ok-Some.ensures))
    c.in-Ok.ensures.on.model (c.in-Ok.ensures.drawn base gs drawn)

pub returns-in-NotNext-clause-on : goal.returns-in-NotNext-clause-on
returns-in-NotNext-clause-on c =
    let fault = rw c.in-NotNext.is at c.in-Err-add.ensures.fault in
    shows_itself c.args.chart.now c.add.new.self fault.1

pub returns-in-NotNext-clause-drawn : goal.returns-in-NotNext-clause-drawn
returns-in-NotNext-clause-drawn c = λ base gs drawn.
    let fault = rw c.in-NotNext.is at c.in-Err-add.ensures.fault in
    rw c.from-in-NotNext.ensures
    (one_refused base gs c.args.line.now c.args.chart.now drawn c.in-Ok-Some.grant c.add.new.self
    c.in-NotNext.why
    (rw (c.model.ensures, c.position.ensures, c.in-Ok-Some.field-0-is) at
    (sym c.in-Ok-Some.ensures)) fault)
