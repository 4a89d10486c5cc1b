use Rattle.std.proofs.Common.{◌<◌, ◌≤◌, ◌∙◌, arith, subst, sym}
use Rattle.std.proofs.lemmas.Result.{IfOk-weaker}
use Rattle.bip_answers.specs.Charted.{IsPictured, most_rows}
use Rattle.bip_answers.proofs.ChartLemmas.{overlong, pictured}
use Rattle.bip_answers.proofs.charted.answer_begun.Goals as goal

pub returns-then-rows : goal.returns-then-rows
returns-then-rows c =
    let chart = c.args.chart.now in
    let x = c.args.excerpt.now in
    let many : most_rows < chart.rows = omega (arith, c.if-rows.true, c.rows.ensures) in
    IfOk-weaker c.refuse_rows.result _ _
    (λ answer is base gs drawn.
    subst (IsPictured chart.model chart.classes x gs c.args.verdict) (sym is)
    (overlong base gs x chart c.args.verdict drawn c.requires.shows many)) c.refuse_rows.ensures

pub returns : goal.returns
returns c = λ base gs drawn.
    let chart = c.args.chart.now in
    let x = c.args.excerpt.now in
    let few : chart.rows ≤ most_rows = omega (arith, c.if-rows.false, c.rows.ensures) in
    let behind = rw (c.count.ensures, c.as_slice.ensures.value) at c.foot_of-foot.ensures in
    let runs =
    rw (c.position.ensures, c.new-runnable.ensures.items) at c.in_ok-write_runnable.ensures in
    pictured base gs x chart c.args.verdict drawn c.requires.shows c.foot_of-foot.result
    c.write_runnable.new.text.items c.of.result few behind runs
    (c.of.ensures ∙ c.in_ok-picture.ensures base gs drawn)
