use Rattle.std.proofs.Common.{List, None, Option, Some, subst, sym, ℕ}
use Rattle.std.proofs.lemmas.Result.{IfOk-weaker}
use Rattle.std.specs.Borrow.{Bor}
use Rattle.bip_draw.specs.declared.charts.Excerpt.{Excerpt}
use Rattle.bip_answers.specs.Charted.{AreLanesOf, IsChartAnswer, IsExcerptAnswer, no_lane}
use Rattle.bip_answers.proofs.ChartLemmas.{with_lanes}
use Rattle.bip_answers.proofs.charted.answer_chart.Goals as goal

pub returns-in_default : goal.returns-in_default
returns-in_default c =
    let m = c.args.model.now in
    let classes = c.args.classes.now in
    let shown = c.args.shown.now in
    let lanes : AreLanesOf m shown.only None =
    subst (λ (o : Option (Bor (List (Bor (List ℕ))))). AreLanesOf m o None)
    (sym c.in_default.is) tt in
    IfOk-weaker c.answer_excerpt.result _ _
    (λ answer is text means.
    with_lanes c.args.base m classes shown None text c.args.trace.now answer means lanes
    (subst (λ (x : Excerpt).
    IsExcerptAnswer c.args.base m classes x text c.args.trace.now answer)
    c.excerpt_of-excerpt.ensures (is text means))) c.answer_excerpt.ensures

pub refuse_lane-requires : goal.refuse_lane-requires
refuse_lane-requires c = rw c.in-Err-Unknown.field-0-is at c.in-Err-Unknown.ensures.fault

pub returns-in-Err-Unknown : goal.returns-in-Err-Unknown
returns-in-Err-Unknown c =
    IfOk-weaker c.refuse_lane.result _ _
    (λ answer is text means.
    subst (IsChartAnswer c.args.base c.args.shown.now text c.args.trace.now) (sym is.2)
    (no_lane c.args.model.now c.args.classes.now c.in-Some.words is.0 means c.in-Some.is is.1))
    c.refuse_lane.ensures

pub returns : goal.returns
returns c =
    let m = c.args.model.now in
    let classes = c.args.classes.now in
    let shown = c.args.shown.now in
    let named = c.as_slice.result in
    let lanes : AreLanesOf m shown.only (Some named) =
    subst (λ (o : Option (Bor (List (Bor (List ℕ))))). AreLanesOf m o (Some named))
    (sym c.in-Some.is) (rw c.as_slice.ensures.value c.in-Ok.ensures.named) in
    IfOk-weaker c.answer_excerpt-2.result _ _
    (λ answer is text means.
    with_lanes c.args.base m classes shown (Some named) text c.args.trace.now answer means lanes
    (subst (λ (x : Excerpt).
    IsExcerptAnswer c.args.base m classes x text c.args.trace.now answer)
    c.excerpt_of-excerpt-2.ensures (is text means))) c.answer_excerpt-2.ensures
