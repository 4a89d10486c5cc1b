use Rattle.std.proofs.Common.{◌≡◌, ◌≤◌, ◌+◌, arith, subst, sym}
use Rattle.std.specs.Prelude.{codes}
use Rattle.bip_model.specs.States.{state_of}
use Rattle.bip_draw.specs.Charts.{HasDrawn, Sketch, chart_of, chart_width, lanes_text, legend_of}
use Rattle.bip_draw.specs.Feet.{foot_height, foot_text}
use Rattle.bip_draw.specs.Layout.{row_y}
use Rattle.bip_draw.specs.Locals.{state_text}
use Rattle.bip_draw.specs.Shapes.{chart_front}
use Rattle.bip_draw.proofs.ChartLemmas.{finished, sketch}
use Rattle.bip_draw.proofs.PartLemmas.{seven_parts}
use Rattle.bip_draw.proofs.charts.Chart.finish.Goals as goal

pub write_front-requires-clause-rows : goal.write_front-requires-clause-rows
write_front-requires-clause-rows c =
    let few : c.self.inside.rows ≤ c.self.inside.sheet.excerpt.most =
    rw (← c.self.view_is) at c.requires in omega (arith, few, c.self.invariant.2)

pub write_lanes-requires-clause-rows : goal.write_lanes-requires-clause-rows
write_lanes-requires-clause-rows c =
    let few : c.self.inside.rows ≤ c.self.inside.sheet.excerpt.most =
    rw (← c.self.view_is) at c.requires in omega (arith, few, c.self.invariant.2)

pub write_foot-requires-clause-rows : goal.write_foot-requires-clause-rows
write_foot-requires-clause-rows c =
    let few : c.self.inside.rows ≤ c.self.inside.sheet.excerpt.most =
    rw (← c.self.view_is) at c.requires in omega (arith, few, c.self.invariant.2)

pub returns : goal.returns
returns c = λ base gs old.
    let s = c.self.inside in
    let m = s.sheet.model.now in
    let classes = s.sheet.classes.now in
    let x = s.sheet.excerpt in
    let l = s.sheet.layout in
    let foot = c.args.foot.now in
    let drawn : HasDrawn base gs
    (sketch m classes x s.position s.count s.rows s.above s.text.items) =
    subst (HasDrawn base gs) (sym c.self.view_is) old in
    let few : s.rows ≤ x.most = rw (← c.self.view_is) at c.requires in
    subst (λ (k : Sketch). c.extend_from_slice-2.new.self.items
    ≡ chart_of k.model k.classes k.excerpt gs foot) c.self.view_is
    (finished m classes x base gs s.position s.count s.rows s.above s.text.items l foot
    c.extend_from_slice-2.new.self.items drawn c.self.invariant.0.laid few
    (rw (
      c.in_ok-extend_from_slice-2.ensures.items,
      c.in_ok-write_foot.ensures,
      c.in_ok-extend_from_slice.ensures.items,
      c.as_slice.ensures.value,
      c.in_ok-write_state.ensures,
      c.in_ok-write_lanes.ensures,
      c.in_ok-write_legend.ensures,
      c.in_ok-write_front.ensures,
      c.new-text.ensures.items,
    ) (seven_parts
    (chart_front (chart_width m classes l foot) (row_y l s.rows + foot_height l foot))
    (legend_of classes) (lanes_text l m s.rows) (state_text l m (state_of s.above)) s.text.items
    (foot_text l s.rows foot) (codes "</svg>\n"))))
