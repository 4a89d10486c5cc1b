use Rattle.std.proofs.Common.{◌≡◌, ◌∙◌, ap, arith, refl, subst, sym}
use Rattle.bip_model.specs.Steps.{after}
use Rattle.bip_model.specs.declared.parts.System.{System}
use Rattle.bip_replay.specs.Runs.{Standing, standing_of}
use Rattle.bip_draw.specs.Charts.{HasDrawn}
use Rattle.bip_draw.proofs.ChartLemmas.{draws_on, sketch}
use Rattle.bip_draw.proofs.charts.Chart.add.Goals.{else-number-self, then-number-self}
use Rattle.bip_draw.proofs.charts.Chart.add.Goals as goal

pub returns-in-Ok-clause-drawn : goal.returns-in-Ok-clause-drawn
returns-in-Ok-clause-drawn c = λ base gs old.
    let s = c.self.inside in
    let m = s.sheet.model.now in
    let classes = s.sheet.classes.now in
    let x = s.sheet.excerpt in
    let g = c.args.grant.now in
    let is = c.self.invariant in
    let before : HasDrawn base gs
    (sketch m classes x s.position s.count s.rows s.above s.text.items) =
    subst (HasDrawn base gs) (sym c.self.view_is) old in
    let on : (standing_of c.step.new.self).state
    ≡ after m (standing_of s.position).state g.inter.0 =
    ap (λ (p : Standing). p.state) c.in_default.ensures.on
    ∙ ap (λ (n : System). after n (standing_of s.position).state g.inter.0) is.3.model in
    let written =
    rw (is.3.here, c.state.ensures, is.0.laid) at c.in-Ok.ensures.text in
    let counted = rw is.0.laid at c.in-Ok.ensures.rows in
    elim c.if-number-self.branch [
      | then-number-self w ↦
          rw w.self-inside-is
          (draws_on m classes x base gs g s.position c.step.new.self s.count s.rows c.in-Ok.rows
          s.above w.run.new.state s.text.items c.add_row-rows.new.text.items before
          (record {
            next = c.in_default.ensures.next;
            on = c.in_default.ensures.on;
            counted = counted;
            early = λ early.
                w.run.ensures.fired
                ∙ rw (is.3.early (omega (arith, early)), w.inter.ensures) (sym on);
            late = λ late. absurd (omega (arith, late, w.if-number-self.true));
            written = written;
          }))
      | else-number-self w ↦
          rw w.self-inside-is
          (draws_on m classes x base gs g s.position c.step.new.self s.count s.rows c.in-Ok.rows
          s.above s.above s.text.items c.add_row-rows.new.text.items before
          (record {
            next = c.in_default.ensures.next;
            on = c.in_default.ensures.on;
            counted = counted;
            early = λ early. absurd (omega (arith, early, w.if-number-self.false));
            late = λ late. refl;
            written = written;
          }))
    ]
