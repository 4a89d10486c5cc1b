use Rattle.std.proofs.Common.{◌∙◌, ap, arith, refl, subst}
use Rattle.bip_core.specs.declared.runs.Report.{Report}
use Rattle.bip_schedule.proofs.FigureLemmas.{figures_joined}
use Rattle.bip_schedule.specs.Exploring.{SeedFigures}
use Rattle.bip_walk.specs.Tallies.{JoinsTallies, Tallied}
use Rattle.bip_schedule.proofs.checking.Checked.join.Goals as goal

pub invariant_of-self : goal.invariant_of-self
invariant_of-self c = record {
  adds_up = c.joined_report-self-inside.ensures.adds_up;
  events =
      let sums = ap (λ (r : Report). r.events) c.joined_report-self-inside.ensures.sums in
      let traces = c.join.ensures.traces in
      omega (arith, sums, traces, c.self.invariant.events, c.more.invariant.events);
}

pub returns : goal.returns
returns c =
    let mine = c.self.view_is in
    let theirs = c.more.view_is in
    let report = λ (f : SeedFigures). f.report in
    let tally = λ (f : SeedFigures). f.tally in
    let after = c.join.new.self in
    figures_joined c.args.self.now c.args.more.now _
    (c.joined_report-self-inside.ensures.sums ∙ rw (ap report mine, ap report theirs) refl)
    (subst (λ (t : Tallied). JoinsTallies t c.args.more.now.tally after) (ap tally mine)
    (subst (λ (t : Tallied). JoinsTallies c.self.inside.tally t after) (ap tally theirs)
    c.join.ensures.joins))
