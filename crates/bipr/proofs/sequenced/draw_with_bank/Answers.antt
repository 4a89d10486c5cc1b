use Rattle.std.proofs.Common.{ℕ, subst, sym}
use Rattle.bip_core.specs.Worlds.{world_of}
use Rattle.bip_partition.specs.Plans.{Planned}
use Rattle.bip_schedule.specs.Writing.{HaveSpelling}
use Rattle.bip_sequence.specs.Sequences.{IsSequenceChart}
use Rattle.bipr.specs.Sequenced.{events_before, last_noted}
use Rattle.bipr.proofs.SequencedLemmas.{steps_drawn, steps_too_many}
use Rattle.bipr.proofs.sequenced.draw_with_bank.Goals as goal

pub chart_events-requires-clause-spelled : goal.chart_events-requires-clause-spelled
chart_events-requires-clause-spelled g c =
    subst (λ (q : Planned). HaveSpelling q c.args.events) (sym c.in_ok-world.ensures.new.plan)
    c.requires.spelled

pub returns-then-are_too_many-clause-many : goal.returns-then-are_too_many-clause-many
returns-then-are_too_many-clause-many g c = λ text says.
    steps_too_many c.args.plan.now c.args.asked.now text (world_of c.in_ok-world.world)
    (world_of c.chart_events.new.world) c.args.events c.in_ok-report.report c.in_ok-plain.plain
    c.world_laws.ensures.plan c.in_ok-world.ensures.new
    (rw c.in_ok-world.ensures.sharing c.requires.shared) says c.in_ok-report.ensures.run
    c.in_ok-plain.ensures.ran c.in_ok-plain.ensures.answer c.in_ok-plain.ensures.reads
    (c.are_too_many.ensures.yes c.if-are_too_many.true)

pub returns-clause-drawn : goal.returns-clause-drawn
returns-clause-drawn g c =
    let w = world_of c.in_ok-world.world in
    let v = world_of c.chart_events.new.world in
    let charted = c.in_ok-report.ensures.charted in
    let rows = c.args.asked.now.rows in
    let picture = c.in_ok-report.picture.items in λ text says. (
      c.in_ok-report.report,
      steps_drawn c.args.plan.now c.args.asked.now text w v c.args.events c.in_ok-report.report
          c.in_ok-plain.plain c.world_laws.ensures.plan c.in_ok-world.ensures.new
          (rw c.in_ok-world.ensures.sharing c.requires.shared) says c.in_ok-report.ensures.run
          c.in_ok-plain.ensures.ran c.in_ok-plain.ensures.answer c.in_ok-plain.ensures.reads
          charted.0 picture
          (subst (λ (n : ℕ).
          IsSequenceChart (events_before rows) n w c.args.events charted.0 v picture)
          c.last_noted-last.ensures
          (subst (λ (n : ℕ).
          IsSequenceChart n c.last_noted-last.result w c.args.events charted.0 v picture)
          c.before-before.ensures charted.1))
          charted.2,
      c.are_too_many.ensures.no c.if-are_too_many.false,
    )
