use Rattle.std.proofs.Common.{refl, ◌∙◌}
use Rattle.bip_reader.proofs.WritingLemmas.{more_written}
use Rattle.bip_model.specs.States.{state_of}
use Rattle.bip_draw.specs.Locals.{value_at, value_label}
use Rattle.bip_draw.proofs.locals.write_values.Goals as goal

pub loop-number-preserved : goal.loop-number-preserved
loop-number-preserved c = c.in_ok-write_value_label.ensures
    ∙ more_written (λ v. value_label c.args.layout.now c.args.component.now c.args.comp v
    (value_at (state_of c.args.state.now) c.args.comp v)) c.loop-number.number c.args.text.now.items
    c.loop-number.text.items _ c.loop-number.invariant (rw c.value_at-value.ensures refl)
