use Rattle.std.proofs.Common.{refl, ◌∙◌}
use Rattle.bip_reader.proofs.WritingLemmas.{more_written}
use Rattle.bip_model.specs.States.{state_of}
use Rattle.bip_draw.specs.Ends.{value_word}
use Rattle.bip_draw.specs.Locals.{value_at}
use Rattle.bip_draw.proofs.ends.write_values.Goals as goal

pub loop-number-preserved : goal.loop-number-preserved
loop-number-preserved c = c.in_ok-write_value.ensures
    ∙ more_written (λ v. value_word c.args.component.now v (value_at (state_of c.args.state.now)
    c.args.comp v)) c.loop-number.number c.args.text.now.items c.loop-number.text.items _
    c.loop-number.invariant (rw c.value_at.ensures refl)
