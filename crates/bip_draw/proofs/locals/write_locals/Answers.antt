use Rattle.std.proofs.Common.{refl, ◌∙◌}
use Rattle.bip_reader.proofs.WritingLemmas.{more_written}
use Rattle.bip_model.specs.States.{state_of}
use Rattle.bip_draw.specs.Locals.{local_part}
use Rattle.bip_draw.proofs.locals.write_locals.Goals as goal

pub loop-comp-preserved : goal.loop-comp-preserved
loop-comp-preserved c = c.in_ok-write_local_part.ensures
    ∙ more_written (local_part c.args.layout.now c.args.model.now (state_of c.args.state.now))
    c.loop-comp.comp c.args.text.now.items c.loop-comp.text.items _ c.loop-comp.invariant refl
