use Rattle.std.proofs.Common.{refl, ◌∙◌}
use Rattle.bip_reader.proofs.WritingLemmas.{more_written}
use Rattle.bip_replay.specs.Runs.{standing_of}
use Rattle.bip_draw.specs.Ends.{standing_line}
use Rattle.bip_draw.proofs.ends.write_components.Goals as goal

pub loop-comp-preserved : goal.loop-comp-preserved
loop-comp-preserved c = c.in_ok-write_component.ensures
    ∙ more_written (standing_line (standing_of c.args.position.now)) c.loop-comp.comp
    c.args.text.now.items c.loop-comp.text.items _ c.loop-comp.invariant refl
