use Rattle.bip_sequence.proofs.TextLemmas.{more_written}
use Rattle.bip_sequence.specs.Sequences.{lifeline_text}
use Rattle.bip_sequence.proofs.sequences.write_lifelines.Goals as goal

pub loop-number-preserved : goal.loop-number-preserved
loop-number-preserved c =
    more_written (lifeline_text c.args.grid.now c.args.plan.now c.args.stations.now)
    c.loop-number.number c.args.text.now.items c.loop-number.text.items _ c.loop-number.invariant
    c.in_ok-write_lifeline.ensures
