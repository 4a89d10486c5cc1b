use Rattle.std.proofs.Common.{refl, ◌∙◌}
use Rattle.bip_reader.proofs.WritingLemmas.{more_written}
use Rattle.bip_draw.specs.Tallies.{granted_at}
use Rattle.bip_draw.proofs.tallies.write_counts.Goals as goal

pub loop-number-preserved : goal.loop-number-preserved
loop-number-preserved c = c.in_ok-write_count.ensures
    ∙ more_written (granted_at c.args.model.now c.args.counts.now) c.loop-number.number
    c.args.text.now.items c.loop-number.text.items _ c.loop-number.invariant
    (rw (c.name_at-name.ensures, c.interaction_names.ensures.names) refl)
