use Rattle.std.proofs.Common.{◌∙◌}
use Rattle.bip_table.proofs.PassLemmas.{written}
use Rattle.bip_table.specs.Passes.{tally_after_refusal}
use Rattle.bip_table.proofs.passes.note_refusal.Goals as goal

pub loop-place-preserved : goal.loop-place-preserved
loop-place-preserved c = c.set.ensures ∙ written
    (tally_after_refusal c.args.comp.0 c.args.used) c.args.tallies.now c.loop-place.tallies
    c.as_slice.result.now c.loop-place.place c.len-place-end.result _ _ c.loop-place-test.true
    c.len-place-end.ensures c.loop-place.invariant c.as_slice.ensures c.noted_refusal-tally.ensures
