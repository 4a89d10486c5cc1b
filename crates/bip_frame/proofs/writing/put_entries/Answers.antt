use Rattle.std.proofs.Common.{arith}
use Rattle.std.proofs.lemmas.Grind.{common_steps}
use Rattle.bip_frame.specs.Frames.{IsEntry}
use Rattle.bip_frame.proofs.WritingLemmas.{one_more_fits}
use Rattle.bip_frame.proofs.writing.put_entries.Goals as goal

pub loop-want-preserved : goal.loop-want-preserved
loop-want-preserved o c = (
  grind (arith, common_steps, c.loop-want.invariant.0, c.put_entry.ensures.items),
  one_more_fits IsEntry c.args.wants.now c.loop-want.want-index _ c.loop-want-test.true
      c.loop-want.invariant.1 c.put_entry.ensures.fits,
  omega (arith, c.loop-want.invariant.2, c.put_entry.ensures.len),
)
