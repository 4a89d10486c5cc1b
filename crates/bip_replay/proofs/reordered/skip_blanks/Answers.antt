use Rattle.std.proofs.Common.{rules}
use Rattle.bip_replay.proofs.ReorderedLemmas.{blanks_none, blanks_more}
use Rattle.bip_replay.proofs.reordered.skip_blanks.Goals as goal

pub loop-first-init : goal.loop-first-init
loop-first-init c = blanks_none c.args.text.now

pub loop-first-preserved : goal.loop-first-preserved
loop-first-preserved c = blanks_more c.args.text.now c.loop-first.rest.now c.in-Some.behind.now
    c.in-Some.first.now c.loop-first.invariant (search rules) (search rules)
