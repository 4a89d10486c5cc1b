use Rattle.std.proofs.lemmas.List.{take_more}
use Rattle.bip_model.specs.Priorities.{pair}
use Rattle.bip_model.proofs.AboveLemmas.{declares_more, declares_none}
use Rattle.bip_model.proofs.priorities.declared_above.Goals as goal

pub loop-pair-init : goal.loop-pair-init
loop-pair-init c = declares_none

pub loop-pair-preserved : goal.loop-pair-preserved
loop-pair-preserved c =
    rw (take_more c.args.pairs.now c.loop-pair.pair-index (pair 0 0) c.loop-pair-test.true)
    (declares_more _ _ c.loop-pair.sets c.with_inter.result c.loop-pair.invariant
    (c.requires c.loop-pair.pair-index _ c.loop-pair-test.true).low c.with_inter.ensures.has)
