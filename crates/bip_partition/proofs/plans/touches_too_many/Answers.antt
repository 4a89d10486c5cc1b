use Rattle.std.proofs.Common.{ltb-true, lt-ltb}
use Rattle.bip_partition.proofs.TableLemmas.{too_many}
use Rattle.bip_partition.proofs.plans.touches_too_many.Goals as goal

pub returns : goal.returns
returns c =
    let many = too_many c.args.model.now c.args.inter.0 c.count_touched.result
    c.count_touched.ensures in (
      λ test. many.0 (ltb-true 32 c.count_touched.result test),
      λ is. lt-ltb 32 c.count_touched.result (many.1 is),
    )
