use Rattle.std.proofs.Common.{◌<◌, ap, arith, length, rules}
use Rattle.bip_forks.proofs.RowLemmas.{map_step}
use Rattle.bip_forks.specs.Sides.{with_other_side}
use Rattle.bip_forks.specs.Stations.{rewritten}
use Rattle.bip_forks.specs.declared.shares.Side.{Side}
use Rattle.bip_forks.specs.declared.sides.Shared.{Shared}
use Rattle.bip_forks.proofs.sides.write_all.Goals as goal

pub loop-place-preserved : goal.loop-place-preserved
loop-place-preserved c =
    let within : c.loop-place.place < length c.args.shared.now.items =
    first_of (search rules, omega arith) in
    map_step (λ (x : Shared). with_other_side (rewritten c.args.rows.now x.side) x)
    c.args.shared.now.items c.loop-place.shared.items c.loop-place.place c.index_mut.result.now
    (with_other_side c.write.new.self c.index_mut.result.now) within c.loop-place.invariant
    c.index_mut.ensures.value
    (ap (λ (s : Side). with_other_side s c.index_mut.result.now) c.write.ensures)
