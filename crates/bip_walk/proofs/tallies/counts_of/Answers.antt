use Rattle.std.proofs.Common.{◌∙◌, arith, sym}
use Rattle.std.specs.List.{count_by}
use Rattle.std.proofs.lemmas.List.FromFn.{map-range_with_len_more}
use Rattle.bip_walk.specs.Tallies.{count_of_one, is_of_inter}
use Rattle.bip_walk.proofs.tallies.counts_of.Goals as goal

pub loop-number-preserved : goal.loop-number-preserved
loop-number-preserved c = (
  c.push.ensures.items ∙ rw (c.loop-number.invariant.0, c.count_of.ensures) (
      sym (map-range_with_len_more (λ a. count_of_one (count_by (is_of_inter a) c.args.grants.now))
      0 c.loop-number.number c.loop-number.number (omega arith))),
  omega (arith, c.push.ensures.len, c.loop-number.invariant.1),
)
