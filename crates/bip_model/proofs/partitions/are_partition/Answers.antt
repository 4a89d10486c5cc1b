use Rattle.std.proofs.Common.{rules, arith}
use Rattle.bip_model.proofs.partitions.are_partition.Goals as goal

pub returns-then-are_known : goal.returns-then-are_known
returns-then-are_known c = (
  λ all. record {
    few = omega arith;
    apart = search rules;
    filled = search rules;
    known = search rules;
    once = c.stand_once.ensures.0 all;
  },
  λ valid. c.stand_once.ensures.1 valid.once,
)
