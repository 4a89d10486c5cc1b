use Rattle.std.proofs.Common.{rules, arith}
use Rattle.bip_words.proofs.StepLemmas.{splits}
use Rattle.bip_words.proofs.tables.WordTable.split.Goals as goal

pub split_seat-token-requires : goal.split_seat-token-requires
split_seat-token-requires c = let count = c.self.invariant.1 in
    (search rules, omega (arith, count), splits _ _ _)
