use Rattle.std.proofs.Common.{rules}
use Rattle.bip_words.proofs.StepLemmas.{joins}
use Rattle.bip_words.proofs.closing.take_in.Goals as goal

pub join_seat-requires : goal.join_seat-requires
join_seat-requires c = (
  search rules,
  search rules,
  c.other.invariant.0,
  c.requires.2,
  joins _ _ _ _ _ c.requires.3 c.other.invariant.1,
)
