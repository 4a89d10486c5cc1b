use Rattle.bip_core.proofs.DoubledRunLemmas.{agreement_allows_copies, copies_are_refused}
use Rattle.bip_core.proofs.DoubledRunLemmas.{doubling_keeps, each_may_be_doubled, events_keep}
use Rattle.bip_core.proofs.DoubledRunLemmas.{none_need_be_doubled, runs_with_copies}
use Rattle.bip_core.proofs.laws.doubled_laws.Goals as goal

pub returns : goal.returns
returns c = record {
  each = each_may_be_doubled;
  none = none_need_be_doubled;
  allows = agreement_allows_copies;
  doubles = doubling_keeps;
  events = events_keep;
  refused = copies_are_refused;
  run = runs_with_copies;
}
