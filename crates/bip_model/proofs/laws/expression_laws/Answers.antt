use Rattle.bip_model.proofs.ExpressionLemmas.{sums_are_integers, transfers_at_once}
use Rattle.bip_model.proofs.ExpressionLemmas.{transfers_in_any_order, updates_in_order}
use Rattle.bip_model.proofs.ExpressionLemmas.{updates_one_by_one}
use Rattle.bip_model.proofs.laws.expression_laws.Goals as goal

pub returns : goal.returns
returns c = record {
  sums = sums_are_integers;
  transfers = transfers_at_once;
  any_order = transfers_in_any_order;
  updates = updates_in_order;
  one_by_one = updates_one_by_one;
}
