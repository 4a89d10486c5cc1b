use Rattle.std.proofs.Common.{◌≡◌, take, length}
use Rattle.bip_model.specs.Expressions.{updated}
use Rattle.bip_model.proofs.expressions.update.Given as goal

abbrev pub invariant-loop-assignment : goal.invariant-loop-assignment
invariant-loop-assignment l = record {
  values : l.values ≡ updated (take l.assignment-index l.assignments) l.initial.values;
  count : length l.values ≡ length l.initial.values;
}
