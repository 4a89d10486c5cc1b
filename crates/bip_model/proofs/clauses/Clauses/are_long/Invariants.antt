use Rattle.std.proofs.Common.{◌≡◌, ◌+◌, ◌≤◌, length}
use Rattle.std.specs.List.{list_any}
use Rattle.bip_model.proofs.clauses.Clauses.are_long.Given as goal

abbrev pub invariant-loop-clause : goal.invariant-loop-clause
invariant-loop-clause g l = record {
  few : l.count ≤ 16;
  counted : length l.self ≡ l.count + length l.clause-iterator;
  short : list_any g.C.Clause.is_long l.clause-iterator ≡ list_any g.C.Clause.is_long l.self;
}
