use Rattle.std.specs.Prelude.{All}
use Rattle.bip_explain.specs.Ends.{IsSaidIn}
use Rattle.bip_explain.proofs.ends.find_cycle.Given as goal

abbrev pub invariant-loop-name : goal.invariant-loop-name
invariant-loop-name l = All (IsSaidIn l.text) l.said.items
