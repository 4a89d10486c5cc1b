use Rattle.std.proofs.Common.{◌≡◌}
use Rattle.bip_explain.specs.Ends.{has_located, has_location}
use Rattle.bip_explain.proofs.ends.has_location.Given as goal

abbrev pub invariant-loop-number : goal.invariant-loop-number
invariant-loop-number l = has_location l.text l.line
    ≡ has_located l.line l.is_located l.number-iterator
