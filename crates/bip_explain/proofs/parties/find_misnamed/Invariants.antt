use Rattle.std.proofs.Common.{ℕ, ◌<◌}
use Rattle.bip_explain.specs.Parties.{IsNamedRight}
use Rattle.bip_explain.proofs.parties.find_misnamed.Given as goal

abbrev pub invariant-loop-number : goal.invariant-loop-number
invariant-loop-number l =
    (c : ℕ) → c < l.number → IsNamedRight l.model l.inter.0 l.wants c
