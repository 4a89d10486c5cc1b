use Rattle.std.proofs.Common.{◌≡◌}
use Rattle.bip_explain.specs.Declarations.{declares_inside, has_inside}
use Rattle.bip_explain.proofs.declarations.declares_inside.Given as goal

abbrev pub invariant-loop-number : goal.invariant-loop-number
invariant-loop-number l =
    declares_inside l.text l.line l.component l.keyword l.name
    ≡ has_inside l.component l.keyword l.name l.line l.within l.number-iterator
