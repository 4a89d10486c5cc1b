use Rattle.std.proofs.Common.{◌≡◌}
use Rattle.bip_model.specs.Texts.{words}
use Rattle.bip_explain.specs.Unknown.{has_participant}
use Rattle.bip_explain.proofs.unknown.is_in_head.Given as goal

abbrev pub invariant-loop-placed : goal.invariant-loop-placed
invariant-loop-placed l =
    has_participant l.component (words l.fn.left.rest.now)
    ≡ has_participant l.component (words l.placed-iterator.rest.now)
