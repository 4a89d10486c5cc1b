use Rattle.std.proofs.Common.{◌≡◌}
use Rattle.bip_model.specs.Naming.{is_known}
use Rattle.bip_model.specs.Texts.{words}
use Rattle.bip_explain.proofs.ends.is_among.Given as goal

abbrev pub invariant-loop-placed : goal.invariant-loop-placed
invariant-loop-placed l =
    is_known l.name (words l.fn.left.rest.now) ≡ is_known l.name (words l.placed-iterator.rest.now)
