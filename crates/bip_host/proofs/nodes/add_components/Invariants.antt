use Rattle.std.specs.Prelude.{◌≡◌, ◌+◌, length}
use Rattle.bip_host.proofs.nodes.add_components.Given as goal

abbrev pub invariant-loop-actor : goal.invariant-loop-actor
invariant-loop-actor g l =
    length l.nodes.items ≡ length l.fn.nodes.items + length l.yielded
