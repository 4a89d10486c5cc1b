use Rattle.std.specs.Prelude.{◌≡◌, length}
use Rattle.bip_host.proofs.starting.component_mailboxes.Given as goal

abbrev pub invariant-loop-number : goal.invariant-loop-number
invariant-loop-number l =
    length l.mailboxes.items ≡ l.number
