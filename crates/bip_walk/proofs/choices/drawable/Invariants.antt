use Rattle.std.proofs.Common.{◌≤◌, length}
use Rattle.bip_walk.specs.Choices.{IsListChosen}
use Rattle.bip_walk.proofs.choices.drawable.Given as goal

abbrev pub invariant-loop-number : goal.invariant-loop-number
invariant-loop-number l =
    IsListChosen l.choices l.number l.list.items × (length l.list.items ≤ l.number)
