use Rattle.std.proofs.Common.{◌≡◌, take}
use Rattle.bip_replay.proofs.reordered.list_of.Given as goal

abbrev pub invariant-loop-comp : goal.invariant-loop-comp
invariant-loop-comp l = l.list.items ≡ take l.comp-index l.comps
