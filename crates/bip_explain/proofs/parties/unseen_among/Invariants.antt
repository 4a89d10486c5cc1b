use Rattle.std.proofs.Common.{◌≡◌, take}
use Rattle.bip_explain.specs.Parties.{unseen_among}
use Rattle.bip_explain.proofs.parties.unseen_among.Given as goal

abbrev pub invariant-loop-comp : goal.invariant-loop-comp
invariant-loop-comp l = l.unseen.items ≡ unseen_among l.wants (take l.comp-index l.participants)
