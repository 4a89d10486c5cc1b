use Rattle.std.proofs.Common.{◌≡◌, map, take}
use Rattle.bip_replay.specs.Runs.{standing_of}
use Rattle.bip_walk.specs.Choices.{want_next}
use Rattle.bip_walk.proofs.choices.grant_of.Given as goal

abbrev pub invariant-loop-comp : goal.invariant-loop-comp
invariant-loop-comp l = l.wants.items ≡ map (want_next (standing_of l.position) l.inter.0)
    (take l.comp-index l.comp-items)
