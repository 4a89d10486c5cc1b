use Rattle.std.specs.Prelude.{All}
use Rattle.bip_reader.specs.Writing.{IsSpelledTransition}
use Rattle.std.proofs.Common.{◌≡◌, ◌++◌, take}
use Rattle.std.specs.List.{flat_map}
use Rattle.bip_reader.specs.Writing.{line_of_transition}
use Rattle.bip_reader.proofs.writing.write_transitions.Given as goal

abbrev pub invariant-loop-transition : goal.invariant-loop-transition
invariant-loop-transition l = (l.text.items ≡ l.initial.text.items ++ flat_map
    (line_of_transition l.component) (take l.transition-index l.transition-items))
    × All IsSpelledTransition (take l.transition-index l.transition-items)
