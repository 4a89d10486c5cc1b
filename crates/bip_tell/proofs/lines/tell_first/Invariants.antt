use Rattle.std.proofs.Common.{◌≡◌, ◌++◌, drop}
use Rattle.bip_tell.specs.Lines.{each_placed, first_line, first_lines}
use Rattle.bip_tell.proofs.lines.tell_first.Given as goal

abbrev pub invariant-loop-place : goal.invariant-loop-place
invariant-loop-place g l =
    l.text.items ++ each_placed (first_line l.world.plan) l.place (drop l.place l.world.mail)
    ≡ l.initial.text.items ++ first_lines l.world.plan l.world.mail
