use Rattle.std.proofs.Common.{◌≡◌, ◌++◌, drop}
use Rattle.bip_tell.specs.Lines.{put_text}
use Rattle.bip_tell.proofs.lines.write_put.Given as goal

abbrev pub invariant-loop-place : goal.invariant-loop-place
invariant-loop-place g l =
    l.text.items ++ put_text l.plan l.place (drop l.place l.world.mail)
    ≡ l.initial.text.items ++ put_text l.plan l.left (drop l.left l.world.mail)
