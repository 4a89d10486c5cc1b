use Rattle.std.proofs.Common.{take}
use Rattle.bip_core.specs.Events.{ArePut, are_notified}
use Rattle.bip_core.proofs.sending.notify_all.Given as goal

abbrev pub invariant-loop-notify : goal.invariant-loop-notify
invariant-loop-notify l = ArePut (are_notified (take l.notify-index l.notifies)) l.lost
    l.initial.mail l.mail
