use Rattle.bip_host.proofs.actors.finish.Given as goal

abbrev pub invariant-loop-turn : goal.invariant-loop-turn
invariant-loop-turn g l = g.A.Actor.awaits l.actor l.act

abbrev pub decreases-loop-turn : goal.decreases-loop-turn
decreases-loop-turn g l = g.A.Actor.left l.actor
