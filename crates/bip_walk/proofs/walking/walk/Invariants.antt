use Rattle.bip_walk.proofs.WalkingLemmas.{IsWalkedSoFar}
use Rattle.bip_walk.specs.Walking.{TellDrawableOf}
use Rattle.bip_walk.proofs.walking.walk.Given as goal

abbrev pub invariant-loop : goal.invariant-loop
invariant-loop l =
    IsWalkedSoFar l.plan.model l.base l.seed l.counter l.book l.words
    × TellDrawableOf l.book l.choices
