use Rattle.std.proofs.Common.{◌≡◌, ℕ, eqb, take}
use Rattle.std.specs.List.{list_any}
use Rattle.bip_model.specs.Parts.{Participant}
use Rattle.bip_model.specs.Sets.{has}
use Rattle.bip_partition.proofs.footprints.set_moved.Given as goal

abbrev pub invariant-loop-participant : goal.invariant-loop-participant
invariant-loop-participant l = (c : ℕ) → has l.set c ≡ list_any (λ (q : Participant). eqb q.0.0 c)
    (take l.participant-index l.participants)
