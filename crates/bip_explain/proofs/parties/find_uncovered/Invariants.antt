use Rattle.std.proofs.Common.{ℕ, ◌<◌, get_or}
use Rattle.bip_model.specs.Parties.{Cover}
use Rattle.bip_model.specs.States.{state_of}
use Rattle.bip_model.specs.declared.numbering.InterId.{InterId}
use Rattle.bip_explain.proofs.parties.find_uncovered.Given as goal

abbrev pub invariant-loop-above : goal.invariant-loop-above
invariant-loop-above l = (k : ℕ) (d : InterId) → k < l.above-index
    → Cover l.model (state_of l.state) l.wants (get_or l.above-items k d).0
