use Rattle.std.proofs.Common.{◌≢◌, ℕ, take, All}
use Rattle.bip_model.specs.declared.numbering.CompId.{CompId}
use Rattle.bip_words.proofs.rows.row_of.Given as goal

abbrev pub invariant-loop-row : goal.invariant-loop-row
invariant-loop-row l = All (λ (e : CompId × ℕ). e.0.0 ≢ l.comp.0) (take l.row l.rows)
