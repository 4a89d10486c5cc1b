use Rattle.std.proofs.Common.{◌≡◌, ℕ, ◌<◌, false}
use Rattle.bip_model.specs.Texts.{line_at}
use Rattle.bip_explain.specs.Placed.{said_words}
use Rattle.bip_explain.specs.Twice.{say_same}
use Rattle.bip_explain.proofs.LineLemmas.{IsAtLine}
use Rattle.bip_explain.proofs.twice.find_said.Given as goal

abbrev pub invariant-loop-other : goal.invariant-loop-other
invariant-loop-other l =
    (m : ℕ) × IsAtLine l.text m l.other-iterator
    × ((n : ℕ) → n < m → say_same (said_words l.line) (said_words (line_at l.text n)) ≡ false)
