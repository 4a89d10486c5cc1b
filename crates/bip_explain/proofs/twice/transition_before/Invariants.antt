use Rattle.std.proofs.Common.{ℕ, IfNone, IfSome, List}
use Rattle.std.specs.Prelude.{IsTrue}
use Rattle.bip_model.specs.Texts.{line_at}
use Rattle.bip_explain.specs.Placed.{said_words}
use Rattle.bip_explain.specs.Twice.{leave_same}
use Rattle.bip_explain.proofs.LineLemmas.{IsAtLine}
use Rattle.bip_explain.proofs.TwiceLemmas.{AreOver, IsFound}
use Rattle.bip_explain.proofs.twice.transition_before.Given as goal

abbrev pub LeavesSame : List ℕ → List ℕ → ℕ → Type 0
LeavesSame text line n = IsTrue (leave_same (said_words line) (said_words (line_at text n)))

abbrev pub invariant-loop-other : goal.invariant-loop-other
invariant-loop-other l =
    (m : ℕ) × IsAtLine l.text m l.other-iterator
    × IfSome l.found (IsFound (LeavesSame l.text l.line) l.text l.number m)
    × IfNone l.found (AreOver (LeavesSame l.text l.line) l.text l.number m)
