use Rattle.std.proofs.Common.{◌≡◌, ℕ, ◌*◌, ◌++◌, map, take}
use Rattle.bip_model.specs.declared.numbering.CompId.{CompId}
use Rattle.bip_words.proofs.tables.push_numbers.Given as goal

abbrev pub invariant-loop-entry : goal.invariant-loop-entry
invariant-loop-entry l = l.words.items ≡ l.initial.words.items ++ map
    (λ (e : CompId × ℕ). l.times * e.1) (take l.entry-index l.entries)
