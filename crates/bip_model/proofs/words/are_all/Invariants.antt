use Rattle.std.proofs.Common.{◌≡◌, is_some, length}
use Rattle.std.specs.List.{list_all}
use Rattle.bip_model.proofs.words.are_all.Given as goal

abbrev pub invariant-loop-word : goal.invariant-loop-word
invariant-loop-word g l = list_all (λ word. is_some (g.W.Word.read_as word)) l.rest ≡ list_all
    (λ word. is_some (g.W.Word.read_as word)) l.words

abbrev pub decreases-loop-word : goal.decreases-loop-word
decreases-loop-word g l = length l.rest
