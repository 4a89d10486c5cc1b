use Rattle.std.proofs.Common.{◌≡◌, ◌∙◌, [], get_or, sym, arith}
use Rattle.std.proofs.lemmas.List.{nil_from_length}
use Rattle.bip_core.specs.Mailbags.{of_group}
use Rattle.bip_core.proofs.PieceLemmas.{left_out}
use Rattle.bip_core.proofs.mailbags.drop_empty_group.Goals as goal

pub returns-then-len-eq0 : goal.returns-then-len-eq0
returns-then-len-eq0 c =
    let groups = c.args.groups.now.items in
    let group = c.index.result.now in
    let none : get_or groups c.args.piece group ≡ [] = sym c.index.ensures
    ∙ nil_from_length group (omega arith) in
    rw c.remove-empty.ensures.items (left_out of_group groups c.args.piece group c.requires none)
