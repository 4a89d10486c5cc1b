use Rattle.std.proofs.Common.{◌≡◌, ◌+◌, is_some, length}
use Rattle.std.specs.Option.{option_map_or}
use Rattle.bip_model.specs.Clauses.{list_form}
use Rattle.bip_model.proofs.clauses.are_clauses.Given as goal

abbrev pub invariant-loop-rest : goal.invariant-loop-rest
invariant-loop-rest g l = is_some (list_form (g.C.Clause.form l.spelling) g.C.Mark.Word.read_as
    l.rest) ≡ is_some (list_form (g.C.Clause.form l.spelling) g.C.Mark.Word.read_as l.fn.words)

abbrev pub decreases-loop-rest : goal.decreases-loop-rest
decreases-loop-rest g l = option_map_or (λ w. length w + 1) l.rest 0
