use Rattle.std.proofs.Common.{◌≡◌, [], ap, ◌++◌, ◌∙◌, List, ℕ, rules}
use Rattle.std.specs.Prelude.{codes}
use Rattle.bip_model.proofs.ListLemmas.{empty_is}
use Rattle.bip_replay.proofs.ExpectedLemmas.{expects_as_written}
use Rattle.bip_replay.specs.Runs.{standing_of}
use Rattle.bip_replay.proofs.expected.read_spelled.Goals as goal

pub returns : goal.returns
returns c =
    let none : c.in_ok-rest.rest.now ≡ [] = empty_is c.in_ok-rest.rest.now (search rules) in
    expects_as_written (standing_of c.args.position.now) c.args.line.now c.in_ok-name.name.now
    c.in_ok-name.wants.now c.in_ok-inter.inter.0 (rw c.model.ensures at c.in_ok-inter.ensures)
    (c.in_ok-strip.ensures ∙ ap (λ (t : List ℕ). codes "grant " ++ t) c.in_ok-name.ensures)
    (rw none at c.in_ok-rest.ensures)
