use Rattle.std.proofs.Common.{◌∙◌}
use Rattle.bip_forks.proofs.SideLemmas.{nowhere_listed, number_at}
use Rattle.bip_forks.proofs.sides.place_with.Goals as goal

pub returns-then-shared-place-clause-none : goal.returns-then-shared-place-clause-none
returns-then-shared-place-clause-none c = nowhere_listed c.requires.0 c.args.shared.now
    c.args.other.0 c.first_from-place.result c.requires.1 c.first_from-place.ensures.before
    c.first_from-place.ensures.onward
    (λ within is. c.if-shared-place.true
    (number_at c.args.shared.now c.first_from-place.result c.index-shared-place.result within ∙ is))
