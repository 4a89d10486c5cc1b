use Rattle.std.proofs.Common.{◌∙◌, List, ap, arith, sym}
use Rattle.bip_forks.proofs.SideLemmas.{rows_listed}
use Rattle.bip_forks.specs.Sides.{listed_sides}
use Rattle.bip_forks.specs.Stations.{rows_here}
use Rattle.bip_forks.specs.declared.sides.Shared.{Shared}
use Rattle.bip_forks.proofs.sides.Sides.listed.Goals as goal

pub returns : goal.returns
returns c = ap (λ (zs : List Shared). rows_here (listed_sides zs)) c.as_slice.ensures.value
    ∙ (sym (rows_listed c.self.inside.count 0 c.self.inside.count c.self.inside.shared.items
    (omega arith) c.self.invariant) ∙ ap rows_here c.self.view_is)
