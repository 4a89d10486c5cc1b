use Rattle.std.proofs.Common.{◌∙◌, List, ap, length, sym}
use Rattle.bip_forks.proofs.SideLemmas.{length-sides_from}
use Rattle.bip_forks.specs.declared.shares.Side.{Side}
use Rattle.bip_forks.proofs.sides.Sides.len.Goals as goal

pub returns : goal.returns
returns c = sym (length-sides_from c.self.inside.count 0 c.self.inside.shared.items)
    ∙ ap (λ (zs : List Side). length zs) c.self.view_is
