use Rattle.std.proofs.Common.{◌∙◌, ap, map, refl, sym, subst}
use Rattle.std.proofs.Common.{List}
use Rattle.bip_forks.proofs.SideLemmas.{order_mapped, sides_mapped}
use Rattle.bip_forks.specs.Sides.{AreByNumber, sides_from}
use Rattle.bip_forks.specs.Stations.{rewritten}
use Rattle.bip_forks.specs.declared.shares.Side.{Side}
use Rattle.bip_forks.proofs.sides.Sides.write_all.Goals as goal

pub invariant_of-self : goal.invariant_of-self
invariant_of-self c = subst (AreByNumber 0 c.self.inside.count) (sym c.write_all.ensures)
    (order_mapped (rewritten c.args.rows.now) 0 c.self.inside.count c.self.inside.shared.items
    c.self.invariant)

pub returns : goal.returns
returns c = ap (sides_from c.self.inside.count 0) c.write_all.ensures
    ∙ (sides_mapped (rewritten c.args.rows.now) c.self.inside.count 0 c.self.inside.shared.items
    refl ∙ ap (λ (zs : List Side). map (rewritten c.args.rows.now) zs) c.self.view_is)
