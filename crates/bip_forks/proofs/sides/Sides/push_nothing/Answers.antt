use Rattle.std.proofs.Common.{◌∙◌, ◌++◌, ◌∷◌, [], List, add-one, ap, arith}
use Rattle.bip_forks.proofs.SideLemmas.{count_few, none_added, order_more}
use Rattle.bip_forks.specs.Stations.{nothing_shared}
use Rattle.bip_forks.specs.declared.shares.Side.{Side}
use Rattle.bip_forks.proofs.sides.Sides.push_nothing.Goals as goal

pub overflow_add-self : goal.overflow_add-self
overflow_add-self c =
    omega (
      arith,
      count_few c.self.inside.count c.self.inside.shared.items c.args.self.now
          c.self.view_is c.requires,
    )

pub invariant_of-self : goal.invariant_of-self
invariant_of-self c = rw add-one
    (order_more 0 c.self.inside.count c.self.inside.shared.items c.self.invariant)

pub returns : goal.returns
returns c = rw add-one
    (none_added c.self.inside.count 0 c.self.inside.count c.self.inside.shared.items (omega arith)
    c.self.invariant ∙ ap (λ (zs : List Side). zs ++ nothing_shared ∷ []) c.self.view_is)
