use Rattle.std.proofs.Common.{◌∙◌, ◌++◌, ◌∷◌, [], List, add-one, ap, arith, refl}
use Rattle.bip_forks.proofs.SideLemmas.{count_few, order_added, side_added}
use Rattle.bip_forks.specs.declared.shares.Side.{Side}
use Rattle.bip_forks.proofs.sides.Sides.push.Goals as goal

pub overflow_cast-with : goal.overflow_cast-with
overflow_cast-with c =
    omega (
      arith,
      count_few c.self.inside.count c.self.inside.shared.items c.args.self.now
          c.self.view_is c.requires,
    )

pub overflow_add-self : goal.overflow_add-self
overflow_add-self c =
    omega (
      arith,
      count_few c.self.inside.count c.self.inside.shared.items c.args.self.now
          c.self.view_is c.requires,
    )

pub invariant_of-self-2 : goal.invariant_of-self-2
invariant_of-self-2 c = rw (c.in_ok-push.ensures.items, add-one)
    (order_added 0 c.self.inside.count c.self.inside.shared.items
    (record { with = record { 0 = c.self.inside.count }; side = c.args.side }) c.self.invariant
    refl)

pub returns-clause-ok : goal.returns-clause-ok
returns-clause-ok c = rw (c.in_ok-push.ensures.items, add-one)
    (side_added c.self.inside.count 0 c.self.inside.count c.self.inside.shared.items
    (record { with = record { 0 = c.self.inside.count }; side = c.args.side }) (omega arith)
    c.self.invariant refl
    ∙ ap (λ (zs : List Side). zs ++ c.args.side ∷ []) c.self.view_is)
