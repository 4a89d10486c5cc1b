use Rattle.std.proofs.Common.{refl, ◌≡◌, ◌++◌, ◌∷◌, []}
use Rattle.bip_model.proofs.NameLemmas.{apart_push}
use Rattle.bip_model.proofs.naming.Names.push.Goals as goal

pub returns-clause-ok : goal.returns-clause-ok
returns-clause-ok c = rw c.in_ok-insert.ensures.keys (rw c.self.view_is (rw c.requires refl))

pub invariant_of-self-2 : goal.invariant_of-self-2
invariant_of-self-2 c =
    let old = c.args.self.now in
    let new : c.insert.new.self.keys ≡ old ++ c.args.name ∷ [] =
    rw c.in_ok-insert.ensures.keys (rw c.self.view_is (rw c.requires refl)) in
    rw new (apart_push c.args.name old c.requires (rw (← c.self.view_is) c.self.invariant))
