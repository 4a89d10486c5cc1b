use Rattle.std.proofs.Common.{◌∙◌, ap, refl, sym, subst}
use Rattle.std.proofs.lemmas.Bool.{false≢true}
use Rattle.bip_forks.proofs.SideLemmas.{nothing_at, side_at_place, side_laid, side_unlaid}
use Rattle.bip_forks.specs.declared.shares.Side.{Side}
use Rattle.bip_forks.specs.Sides.{AreByNumber}
use Rattle.bip_forks.proofs.sides.Sides.lay.Goals as goal

pub place_with-requires : goal.place_with-requires
place_with-requires c = (
  c.self.inside.count,
  subst (AreByNumber 0 c.self.inside.count) (sym c.deref.ensures.value) c.self.invariant,
)

pub invariant_of-self : goal.invariant_of-self
invariant_of-self c =
    let at = side_at_place c.self.inside.count c.self.inside.shared.items c.deref.result.now
    c.args.self.now c.args.other.0 c.in-Some.place c.index_mut.result.now c.self.invariant
    c.self.view_is c.deref.ensures.value c.in-Some.ensures.some c.index_mut.ensures.value in
    at.order c.lay.new.self

pub returns-in-Some-clause-ok : goal.returns-in-Some-clause-ok
returns-in-Some-clause-ok c =
    let at = side_at_place c.self.inside.count c.self.inside.shared.items c.deref.result.now
    c.args.self.now c.args.other.0 c.in-Some.place c.index_mut.result.now c.self.invariant
    c.self.view_is c.deref.ensures.value c.in-Some.ensures.some c.index_mut.ensures.value in
    side_laid c.self.inside.count c.self.inside.shared.items c.args.self.now c.args.other.0
    c.in-Some.place c.index_mut.result.now c.lay.new.self c.args.fork c.args.clean c.lay.result at
    c.lay.ensures.ok

pub returns-in-Some-clause-err : goal.returns-in-Some-clause-err
returns-in-Some-clause-err c =
    let at = side_at_place c.self.inside.count c.self.inside.shared.items c.deref.result.now
    c.args.self.now c.args.other.0 c.in-Some.place c.index_mut.result.now c.self.invariant
    c.self.view_is c.deref.ensures.value c.in-Some.ensures.some c.index_mut.ensures.value in
    side_unlaid c.self.inside.count c.self.inside.shared.items c.args.self.now c.args.other.0
    c.in-Some.place c.index_mut.result.now c.lay.new.self c.args.fork c.lay.result at
    c.lay.ensures.err

pub returns-in-None-clause-err : goal.returns-in-None-clause-err
returns-in-None-clause-err c =
    let none = nothing_at c.self.inside.count c.self.inside.shared.items c.deref.result.now
    c.args.self.now c.args.other.0 c.self.view_is c.deref.ensures.value c.in-None.ensures.none in
    (refl, refl, λ has. false≢true (ap (λ (s : Side). s.shared) (sym none) ∙ has.0))
